use Rattle.std.proofs.Common.{◌≡◌, ℕ, ◌+◌, ◌-◌, cond, List, ◌++◌, take, drop, is_ok, sym, refl, ap, ◌∙◌, arith}
use Rattle.plan_file.specs.Records.{Segment, record_size, record_bytes}
use Rattle.rows.specs.Kinds.{kind_number}
use Rattle.plan_file.proofs.Fault.{answer_is}
use Rattle.rows.specs.declared.event.Event.{Event}
use Rattle.plan_file.specs.declared.record.RecordHead.{RecordHead}
use Rattle.plan_file.specs.Heads.{event_head}
use Rattle.planner.proofs.Courses.{course_none, course_is, runs_out, appended, more}
use Rattle.planner.proofs.steps.run_by_key.Goals as goal

-- the segment that is written is the event's
headed : (e : Event) (head : RecordHead) (places : List ℕ) → head ≡ event_head e
    → ◌≡◌ {A = Segment} (record { units = head.length; kind = head.kind; row = places }) (record { units = e.length; kind = kind_number e.kind; row = places })
headed e head places is = λ j. record { units = (is j).length; kind = (is j).kind; row = places }

pub loop-left-init : goal.loop-left-init
loop-left-init g c = course_none c.requires

pub unwrap-at-requires : goal.unwrap-at-requires
unwrap-at-requires g c =
    ap is_ok
    (appended c.requires c.loop-left-test.true c.loop-left.invariant
    (headed c.advance-event.result c.from-head.result c.advance-event.new.row.places c.from-head.ensures ∙ c.advance-event.ensures.segment) c.append_record.ensures.answer)

pub loop-left-preserved : goal.loop-left-preserved
loop-left-preserved g c =
    let m = c.args.processors in
    let l = c.loop-left in
    let told = c.advance-event.ensures in
    let it = headed c.advance-event.result c.from-head.result c.advance-event.new.row.places c.from-head.ensures ∙ told.segment in
    let next : c.unwrap-at.result ≡ l.at + record_size m = answer_is _ _ _ (sym c.unwrap-at.ensures ∙ c.append_record.ensures.answer) in
    let wrote = c.append_record.ensures.bytes
    ∙ (λ j. cond (ap is_ok c.unwrap-at.ensures j) ((take l.at l.plan ++ record_bytes m (it j)) ++ drop (l.at + record_size m) l.plan) l.plan) in
    course_is (ap (λ (x : Segment). l.left - x.units) told.segment) told.rows next (more c.requires c.loop-left-test.true l.invariant c.append_record.new.plan wrote)

pub returns : goal.returns
returns g c = runs_out (omega arith) refl c.loop-left.invariant
