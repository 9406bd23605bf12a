use Rattle.std.proofs.Common.{◌≡◌, ◌-◌, ◌∷◌, ◌++◌, length, take, drop, refl, ap, ◌∙◌, arith}
use Rattle.std.proofs.lemmas.List.{take_rest, length-drop}
use Rattle.plan_file.specs.Bytes.{be64}
use Rattle.plan_file.specs.Records.{record_size, tag_bytes}
use Rattle.planner.proofs.Chooses.{on_processors}
use Rattle.planner.proofs.Courses.{runs_out, room}
use Rattle.planner.proofs.Racing.{racing_none, goes_on, some_run, tags_long}
use Rattle.planner.proofs.running.run_line.Goals as goal

pub row_of-places-requires : goal.row_of-places-requires
row_of-places-requires g c = on_processors c.args.processors c.args.span c.args.rows.now c.requires.finishes.sound

pub loop-left-init : goal.loop-left-init
loop-left-init g c = racing_none c.requires.finishes c.gather-first.ensures.within c.gather-first.ensures.lines c.row_of-places.ensures

pub loop-left-smaller : goal.loop-left-smaller
loop-left-smaller g c =
    let r = c.step_line-step in
    let told = r.ensures.step (g.R.Rule.ranks c.args.rule.now) (g.met.R.Rule.lawful c.args.rule.now) c.requires.by in
    omega (arith, some_run c.requires.finishes c.loop-left-test.true c.loop-left.invariant r.new.line r.result.freed told)

pub loop-left-preserved : goal.loop-left-preserved
loop-left-preserved g c =
    let m = c.args.processors in
    let l = c.loop-left in
    let r = c.step_line-step in
    let fits = c.requires.finishes in
    let some = c.loop-left-test.true in
    let told = r.ensures.step (g.R.Rule.ranks c.args.rule.now) (g.met.R.Rule.lawful c.args.rule.now) c.requires.by in
    let head = c.from-head.ensures in
    let long : length r.new.line ≡ length l.line - l.first = r.auto.line ∙ ap length (take_rest l.line l.first) ∙ length-drop l.first l.line in
    goes_on fits some l.invariant r.new.line r.result.freed told c.put_record.new.buf _ refl r.ensures.freed long
    (c.put_record.ensures.bytes (omega (arith, tags_long fits some l.invariant r.new.line r.result.freed told, room fits some l.invariant.course, ap length (take_rest l.plan l.at), length-drop l.at l.plan))
    ∙ (λ j. (be64 (head j).length ++ (head j).kind ∷ tag_bytes (take m r.new.places)) ++ drop (record_size (length (take m r.new.places))) (take (length l.plan - l.at) (drop l.at l.plan))))
    c.record_size-at.result c.record_size-at.ensures

pub returns : goal.returns
returns g c = runs_out (omega arith) c.clear.ensures c.loop-left.invariant.course
