use Rattle.std.proofs.Common.{◌≡◌, ◌+◌, ◌-◌, ◌≤◌, ◌++◌, length, take, drop, Some, None, Ok, sym, refl, ap, ◌∙◌, arith}
use Rattle.plan_file.specs.Records.{record_size, record_bytes}
use Rattle.plan_file.specs.Heads.{segment, event_head}
use Rattle.plan_file.specs.Writing.{header_bytes, header_fault, write_fault}
use Rattle.plan_file.specs.Reading.{in_heads}
use Rattle.plan_file.specs.Opening.{open_fault, file_processors}
use Rattle.plan_file.specs.Files.{records_fault}
use Rattle.plan_file.proofs.Fault.{answer_is, both_none}
use Rattle.plan_file.proofs.ReadOn.{Took, took_on, ended_on, failed_on}
use Rattle.plan_file.proofs.Copied.{no_fault, header_fine, taken_writes, copied_header, copied_more, copied_all}
use Rattle.plan_file.proofs.whole.write_again.Goals as goal
use Rattle.plan_file.proofs.whole.write_again.Goals.{After-scale, In-Some}

-- the header of the file may be written
fine : (c : After-scale) → (header_fault c.processors-processors.result c.scale.result (length c.args.out.now) ≡ None)
    × (header_bytes c.processors-processors.result c.scale.result ≡ take 10 c.args.file.now) × (10 ≤ length c.args.file.now)
fine c =
    let o = c.in_ok-reader.ensures.opens in
    header_fine c.args.file.now _ _ _ (λ k. (c.type_inv.file k).fits) o.0 c.requires.room (c.processors-processors.ensures ∙ ap (λ h. h.processors) o.3) (c.scale.ensures ∙ ap (λ h. h.scale) o.3)

pub returns-in_err-at : goal.returns-in_err-at
returns-in_err-at c = absurd (no_fault _ 10 c.in_err-at.field-0.0 (fine (goal.at.returns-in_err-at c).After-scale).0 c.in_err-at.ensures.answer)

pub loop-event-init : goal.loop-event-init
loop-event-init c =
    let file = c.args.file.now in
    let m = file_processors file in
    let o = c.in_ok-reader.ensures.opens in
    let p = c.processors-processors.result in
    let q = c.scale.result in
    let h = fine (goal.at.loop-event-init c).After-scale in
    let w = c.in_ok-at.ensures in
    let a : c.in_ok-at.at ≡ 10 = answer_is (header_fault p q (length c.args.out.now)) c.in_ok-at.at 10 w.answer in
    let f = both_none (open_fault file) (records_fault m (drop 10 file)) c.requires.faultless in
    let l = h.2 in (
      ap (λ x. x.now) o.1,
      o.3,
      c.processors-processors.ensures ∙ ap (λ h. h.processors) o.3,
      a ∙ sym o.2,
      omega arith,
      ap (λ n. records_fault m (drop n file)) a ∙ f.1,
      copied_header file c.args.out.now c.write_header.new.plan (header_bytes p q) h.2 h.1 w.bytes
          ∙ ap (λ n. take n file ++ drop n c.write_header.new.plan) (sym a),
    )

pub returns-in_err-event : goal.returns-in_err-event
returns-in_err-event c =
    let file = c.args.file.now in
    let i = c.loop-event.invariant in
    let f = failed_on c.loop-event.reader.place i.0 (ap (λ h. h.processors) i.1) _ c.in_err-event.ensures.answer in
    let g : None ≡ Some c.in_err-event.field-0.0 = sym i.5 ∙ ap (λ n. records_fault (file_processors file) (drop n file)) i.3 ∙ f in
    absurd (cc)

took : (c : In-Some) → Took (file_processors c.args.file.now) c.args.file.now c.loop-event.reader.place c.next_record.new.self.place (event_head c.in-Some.event)
took c =
    let i = c.loop-event.invariant in
    let e = c.in_ok-event.ensures in
    took_on c.loop-event.reader.place i.0 (ap (λ h. h.processors) i.1) _ _ (ap (λ o. in_heads (Ok o)) (sym c.in-Some.is) ∙ e.answer) e.moves

-- what was taken may be written
fits : (c : In-Some) → (write_fault c.processors-processors.result (segment (event_head c.in-Some.event) c.next_record.new.row.places) (length c.loop-event.out - c.loop-event.at) ≡ None)
    × (record_bytes c.processors-processors.result (segment (event_head c.in-Some.event) c.next_record.new.row.places) ≡ take (record_size c.processors-processors.result) (drop c.loop-event.reader.place c.args.file.now))
fits c =
    let i = c.loop-event.invariant in
    let t = took c in
    let a = t.at in
    let b = t.inside in
    let j = i.3 in
    let room : record_size (file_processors c.args.file.now) ≤ length c.loop-event.out - c.loop-event.at = omega (arith, c.requires.room) in
    taken_writes c.args.file.now _ _ c.loop-event.row.places _ _ _ _ _ _ (λ k. (c.type_inv.file k).fits) i.0 (ap (λ h. h.processors) i.1) i.2 t c.in_ok-event.ensures.fills room

pub returns-in_err-at-2 : goal.returns-in_err-at-2
returns-in_err-at-2 c =
    absurd (no_fault _ (c.loop-event.at + record_size c.processors-processors.result) c.in_err-at-2.field-0.0 (fits (goal.at.returns-in_err-at-2 c).In-Some).0 (rw c.from.ensures at c.in_err-at-2.ensures.answer))

pub loop-event-smaller : goal.loop-event-smaller
loop-event-smaller c =
    let t = took (goal.at.loop-event-smaller c).In-Some in
    let a = t.at in
    let b = t.inside in
    omega arith

pub loop-event-preserved : goal.loop-event-preserved
loop-event-preserved c =
    let file = c.args.file.now in
    let m = file_processors file in
    let p = c.processors-processors.result in
    let at = c.loop-event.at in
    let s = segment (event_head c.in-Some.event) c.next_record.new.row.places in
    let start = c.write_header.new.plan in
    let i = c.loop-event.invariant in
    let e = c.in_ok-event.ensures in
    let t = took (goal.at.loop-event-preserved c).In-Some in
    let f = fits (goal.at.loop-event-preserved c).In-Some in
    let a = t.at in
    let b = t.inside in
    let j = i.3 in
    let w = rw c.from.ensures at c.in_ok-at-2.ensures in
    let n : c.in_ok-at-2.at ≡ at + record_size p = answer_is (write_fault p s (length c.loop-event.out - at)) c.in_ok-at-2.at (at + record_size p) w.answer in
    let k : record_size p ≡ record_size m = ap record_size i.2 in
    let q : c.in_ok-at-2.at ≡ c.next_record.new.self.place = omega arith in
    let l : at + record_size p ≤ length file = omega arith in (
      ap (λ x. x.now) e.same.0 ∙ i.0,
      e.same.1 ∙ i.1,
      i.2,
      q,
      omega arith,
      ap (λ x. records_fault m (drop x file)) q ∙ sym t.faults ∙ ap (λ x. records_fault m (drop x file)) (sym j) ∙ i.5,
      copied_more file start c.loop-event.out c.append_record.new.plan (record_bytes p s) at (record_size p) l i.6 (f.1 ∙ ap (λ x. take (record_size p) (drop x file)) (sym j)) w.bytes
          ∙ ap (λ x. take x file ++ drop x start) (sym n),
    )

pub returns : goal.returns
returns c =
    let file = c.args.file.now in
    let i = c.loop-event.invariant in
    let k = ended_on c.loop-event.reader.place i.0 (ap (λ h. h.processors) i.1) (ap (λ o. in_heads (Ok o)) (sym c.in_default.is) ∙ c.in_ok-event.ensures.answer) in
    let h = fine (goal.at.returns c).After-scale in
    let z = k.0 in
    let j = i.3 in
    let b = i.4 in
    let a : c.loop-event.at ≡ length file = omega arith in
    record {
      answer = ap Ok a;
      bytes = copied_all file c.args.out.now c.write_header.new.plan c.loop-event.out (header_bytes c.processors-processors.result c.scale.result) c.loop-event.at a h.2 refl c.in_ok-at.ensures.bytes i.6;
    }
