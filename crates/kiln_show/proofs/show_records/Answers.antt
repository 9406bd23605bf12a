use Rattle.std.proofs.Common.{◌≡◌, ◌+◌, length, drop, Some, Ok, sym, ap, ◌∙◌, arith, length-drop}
use Rattle.plan_file.specs.Heads.{event_head}
use Rattle.plan_file.specs.Reading.{in_heads, next_answer}
use Rattle.plan_file.specs.Records.{record_size}
use Rattle.plan_file.proofs.NextRecord.{some_took}
use Rattle.kiln_show.proofs.show_records.Goals as goal

pub loop-event-smaller : goal.loop-event-smaller
loop-event-smaller c =
    let r = c.loop-event.reader in
    let m = r.header.processors in
    let e = c.in-Ok-Some.ensures in
    let a : Ok (Some (event_head c.in-Ok-Some.event)) ≡ next_answer m (drop r.place r.bytes.now) = ap (λ o. in_heads (Ok o)) (sym c.in-Ok-Some.field-0-is) ∙ e.answer in
    let k = some_took m (drop r.place r.bytes.now) (event_head c.in-Ok-Some.event) a in
    let z = simp length-drop at k.1 in
    let p : c.next_record.new.self.place ≡ r.place + record_size m = simp k.0 at e.moves in
    let b : length c.next_record.new.self.bytes.now ≡ length r.bytes.now = ap (λ x. length x.now) e.same.0 in
    omega arith
