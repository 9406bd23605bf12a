use Rattle.std.proofs.Common.{◌≡◌, drop, sym, refl, arith}
use Rattle.std.proofs.lemmas.List.{take_rest}
use Rattle.rows.specs.Tests.{distinct}
use Rattle.plan_file.specs.Records.{segment_at}
use Rattle.plan_file.specs.Heads.{event_head}
use Rattle.plan_file.proofs.NextRecord.{one_read, fill_done}
use Rattle.plan_file.proofs.reader.PlanReader.next_record.Goals as goal

pub returns : goal.returns
returns c =
    let m = c.args.self.now.header.processors in
    let bs = drop c.args.self.now.place c.args.self.now.bytes.now in
    let t = take_rest c.args.self.now.bytes.now c.args.self.now.place in
    let g = simp t at c.if-rest-size.false in
    let e = simp t at c.in_ok-event.ensures in
    let r : c.read_tags.result ≡ (segment_at m bs).row = simp (t, take_rest bs 9, c.from.ensures) at c.read_tags.ensures in
    let d = fill_done (distinct (segment_at m bs).row) (simp r at c.in_ok-fill.ensures.answer) in
    let k = one_read m bs c.args.self.now.few (event_head c.in_ok-event.event) (omega arith) e d in
    record { answer = sym k.0; fills = simp k.1 (simp (r, d) at c.in_ok-fill.ensures.places); moves = simp k.1 (omega arith); same = (refl, refl) }
