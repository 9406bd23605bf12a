use Rattle.std.proofs.Common.{◌≡◌, ℕ, ◌-◌, ◌<◌, ◌≤◌, length, get_or, take, drop, None, ap, arith, rules}
use Rattle.std.proofs.lemmas.List.{length-take-le}
use Rattle.std.proofs.lemmas.Bool.Decides.{nat_tests}
use Rattle.plan_file.specs.Records.{record_size}
use Rattle.plan_file.specs.Heads.{segment}
use Rattle.plan_file.specs.Writing.{write_fault}
use Rattle.plan_file.specs.RoundTrip.{Writable}
use Rattle.plan_file.proofs.Fault.{fault_none}
use Rattle.plan_file.proofs.Undo.{written_reads}
use Rattle.plan_file.proofs.record.write_record.Goals as goal

pub returns-clause-reads_back : goal.returns-clause-reads_back
returns-clause-reads_back c =
    let m = c.args.processors in
    let places = c.args.row.now.places in
    let s = segment c.args.head places in
    let f : write_fault m s (length c.args.buf.now) ≡ None = fault_none (write_fault m s (length c.args.buf.now)) tt tt c.in_ok-check_record.ensures in
    let l : length places ≡ 16 = search rules in
    let n : c.from-m.result - 0 ≡ m = omega arith in
    let ts = take (c.from-m.result - 0) c.places.result.now in
    let u : ts ≡ take m places = cc in
    let p : m ≤ 16 = grind (arith, nat_tests) in
    let k : length (take m places) ≡ m = length-take-le m places (omega arith) in
    let room : record_size m ≤ length c.args.buf.now = grind (arith, nat_tests) in
    let b = c.put_record.ensures.bytes (omega (arith, room, ap length u, k)) in
    let fits : (i : ℕ) → get_or places i 0 < 65536 = λ i. search rules in
    let fine : write_fault m s (record_size m) ≡ None = grind (arith, nat_tests) in
    let g = simp (u, k) at b in
    let w : Writable m s = record { places = l; tags = fits; apart = c.args.row.now.apart; faultless = fine } in
    let d = written_reads m s (drop (record_size m) c.args.buf.now) w in
    λ _. simp g d
