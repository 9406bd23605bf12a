use Rattle.std.proofs.Common.{◌≡◌, ◌*◌, ◌/◌, [], length, take, arith}
use Rattle.std.proofs.lemmas.List.{length-take-le}
use Rattle.plan_file.proofs.Tags.{pair_bytes, tags_read}
use Rattle.plan_file.proofs.reader.next.read_tags.Goals as goal

pub loop-i-preserved : goal.loop-i-preserved
loop-i-preserved c =
    let m = c.args.processors in
    let bs = c.args.bytes.now in
    let l : length (take (2 * m) bs) ≡ 2 * m = length-take-le (2 * m) bs (omega arith) in
    let k : length c.as_chunks.result.0.now ≡ m = omega arith in
    let p = rw (← c.as_chunks.ensures.front) at (pair_bytes (length (take (2 * m) bs) / 2) m c.loop-i.i bs [] (omega arith) (omega arith)) in
    simp (c.from_be_bytes.ensures, p.0, p.1, c.loop-i.invariant) (tags_read c.loop-i.i bs (omega arith))
