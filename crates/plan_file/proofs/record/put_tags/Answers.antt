use Rattle.std.proofs.Common.{arith}
use Rattle.plan_file.proofs.Tags.{tags_more}
use Rattle.plan_file.proofs.record.put_tags.Goals as goal

pub loop-i-preserved : goal.loop-i-preserved
loop-i-preserved c =
    simp (c.to_be_bytes.ensures, c.loop-i.invariant)
    (tags_more c.args.tags.now c.args.buf.now c.loop-i.i (omega arith) (omega arith))
