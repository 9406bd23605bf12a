use Rattle.std.proofs.Common.{◌≡◌, ◌-◌, ◌++◌, replicate}
use Rattle.plan_file.specs.Records.{tags_at}
use Rattle.plan_file.proofs.reader.next.read_tags.Given as goal

abbrev pub invariant-loop-i : goal.invariant-loop-i
invariant-loop-i l = l.tags ≡ tags_at l.i l.bytes ++ replicate (16 - l.i) 0
