use Rattle.std.proofs.Common.{◌≡◌, ◌*◌, ◌++◌, take, drop}
use Rattle.plan_file.specs.Records.{tag_bytes}
use Rattle.plan_file.proofs.record.put_tags.Given as goal

abbrev pub invariant-loop-i : goal.invariant-loop-i
invariant-loop-i l = l.buf ≡ tag_bytes (take l.i l.tags) ++ drop (2 * l.i) l.initial.buf
