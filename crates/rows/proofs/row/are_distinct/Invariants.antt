use Rattle.std.proofs.Common.{◌≡◌, drop}
use Rattle.rows.specs.Tests.{distinct}
use Rattle.rows.proofs.row.are_distinct.Given as goal

abbrev pub invariant-loop-i : goal.invariant-loop-i
invariant-loop-i l = distinct (drop l.i l.tags) ≡ distinct l.tags
