use Rattle.std.proofs.Common.{false, not, get_or}
use Rattle.planner.proofs.Free.{Filled}
use Rattle.planner.proofs.stepping.free_processors.Given as goal

abbrev pub invariant-loop-i : goal.invariant-loop-i
invariant-loop-i l = Filled (λ p. not (get_or l.taken p false)) l.i l.free l.count
