use Rattle.std.proofs.Common.{◌≡◌, length}
use Rattle.planner.specs.Views.{rest}
use Rattle.whole_plan.specs.Planning.{no_tokens}
use Rattle.whole_plan.proofs.Through.{Done}
use Rattle.whole_plan.proofs.planes.run_planes.Given as goal

abbrev pub invariant-loop-plane : goal.invariant-loop-plane
invariant-loop-plane l =
    Done (rest l.initial.board) (rest l.board) l.tasks no_tokens l.tokens l.initial.plan l.plan l._plane l.at
    × (length l.tokens ≡ 256)
