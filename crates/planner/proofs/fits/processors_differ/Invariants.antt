use Rattle.std.proofs.Common.{◌≡◌, true, map, length, take}
use Rattle.rows.specs.Tests.{distinct}
use Rattle.planner.proofs.Marks.{Marks}
use Rattle.planner.proofs.fits.processors_differ.Given as goal

abbrev pub invariant-loop-token : goal.invariant-loop-token
invariant-loop-token l =
    (length l.taken ≡ 256)
    × (distinct (map (λ x. x.processor) (take l.token-index l.rows)) ≡ true)
    × Marks l.taken (map (λ x. x.processor) (take l.token-index l.rows))
