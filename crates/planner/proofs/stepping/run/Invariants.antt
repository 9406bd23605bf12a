use Rattle.std.proofs.Common.{◌≡◌, length}
use Rattle.planner.specs.Looking.{picked}
use Rattle.planner.proofs.Moves.{Moving}
use Rattle.planner.proofs.stepping.run.Given as goal

abbrev pub invariant-loop-token : goal.invariant-loop-token
invariant-loop-token g l =
    (length l.places ≡ 16)
    × Moving l.choice.processors (picked (g.R.Rule.ranks l.ranking.rule.now) l.ranking.span l.choice.last) l.choice.event.length l.initial.rows l.token-index l.rows l.turn l.places
