use Rattle.planner.specs.Looking.{picked}
use Rattle.planner.proofs.Looks.{Seen}
use Rattle.planner.proofs.stepping.look_over.Given as goal

abbrev pub invariant-loop-token : goal.invariant-loop-token
invariant-loop-token g l = Seen (picked (g.R.Rule.ranks l.ranking.rule.now) l.ranking.span l.last) l.ranking.span l.rows l.token-index l.taken l.least l.most
