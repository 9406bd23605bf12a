use Rattle.planner.proofs.Racing.{Racing}
use Rattle.planner.proofs.running.run_line.Given as goal

abbrev pub invariant-loop-left : goal.invariant-loop-left
invariant-loop-left g l =
    Racing l.processors (g.R.Rule.ranks l.rule) (g.met.R.Rule.lawful l.rule) l.span l.initial.rows l.initial.plan
    l.left l.rows l.line l.first l.places l.plan l.count l.«at»

abbrev pub decreases-loop-left : goal.decreases-loop-left
decreases-loop-left g l = l.left
