use Rattle.planner.proofs.Courses.{Course}
use Rattle.planner.proofs.steps.run_by_key.Given as goal

abbrev pub invariant-loop-left : goal.invariant-loop-left
invariant-loop-left g l =
    Course l.processors (g.R.Rule.ranks l.rule) (g.met.R.Rule.lawful l.rule) l.span l.initial.rows l.initial.plan
    l.left l.rows l.plan l.count l.«at»

abbrev pub decreases-loop-left : goal.decreases-loop-left
decreases-loop-left g l = l.left
