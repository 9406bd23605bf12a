use Rattle.std.proofs.Common.{◌-◌, ◌≤◌, sym, mul-le-mul, arith}
use Rattle.std.proofs.lemmas.Bool.Decides.{nat_tests}
use Rattle.planner.specs.Views.{rest}
use Rattle.planner.proofs.Releases.{End, an_end, no_end}
use Rattle.planner.proofs.board.Board.start.Goals as goal
use Rattle.planner.proofs.board.Board.start.Goals.{In-Some}

pub returns-in_default : goal.returns-in_default
returns-in_default c =
    let none = no_end (rest c.args.self) c.args.tasks.now c.args.self.scaled (sym c.if-not-tasks_fit.ensures) c.in_default.ensures in
    grind (arith, nat_tests)

-- what is known of the end that is found
found : (c : goal.In-Some) → End (rest c.args.self) c.args.tasks.now c.in-Some.end
found c = an_end (rest c.args.self) c.args.tasks.now c.args.self.scaled (sym c.if-not-tasks_fit.ensures) c.in-Some.end c.in-Some.ensures

pub overflow_sub-ticks : goal.overflow_sub-ticks
overflow_sub-ticks c = omega (arith, (found (goal.at.overflow_sub-ticks c).In-Some).later)

pub share_out-requires-clause-near : goal.share_out-requires-clause-near
share_out-requires-clause-near c = omega (arith, (found (goal.at.share_out-requires-clause-near c).In-Some).near)

pub invariant_of-result : goal.invariant_of-result
invariant_of-result c =
    let b = c.args.self in
    let fine = b.fine in
    let end = found (goal.at.invariant_of-result c).In-Some in
    let few : c.in-Some.end - b.tick ≤ 134217728 = omega (arith, end.near) in
    record { tasked = end.some; ends = omega arith; short = omega (arith, mul-le-mul few fine) }
