use Rattle.std.proofs.Common.{length, sym, ◌∙◌}
use Rattle.planner.specs.Views.{rest}
use Rattle.planner.proofs.Ahead.{fits_answer}
use Rattle.planner.proofs.board.Board.ahead.Goals as goal

pub returns-clause-answer : goal.returns-clause-answer
returns-clause-answer c =
    c.fill_ahead.ensures.answer ∙ fits_answer (rest c.args.self.now) c.args.tasks.now (length c.args.memory.now) (length c.args.places.now) (sym c.if-not-tasks_fit.ensures)
