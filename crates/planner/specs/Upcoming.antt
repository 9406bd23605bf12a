-- Listing the releases ahead of a board.
use Rattle.std.specs.Prelude.{ℕ, ◌&&◌, List, Ok, Result, nat_le, nat_lt}
use Rattle.rows.specs.declared.memory.Task.{Task}
use Rattle.rows.specs.declared.refusal.Refusal.{Refusal}
use Rattle.rows.specs.declared.refusal.Refusal.TheVariants.{Memory, NoTask, Places}
use Rattle.model.specs.State.{Rest, unless}
use Rattle.model.specs.Tables.{tasks_fit}
use Rattle.ahead.specs.Ahead.{most_places}

-- whether the board lists its releases, with so much queue memory and so many places
abbrev pub upcoming_answer : Rest → List Task → ℕ → ℕ → Result (Unit {0}) Refusal
upcoming_answer b tasks memory places =
    unless (tasks_fit b tasks) Memory
    (unless (nat_lt 0 b.count) NoTask
    (unless (nat_le places most_places && nat_le b.count memory) Places
    (Ok tt)))
