use Rattle.std.proofs.Common.{◌≡◌}
use Rattle.table_file.specs.Left.{rows_left}
use Rattle.table_file.specs.Tables.{table_rows}
use Rattle.planner.specs.Views.{rest}
use Rattle.whole_plan.specs.Planning.{rows_admitted}
use Rattle.whole_plan.proofs.admission.admit_rows.Given as goal

abbrev pub invariant-loop-row : goal.invariant-loop-row
invariant-loop-row l =
    (goal.iterator-loop-row).can_next l.row-iterator
    × (goal.iterator-loop-row).is_finite l.row-iterator
    × (rows_admitted (rest l.board) l.tasks (rows_left l.row-iterator)
    ≡ rows_admitted (rest l.initial.board) l.initial.tasks (table_rows l.table.bytes.now))
