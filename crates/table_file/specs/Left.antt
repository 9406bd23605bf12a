-- The rows that are still to come.
use Rattle.std.specs.Prelude.{ℕ, zero, suc, ◌/◌, List, [], ◌∷◌, length, drop}
use Rattle.table_file.specs.declared.table.TableRow.{TableRow}
use Rattle.table_file.specs.declared.table.Rows.{Rows}
use Rattle.table_file.specs.Tables.{table_row_size, row_at}

-- so many rows with which bytes begin
abbrev pub first_rows : ℕ → List ℕ → List TableRow
first_rows zero bs = []
first_rows (suc k) bs = row_at bs 0 ∷ first_rows k (drop table_row_size bs)

-- the whole rows of bytes
abbrev pub rows_in : List ℕ → List TableRow
rows_in bs = first_rows (length bs / table_row_size) bs

abbrev pub rows_left : Rows → List TableRow
rows_left rows = rows_in rows.rest.now
