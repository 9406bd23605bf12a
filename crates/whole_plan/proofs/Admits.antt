-- The admission of a table's rows, one after the other.
use Rattle.std.proofs.Common.{◌≡◌, ℕ, ◌+◌, ◌<◌, List, ◌∷◌, get_or, drop, Some, ap, ◌∙◌, arith}
use Rattle.std.proofs.lemmas.List.FromFn.{get_or-map-range_with_len}
use Rattle.std.proofs.lemmas.List.{at_drop_more}
use Rattle.rows.specs.declared.memory.Task.{Task}
use Rattle.table_file.specs.declared.table.TableRow.{TableRow}
use Rattle.table_file.specs.Tables.{table_count, table_row_at, table_rows}
use Rattle.table_file.proofs.TableRows.{rows_count}
use Rattle.model.specs.State.{Rest}
use Rattle.model.specs.Tables.{admitted}
use Rattle.whole_plan.specs.Planning.{and_then, rows_admitted}

-- one admission more
pub rows_more : (bs : List ℕ) (i : ℕ) (row : TableRow) (b : Rest) (tasks : List Task) → i < table_count bs → Some row ≡ Some (table_row_at bs i)
    → rows_admitted b tasks (drop i (table_rows bs))
    ≡ and_then (admitted b tasks row.tag row.execution row.period) (λ r. rows_admitted r.0 r.1 (drop (i + 1) (table_rows bs)))
rows_more bs i row b tasks h e =
    let there = get_or-map-range_with_len (table_row_at bs) 0 (table_count bs) i i row h (omega arith) in
    let f : get_or (table_rows bs) i row ≡ row = there ∙ (let z : table_row_at bs i ≡ row = cc in z) in
    at_drop_more (rows_admitted b tasks) (table_rows bs) i row (omega (arith, rows_count bs))
    ∙ ap (λ x. rows_admitted b tasks (x ∷ drop (i + 1) (table_rows bs))) f
