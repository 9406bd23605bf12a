-- A table file: the letters KTB, the version (2 bytes), processors (1), scale (4), planes (2), the count of rows (2), and rows of tag (2), execution (4) and period (4).
use Rattle.std.specs.Prelude.{ℕ, ◌+◌, ◌*◌, Bool, cond, ◌&&◌, List, map, length, Some, None, Option, ◌==◌, nat_le, slice_index}
use Rattle.std.specs.List.{range_with_len}
use Rattle.rows.specs.declared.refusal.Refusal.{Refusal}
use Rattle.rows.specs.declared.refusal.Refusal.TheVariants.{TableShort, Mark, Version, TableLength, NoPlanes, TaskCount}
use Rattle.rows.specs.Limits.{most_tasks}
use Rattle.rows.specs.Tests.{within}
use Rattle.plan_file.specs.Bytes.{at16, at32}
use Rattle.plan_file.specs.Faults.{unless}
use Rattle.table_file.specs.declared.table.TableRow.{TableRow}

-- bytes before the first row
abbrev pub table_header_size : ℕ
table_header_size = 14

abbrev pub table_row_size : ℕ
table_row_size = 10

-- the letters KTB
abbrev pub table_marked : List ℕ → Bool
table_marked bs = slice_index bs 0 == 75 && (slice_index bs 1 == 84 && slice_index bs 2 == 66)

abbrev pub table_processors : List ℕ → ℕ
table_processors bs = slice_index bs 5

abbrev pub table_scale : List ℕ → ℕ
table_scale bs = at32 bs 6

abbrev pub table_planes : List ℕ → ℕ
table_planes bs = at16 bs 10

abbrev pub table_count : List ℕ → ℕ
table_count bs = at16 bs 12

-- why bytes are no table
abbrev pub table_fault : List ℕ → Option Refusal
table_fault bs =
    unless (nat_le table_header_size (length bs)) TableShort
    (unless (table_marked bs) Mark
    (unless (at16 bs 3 == 1) Version
    (unless (length bs == table_header_size + table_row_size * table_count bs) TableLength
    (unless (nat_le 1 (table_planes bs)) NoPlanes
    (unless (within 1 most_tasks (table_count bs)) TaskCount None)))))

-- the row that begins at index i of bytes
abbrev pub row_at : List ℕ → ℕ → TableRow
row_at bs i = record { tag = at16 bs i; execution = at32 bs (i + 2); period = at32 bs (i + 6) }

-- where row i begins, from 0
abbrev pub table_row_place : ℕ → ℕ
table_row_place i = table_header_size + table_row_size * i

-- row i of a table
abbrev pub table_row_at : List ℕ → ℕ → TableRow
table_row_at bs i = row_at bs (table_row_place i)

-- row i, if the bytes have so many
abbrev pub table_row : List ℕ → ℕ → Option TableRow
table_row bs i = cond (nat_le (table_row_place (i + 1)) (length bs)) (Some (table_row_at bs i)) None

-- the rows of a table, in the order of the file
abbrev pub table_rows : List ℕ → List TableRow
table_rows bs = map (table_row_at bs) (range_with_len 0 (table_count bs))
