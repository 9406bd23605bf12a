-- What a plan file promises by its bytes alone: read back, its records serve every task of the table in every period.
use Rattle.std.specs.Prelude.{◌≡◌, ℕ, ◌+◌, ◌*◌, ◌<◌, ◌≤◌, true, cond, ◌&&◌, List, [], ◌∷◌, length, take, None, nat_le, nat_lt}
use Rattle.std.specs.List.{AllByRecursion}
use Rattle.rows.specs.Tests.{has, distinct}
use Rattle.plan_file.specs.Records.{Segment}
use Rattle.plan_file.specs.Opening.{file_processors, file_scale}
use Rattle.plan_file.specs.Files.{file_fault, file_segments}
use Rattle.table_file.specs.declared.table.TableRow.{TableRow}
use Rattle.table_file.specs.Tables.{table_processors, table_scale, table_planes, table_rows}
use Rattle.model.specs.Histories.{total}

-- the unit at which a segment starts: the lengths of those before it
abbrev pub start_of : List Segment → ℕ → ℕ
start_of ss i = total (take i ss)

-- how long a tag runs in the segments that start from unit `from` on and before unit `until`, the first of them at `start`
abbrev pub run_within : ℕ → ℕ → ℕ → ℕ → List Segment → ℕ
run_within tag from until start [] = 0
run_within tag from until start (s ∷ ss) =
    cond (nat_le from start && nat_lt start until && has tag s.row) s.units 0 + run_within tag from until (start + s.units) ss

-- In each of its periods that lies within the plan, a task runs for its execution time.
abbrev pub ServesEveryPeriod : ℕ → List Segment → TableRow → Type 0
ServesEveryPeriod scale ss row =
    (k : ℕ) → (k + 1) * row.period * scale ≤ total ss
    → run_within row.tag (k * row.period * scale) ((k + 1) * row.period * scale) 0 ss ≡ row.execution * scale

-- The plan file of a table: it reads to its end, on the table's processors and scale. Each record starts later than the
-- one before, none has a task twice, every period of every task is served, and each plane lasts a tick at least.
pub record PlanServesEveryPeriod (table file : List ℕ) : Type 0 where
  pub reads : file_fault file ≡ None
  pub processors : file_processors file ≡ table_processors table
  pub scale : file_scale file ≡ table_scale table
  pub each_start_is_later : (i : ℕ) → i + 1 < length (file_segments file) → start_of (file_segments file) i < start_of (file_segments file) (i + 1)
  pub no_task_twice : AllByRecursion (λ s. distinct s.row ≡ true) (file_segments file)
  pub every_period_served : AllByRecursion (ServesEveryPeriod (table_scale table) (file_segments file)) (table_rows table)
  pub long_enough : table_planes table * table_scale table ≤ total (file_segments file)
