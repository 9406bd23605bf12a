-- The whole plan of a table: what the calls on a board give, one after the other.
use Rattle.std.specs.Prelude.{ℕ, zero, suc, ◌+◌, ◌*◌, List, [], ◌∷◌, ◌++◌, length, take, drop, replicate, Ok, Err, Result, nat_le}
use Rattle.rows.specs.declared.refusal.Refusal.{Refusal}
use Rattle.rows.specs.declared.refusal.Refusal.TheVariants.{PlanBuffer}
use Rattle.rows.specs.declared.memory.Task.{Task}
use Rattle.rows.specs.declared.memory.Token.{Token}
use Rattle.rows.specs.Limits.{most_tasks}
use Rattle.rules.specs.Keys.{largest_first}
use Rattle.plan_file.specs.Faults.{answered}
use Rattle.plan_file.specs.Records.{record_size}
use Rattle.plan_file.specs.Writing.{header_size, header_bytes}
use Rattle.table_file.specs.declared.table.TableRow.{TableRow}
use Rattle.table_file.specs.Tables.{table_fault, table_processors, table_scale, table_planes, table_rows}
use Rattle.model.specs.State.{Rest, unless, opened, ended}
use Rattle.model.specs.Tables.{zeros, admitted, started}
use Rattle.model.specs.Planes.{finished}

-- goes on with an answer, and hands a refusal up
abbrev pub and_then : {A B : Type 0} → Result A Refusal → (A → Result B Refusal) → Result B Refusal
and_then (Ok a) next = next a
and_then (Err e) next = Err e

-- the board and the task memory after the admission of rows, one after the other
abbrev pub rows_admitted : Rest → List Task → List TableRow → Result (Rest × List Task) Refusal
rows_admitted b tasks [] = Ok (b, tasks)
rows_admitted b tasks (row ∷ rows) =
    and_then (admitted b tasks row.tag row.execution row.period) (λ r. rows_admitted r.0 r.1 rows)

-- task and token memory before anything is written
abbrev pub no_tasks : List Task
no_tasks = replicate most_tasks zeros

abbrev pub no_tokens : List Token
no_tokens = replicate most_tasks (record { tag = 0; left = 0; processor = 0 })

-- a table's board with its tasks, admitted at tick 0
abbrev pub table_admitted : List ℕ → Result (Rest × List Task) Refusal
table_admitted table =
    and_then (opened (table_processors table) (table_scale table)) (λ b. rows_admitted b no_tasks (table_rows table))

-- bytes that suffice for the records of a plane
abbrev pub plane_room : Rest → ℕ
plane_room b = (b.count + 1) * record_size b.processors

-- One plane: it starts, is finished under "largest first" into a buffer, and ends. The board, the token memory and the
-- buffer after it, and how many bytes its records have.
abbrev pub plane_into : Rest → List Task → List Token → List ℕ → Result ((Rest × List Token × List ℕ) × ℕ) Refusal
plane_into b tasks tokens buffer =
    and_then (started b tasks tokens) (λ s.
    and_then (finished s.0 s.1 largest_first buffer) (λ f.
    and_then (ended f.0.0) (λ e. Ok ((e, f.0.1, f.0.2), f.1.1))))

-- the board, the token memory and the records
abbrev pub Planned : Type 0
Planned = Rest × List Token × List ℕ

-- one plane with its records
abbrev pub plane_planned : Rest → List Task → List Token → Result Planned Refusal
plane_planned b tasks tokens =
    and_then (plane_into b tasks tokens (replicate (plane_room b) 0)) (λ r. Ok (r.0.0, r.0.1, take r.1 r.0.2))

-- so many planes, one after the other, their records one directly behind the other
abbrev pub planes_planned : ℕ → Rest → List Task → List Token → Result Planned Refusal
planes_planned zero b tasks tokens = Ok (b, tokens, [])
planes_planned (suc k) b tasks tokens =
    and_then (planes_planned k b tasks tokens) (λ done.
    and_then (plane_planned done.0 tasks done.1) (λ one. Ok (one.0, one.1, done.2 ++ one.2)))

-- the records of planes that went through
abbrev pub records : Result Planned Refusal → List ℕ
records (Ok done) = done.2
records (Err e) = []

-- bytes that suffice for so many planes, with the header
abbrev pub plan_room : ℕ → Rest → ℕ
plan_room planes b = header_size + planes * plane_room b

-- The plan file of a table, where there is room for so many bytes; or the first refusal.
abbrev pub whole_plan : List ℕ → ℕ → Result (List ℕ) Refusal
whole_plan table room =
    and_then (answered (table_fault table) table) (λ _.
    and_then (table_admitted table) (λ r.
    and_then (planes_planned (table_planes table) r.0 r.1 no_tokens) (λ done.
    unless (nat_le (plan_room (table_planes table) r.0) room) PlanBuffer
    (Ok (header_bytes (table_processors table) (table_scale table) ++ done.2)))))

-- the length of a plan, or the refusal
abbrev pub plan_length : Result (List ℕ) Refusal → Result ℕ Refusal
plan_length (Ok bytes) = Ok (length bytes)
plan_length (Err e) = Err e

-- bytes in front of a buffer, and the rest of it as it was
abbrev pub in_front : List ℕ → List ℕ → List ℕ
in_front bytes buffer = bytes ++ drop (length bytes) buffer

-- a buffer with the plan in front; as it was where there is none
abbrev pub with_plan : Result (List ℕ) Refusal → List ℕ → List ℕ
with_plan (Ok bytes) buffer = in_front bytes buffer
with_plan (Err e) buffer = buffer
