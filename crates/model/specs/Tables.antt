-- The tasks of a board at rest: admitting one, withdrawing one, and starting a plane.
use Rattle.std.specs.Prelude.{ℕ, ◌+◌, ◌-◌, ◌*◌, ◌/◌, ◌%◌, min, Bool, cond, not, ◌&&◌, ltb, List, [], ◌∷◌, ◌++◌, map, length, take, drop, Some, None, Ok, Err, sum_by, filter, Option, Result, ◌==◌, nat_le, nat_lt}
use Rattle.rows.specs.declared.refusal.Refusal.{Refusal}
use Rattle.rows.specs.declared.refusal.Refusal.TheVariants.{Memory, TagZero, Execution, Period, TagPresent, TasksFull, Overload, TagAbsent, NotReleased, NoTask, PastLastTick}
use Rattle.rows.specs.declared.memory.Task.{Task}
use Rattle.rows.specs.declared.memory.Token.{Token}
use Rattle.rows.specs.Limits.{most_tasks, last_tick}
use Rattle.rows.specs.Tests.{has, rising, all}
pub use Rattle.rows.specs.Releases.{next_release}
use Rattle.model.specs.State.{Rest, Open, unless}

-- the units of its processor that a task takes in each tick
abbrev pub weight : ℕ → Task → ℕ
weight scale t = (t.execution * scale) / t.period

-- a row that may stand on the board
abbrev pub sound_task : Rest → Task → Bool
sound_task b t =
    nat_lt 0 t.tag && nat_lt 0 t.execution && nat_le t.execution t.period && b.scale % t.period == 0 && nat_le t.release b.tick

abbrev pub tags : List Task → List ℕ
tags = map (λ t. t.tag)

-- task memory fits the board
abbrev pub tasks_fit : Rest → List Task → Bool
tasks_fit b memory =
    let rows = take b.count memory in
    nat_le b.count (length memory) && rising (tags rows) && all (sound_task b) rows
    && sum_by (weight b.scale) rows == b.load

-- the row in its place: behind the lower tags, before the higher ones
abbrev pub placed : Task → List Task → List Task
placed t rows = filter (λ x. ltb x.tag t.tag) rows ++ t ∷ filter (λ x. ltb t.tag x.tag) rows

-- the rows of other tags
abbrev pub without : ℕ → List Task → List Task
without tag rows = filter (λ x. not (x.tag == tag)) rows

-- the row of a tag, if there is one
abbrev pub found : ℕ → List Task → Option Task
found tag [] = None
found tag (x ∷ xs) = cond (x.tag == tag) (Some x) (found tag xs)

-- a board with another count of tasks and another load
abbrev pub with_load : Rest → ℕ → ℕ → Rest
with_load b count load =
    record { processors = b.processors; scale = b.scale; tick = b.tick; count = count; load = load }

-- the row of a task that is admitted now
abbrev pub fresh : Rest → ℕ → ℕ → ℕ → Task
fresh b tag execution period = record { tag = tag; execution = execution; period = period; release = b.tick }

-- the board and the task memory after an admission
abbrev pub admitted : Rest → List Task → ℕ → ℕ → ℕ → Result (Rest × List Task) Refusal
admitted b memory tag execution period =
    let t = fresh b tag execution period in
    let rows = take b.count memory in
    let load = b.load + weight b.scale t in
    unless (tasks_fit b memory) Memory
    (unless (nat_lt 0 tag) TagZero
    (unless (nat_lt 0 execution && nat_le execution period) Execution
    (unless (b.scale % period == 0) Period
    (unless (not (has tag (tags rows))) TagPresent
    (unless (nat_lt b.count most_tasks && nat_lt b.count (length memory)) TasksFull
    (unless (nat_le load (b.processors * b.scale)) Overload
    (Ok (with_load b (b.count + 1) load, placed t rows ++ drop (b.count + 1) memory))))))))

abbrev pub zeros : Task
zeros = record { tag = 0; execution = 0; period = 0; release = 0 }

-- whether a tick is one of a task's releases
abbrev pub released : ℕ → Task → Bool
released tick t = (tick - t.release) % t.period == 0

-- the board and the task memory after a withdrawal
abbrev pub withdrawn : Rest → List Task → ℕ → Result (Rest × List Task) Refusal
withdrawn b memory tag =
    let rows = take b.count memory in
    unless (tasks_fit b memory) Memory
    (elim (found tag rows) [
      | None ↦ Err TagAbsent
      | Some t ↦ unless (released b.tick t) NotReleased
          (Ok (with_load b (b.count - 1) (b.load - weight b.scale t), without tag rows ++ zeros ∷ drop b.count memory))
    ])

-- the earliest release after a tick that is before no task's first
abbrev pub earliest : ℕ → List Task → ℕ
earliest tick [] = tick
earliest tick (t ∷ []) = next_release tick t
earliest tick (t ∷ (u ∷ ts)) = min (next_release tick t) (earliest tick (u ∷ ts))

-- a task's token in a plane of that many ticks
abbrev pub token : ℕ → ℕ → Task → Token
token scale ticks t = record { tag = t.tag; left = ticks * weight scale t; processor = 0 }

-- the plane that starts, and the token memory
abbrev pub started : Rest → List Task → List Token → Result (Open × List Token) Refusal
started b memory tokens =
    let rows = take b.count memory in
    let end = earliest b.tick rows in
    let ticks = end - b.tick in
    unless (tasks_fit b memory && nat_le b.count (length tokens)) Memory
    (unless (nat_lt 0 b.count) NoTask
    (unless (nat_le end last_tick) PastLastTick
    (Ok (
      record { board = b; end = end; span = ticks * b.scale },
      map (token b.scale ticks) rows ++ drop b.count tokens,
    ))))
