-- The ends of planes, known before any of them is run.
use Rattle.std.specs.Prelude.{ℕ, zero, suc, ◌≤◌, List, take, Ok, Result, nat_le}
use Rattle.rows.specs.declared.refusal.Refusal.{Refusal}
use Rattle.rows.specs.declared.refusal.Refusal.TheVariants.{PastLastTick, PlanBuffer}
use Rattle.rows.specs.declared.memory.Task.{Task}
use Rattle.rows.specs.Limits.{largest_scale, last_tick}
use Rattle.model.specs.State.{Rest, unless}
use Rattle.model.specs.Tables.{earliest}
use Rattle.whole_plan.specs.Planning.{plan_room}

-- the tick at which so many planes have ended, the first of them started at tick 0
abbrev pub tick_after : ℕ → List Task → ℕ
tick_after zero tasks = 0
tick_after (suc k) tasks = earliest (tick_after k tasks) tasks

-- a task that was released by a tick
pub record Released (tick : ℕ) (t : Task) : Type 0 where
  pub past : t.release ≤ tick
  pub some : 1 ≤ t.period
  pub few : t.period ≤ largest_scale

-- what is known before a byte is written: whether so many planes end by the last tick, and whether there is room for their records
abbrev pub planes_check : ℕ → Rest → List Task → ℕ → Result (Unit {0}) Refusal
planes_check planes b tasks room =
    unless (nat_le (tick_after planes (take b.count tasks)) last_tick) PastLastTick
    (unless (nat_le (plan_room planes b) room) PlanBuffer (Ok tt))
