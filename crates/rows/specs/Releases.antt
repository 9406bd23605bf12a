-- The releases of a task.
use Rattle.std.specs.Prelude.{ℕ, ◌+◌, ◌-◌, ◌*◌, ◌/◌, Bool, ◌&&◌, nat_le, nat_lt}
use Rattle.rows.specs.declared.memory.Task.{Task}

-- a task that has a period, and was first released by the tick
abbrev pub timely : ℕ → Task → Bool
timely tick t = nat_lt 0 t.period && nat_le t.release tick

-- the first release of a task after a tick that is not before its first
abbrev pub next_release : ℕ → Task → ℕ
next_release tick t = t.release + ((tick - t.release) / t.period + 1) * t.period
