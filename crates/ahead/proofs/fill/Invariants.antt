use Rattle.std.proofs.Common.{ℕ, ◌+◌, ◌*◌, ◌^◌, ◌<◌, ◌≤◌, List, length, get_or, None}
use Rattle.std.specs.List.{AllByRecursion}
use Rattle.rows.specs.declared.memory.Task.{Task}
use Rattle.queue.specs.Held.{held}
use Rattle.queue.specs.Order.{Heaped}
use Rattle.ahead.specs.Ahead.{Next, previous, blank}
use Rattle.ahead.specs.Waiting.{by_tick, Table, Waiting}
use Rattle.ahead.proofs.fill.Given as goal

abbrev pub invariant-loop-place : goal.invariant-loop-place
invariant-loop-place l =
    let hs = held l.queue in
    let i = l.place-index in
    (0 < length hs)
    × AllByRecursion (λ d. d.tick ≤ 2 ^ 33 + i * 2 ^ 32) hs
    × ((ts : List Task) (tick : ℕ) → Table ts → Heaped by_tick (held l.initial.queue) → Waiting ts tick None (held l.initial.queue)
    → Heaped by_tick hs × Waiting ts tick (previous l.places i) hs × ((k : ℕ) → k < i → Next ts tick (previous l.places k) (get_or l.places k blank)))
