use Rattle.std.proofs.Common.{◌≡◌, ◌^◌, ◌≤◌, map, length, take}
use Rattle.std.specs.List.Sorted.{IsPermutation}
use Rattle.std.specs.List.{AllByRecursion}
use Rattle.queue.specs.Held.{held}
use Rattle.queue.specs.Order.{Heaped}
use Rattle.ahead.specs.Waiting.{by_tick, first_due}
use Rattle.ahead.proofs.gather.Given as goal

abbrev pub invariant-loop-task : goal.invariant-loop-task
invariant-loop-task l =
    (length l.queue.memory.now ≡ length l.initial.queue.memory.now)
    × IsPermutation (map (first_due l.tick) (take l.task-index l.rows)) (held l.queue)
    × Heaped by_tick (held l.queue)
    × AllByRecursion (λ d. d.tick ≤ 2 ^ 33) (held l.queue)
