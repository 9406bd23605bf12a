use Rattle.std.proofs.Common.{◌≡◌, length, take}
use Rattle.queue.specs.Held.{held}
use Rattle.queue.specs.Order.{Heaped}
use Rattle.choosing.specs.Keeping.{last_first, KeepsFirst}
use Rattle.choosing.proofs.ranking.Ranking.fill.Given as goal

abbrev pub invariant-loop-i : goal.invariant-loop-i
invariant-loop-i g l =
    let m = length l.initial.best.memory.now in
    (length l.best.memory.now ≡ m)
    × Heaped last_first (held l.best)
    × KeepsFirst m (g.R.Rule.ranks l.self.rule.now) l.self.span (take l.i l.tokens) (held l.best)
