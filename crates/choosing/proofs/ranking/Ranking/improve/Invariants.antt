use Rattle.std.proofs.Common.{◌≡◌, List, ◌++◌, length, take, Some}
use Rattle.rows.specs.declared.memory.Token.{Token}
use Rattle.queue.specs.Held.{held}
use Rattle.queue.specs.Order.{Heaped}
use Rattle.choosing.specs.Keeping.{last_first, last_kept, KeepsFirst}
use Rattle.choosing.proofs.ranking.Ranking.improve.Given as goal

abbrev pub invariant-loop-token : goal.invariant-loop-token
invariant-loop-token g l =
    let m = length l.initial.best.memory.now in
    let key = g.R.Rule.ranks l.self.rule.now in
    Heaped last_first (held l.best)
    × (last_kept m (held l.best) ≡ Some l.last)
    × ((seen : List Token) → KeepsFirst m key l.self.span seen (held l.initial.best) → KeepsFirst m key l.self.span (seen ++ take l.token-index l.tokens) (held l.best))
