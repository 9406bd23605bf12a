use Rattle.std.proofs.Common.{◌≡◌, ℕ, ◌-◌, ◌<◌, ◌≤◌, min, ◌++◌, length, take, drop, Some, None, sym, ap, ◌∙◌, subst, arith}
use Rattle.std.proofs.lemmas.List.{length-take, take_all, take_rest, take-append-drop}
use Rattle.rows.specs.Limits.{most_processors}
use Rattle.queue.specs.Held.{held}
use Rattle.choosing.specs.Keeping.{Picks, KeepsFirst, last_kept}
use Rattle.choosing.proofs.Firsts.{picks, not_none}
use Rattle.choosing.proofs.ranking.Ranking.last_chosen.Goals as goal

all_seen : (k n : ℕ) → (k < n → ⊥) → n ≤ k
all_seen k n h = omega arith

pub returns-in_err-last : goal.returns-in_err-last
returns-in_err-last g c = λ some.
    let key = g.R.Rule.ranks c.args.self.now.rule.now in
    let span = c.args.self.now.span in
    let ts = c.args.tokens.now in
    let m = length c.open-best.result.memory.now in
    let told = c.fill-seen.ensures in
    let hs = held c.fill-seen.new.best in
    let places : m ≡ min c.args.processors most_processors = ap length c.open-best.ensures.memory ∙ length-take c.min.result _ ∙ omega (arith, c.min.ensures) in
    let none : last_kept m hs ≡ None = ap (λ k. last_kept k hs) (sym told.size) ∙ sym c.last_kept.ensures ∙ c.in_err-last.was in
    let all : KeepsFirst m key span ts hs = subst (λ ss. KeepsFirst m key span ss hs) (take_all c.fill-seen.result ts (all_seen c.fill-seen.result (length ts) (λ lt. not_none m hs (told.full lt) (omega arith) none))) told.kept in
    subst (λ k. Picks k key span ts c.from_residual.result) places (subst (Picks m key span ts) (none ∙ sym c.from_residual.ensures) (picks m key span ts hs (omega arith) told.order all))

pub returns : goal.returns
returns g c = λ some.
    let key = g.R.Rule.ranks c.args.self.now.rule.now in
    let span = c.args.self.now.span in
    let ts = c.args.tokens.now in
    let n = c.fill-seen.result in
    let m = length c.fill-seen.new.best.memory.now in
    let filled = c.fill-seen.ensures in
    let told = c.improve.ensures in
    let hs = held c.improve.new.best in
    let places : m ≡ min c.args.processors most_processors = filled.size ∙ ap length c.open-best.ensures.memory ∙ length-take c.min.result _ ∙ omega (arith, c.min.ensures) in
    let front : KeepsFirst m key span (take n ts) (held c.fill-seen.new.best) = subst (λ k. KeepsFirst k key span (take n ts) (held c.fill-seen.new.best)) (sym filled.size) filled.kept in
    let whole : take n ts ++ take (length ts - n) (drop n ts) ≡ ts = ap (λ ss. take n ts ++ ss) (take_rest ts n) ∙ take-append-drop n ts in
    let all : KeepsFirst m key span ts hs = subst (λ ss. KeepsFirst m key span ss hs) whole (told.kept (take n ts) front) in
    subst (λ k. Picks k key span ts (Some c.improve.result)) places (subst (Picks m key span ts) told.last (picks m key span ts hs (omega arith) told.order all))
