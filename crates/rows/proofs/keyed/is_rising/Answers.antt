use Rattle.std.proofs.Common.{rules, ltb}
use Rattle.std.proofs.lemmas.List.Sorted.{answers_always}
use Rattle.rows.proofs.Rising.{rising_sorted}
use Rattle.rows.proofs.keyed.is_rising.Goals as goal

pub returns : goal.returns
returns g c =
    let key = g.T.Keyed.ordinal in
    rising_sorted key c.args.rows.now _ (c.is_sorted_by.ensures.cases (λ x y. ltb (key x) (key y)) (answers_always _ _ _ (λ f a r f' h. search rules)))
