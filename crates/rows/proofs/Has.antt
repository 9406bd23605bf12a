-- A slice's `contains` is whether a number stands in a list.
use Rattle.std.proofs.Common.{◌≡◌, ℕ, List, [], ◌∷◌, refl, nat_eq, arith}
use Rattle.std.specs.List.{list_any}
use Rattle.std.proofs.lemmas.Bool.Decides.{nat_tests}
use Rattle.rows.specs.Tests.{has}

pub has_any : (x : ℕ) (ys : List ℕ) → list_any (λ y. nat_eq y x) ys ≡ has x ys
has_any x [] = refl
has_any x (y ∷ ys) = let rest = has_any x ys in grind (arith, nat_tests)
