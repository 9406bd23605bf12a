-- The distance to the next event, for any choice.
use Rattle.std.proofs.Common.{◌≡◌, ℕ, ◌+◌, ◌-◌, ◌<◌, ◌≤◌, Bool, true, false, cond, ◌⊎◌, List, [], ◌∷◌, map, sum_by, refl, ap, inl, inr, ⊎_elim, arith}
use Rattle.std.specs.List.{AllByRecursion}
use Rattle.std.proofs.lemmas.List.Folds.{fold-map}
use Rattle.std.proofs.lemmas.Bool.{cases_lt}
use Rattle.rows.specs.declared.memory.Token.{Token}
use Rattle.model.specs.Steps.{gap, distance}
use Rattle.model.specs.Members.{In, here, there}

-- the sum over a mapped list
pub sumBy_map : {X Y : Type 0} (f : Y → ℕ) (g : X → Y) (xs : List X) → sum_by f (map g xs) ≡ sum_by (λ x. f (g x)) xs
sumBy_map f g xs = fold-map (λ n y. n + f y) g 0 xs

pub all_map : {X Y : Type 0} (P : Y → Type 0) (g : X → Y) (xs : List X) → ((x : X) → In x xs → P (g x)) → AllByRecursion P (map g xs)
all_map P g [] h = tt
all_map P g (x ∷ xs) h = (h x here, all_map P g xs (λ y i. h y (there i)))

module _ (picks : Token → Bool) (span : ℕ) where
  pub at_most : (ts : List Token) → distance picks span ts ≤ span
  at_most [] = omega arith
  at_most (x ∷ xs) = omega (arith, at_most xs)

  pub least : {x : Token} (ts : List Token) → In x ts → distance picks span ts ≤ gap picks span x
  least [] i = elim i [ ]
  least (x ∷ xs) here = omega arith
  least (y ∷ xs) (there i) = omega (arith, least xs i)

  pub positive : (ts : List Token) → 0 < span → ((x : Token) → In x ts → 0 < gap picks span x) → 0 < distance picks span ts
  positive [] h g = h
  positive (x ∷ xs) h g = omega (arith, g x here, positive xs h (λ y i. g y (there i)))

  pub attained : (ts : List Token) → (distance picks span ts ≡ span) ⊎ ((x : Token) × In x ts × (distance picks span ts ≡ gap picks span x))
  attained [] = inl refl
  attained (x ∷ xs) = ⊎_elim
      (λ a. inr (x, here, omega arith))
      (λ a. ⊎_elim (λ e. inl (omega arith)) (λ s. inr (s.0, there s.1, omega (arith, s.2))) (attained xs))
      (cases_lt (gap picks span x) (distance picks span xs))

  pub gap_picked : (x : Token) → picks x ≡ true → gap picks span x ≡ x.left
  gap_picked x h = ap (λ b. cond b x.left (span - x.left)) h

  pub gap_other : (x : Token) → picks x ≡ false → gap picks span x ≡ span - x.left
  gap_other x h = ap (λ b. cond b x.left (span - x.left)) h
