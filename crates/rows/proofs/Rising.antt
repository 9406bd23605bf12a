-- A list of keys rises where each pair of neighbours does.
use Rattle.std.proofs.Common.{◌≡◌, ℕ, zero, suc, ◌+◌, ◌-◌, ◌<◌, ◌≤◌, Bool, true, false, ◌&&◌, ltb, List, [], ◌∷◌, map, length, get_or, drop, sym, refl, ap, ◌∙◌, arith}
use Rattle.std.proofs.lemmas.List.{drop_more}
use native.Mathlib.Numerals.{unary_clauses}
use Rattle.std.specs.List.{AllAdjacentBelow, IsAllAdjacentAnswer}
use Rattle.std.proofs.lemmas.Bool.Decides.{nat_tests}
use Rattle.rows.specs.Tests.{rising}

module _ {X : Type 0} (key : X → ℕ) where
  -- each pair of neighbours rises
  rises : (xs : List X) → AllAdjacentBelow (λ x y. true ≡ ltb (key x) (key y)) xs (length xs) → rising (map key xs) ≡ true
  rises [] h = refl
  rises (x ∷ []) h = refl
  rises (x ∷ (y ∷ ys)) h =
      let first : true ≡ ltb (key x) (key y) = h 0 x (omega arith) in
      let rest = rises (y ∷ ys) (λ k d l. simp unary_clauses (simp unary_clauses at (h (suc k) d (omega arith)))) in
      rw (← first) rest

  -- some pair does not
  falls : (xs : List X) (k : ℕ) → k + 1 < length xs → ((d : X) → false ≡ ltb (key (get_or xs k d)) (key (get_or xs (k + 1) d))) → rising (map key xs) ≡ false
  falls [] k l h = absurd (omega arith)
  falls (x ∷ []) k l h = absurd (omega arith)
  falls (x ∷ (y ∷ ys)) zero l h = rw (← h x) refl
  falls (x ∷ (y ∷ ys)) (suc k) l h =
      let rest = falls (y ∷ ys) k (omega arith) (λ d. simp unary_clauses (simp unary_clauses at (h d))) in grind (arith, nat_tests)

  -- what `is_sorted_by` answers
  pub rising_sorted : (xs : List X) (r : Bool) → IsAllAdjacentAnswer (λ x y b. b ≡ ltb (key x) (key y)) xs r → r ≡ rising (map key xs)
  rising_sorted xs true h = sym (rises xs h)
  rising_sorted xs false h = sym (falls xs h.0 h.1 h.2)

  -- from the row before index i on: the pair there, and the rest
  pub rising_at : (xs : List X) (i : ℕ) (x y : X) → 0 < i → i < length xs → x ≡ get_or xs (i - 1) x → y ≡ get_or xs i y
      → rising (map key (drop (i - 1) xs)) ≡ (ltb (key x) (key y) && rising (map key (drop i xs)))
  rising_at xs i x y some h x-is y-is =
      let a : i - 1 < length xs = omega arith in
      let k : i - 1 + 1 ≡ i = omega arith in
      let first : drop (i - 1) xs ≡ x ∷ drop i xs = drop_more xs (i - 1) x a ∙ (λ j. sym x-is j ∷ drop (k j) xs) in
      let second : drop i xs ≡ y ∷ drop (i + 1) xs = drop_more xs i y h ∙ ap (λ z. z ∷ drop (i + 1) xs) (sym y-is) in
      rw (first, second) refl

  -- fewer than two are left
  pub rising_end : (xs : List X) (i : ℕ) → length xs ≤ i + 1 → rising (map key (drop i xs)) ≡ true
  rising_end [] zero h = refl
  rising_end [] (suc i) h = refl
  rising_end (x ∷ []) zero h = refl
  rising_end (x ∷ (y ∷ xs)) zero h = absurd (omega arith)
  rising_end (x ∷ xs) (suc i) h = rising_end xs i (omega arith)

  -- those behind the first rise too, and begin above it
  pub rising_rest : (d x : X) (xs : List X) → rising (map key (x ∷ xs)) ≡ true → (rising (map key xs) ≡ true) × (0 < length xs → key x < key (get_or xs 0 d))
  rising_rest d x [] h = (refl, λ some. absurd (omega arith))
  rising_rest d x (y ∷ ys) h = (grind (arith, nat_tests), λ some. grind (arith, nat_tests))

  -- each key is above the first
  pub above_first : (d x : X) (xs : List X) (i : ℕ) → rising (map key (x ∷ xs)) ≡ true → i < length xs → key x < key (get_or xs i d)
  above_first d x [] i h l = absurd (omega arith)
  above_first d x (y ∷ ys) zero h l = (rising_rest d x (y ∷ ys) h).1 (omega arith)
  above_first d x (y ∷ ys) (suc i) h l =
      let rest = rising_rest d x (y ∷ ys) h in
      let next : key x < key y = rest.1 (omega arith) in
      omega (arith, above_first d y ys i rest.0 (omega arith))
