-- Keys that rise from above a bound, and what a filter keeps of them.
use Rattle.std.proofs.Common.{◌≡◌, ℕ, ◌<◌, ◌≤◌, Bool, true, ltb, ◌⊎◌, List, [], ◌∷◌, ◌++◌, map, filter, refl, ap, ◌∙◌, inl, inr, ⊎_elim, arith}
use Rattle.std.proofs.lemmas.Bool.{and_parts, and_from, ltb-true, lt-ltb, cond_both}
use Rattle.rows.specs.Tests.{rising}
use Rattle.model.specs.Members.{In, here, there}
use Rattle.model.proofs.Counts.{in_cons, in_first}

-- each is above the one before, and the first above `low`
abbrev pub increasing : ℕ → List ℕ → Bool
increasing low xs = rising (low ∷ xs)

pub rises : (low : ℕ) (xs : List ℕ) → increasing low xs ≡ true → rising xs ≡ true
rises low [] h = refl
rises low (x ∷ xs) h = (and_parts (ltb low x) (increasing x xs) h).1

lower : (low next : ℕ) (xs : List ℕ) → low ≤ next → increasing next xs ≡ true → increasing low xs ≡ true
lower low next [] l up = refl
lower low next (x ∷ xs) l up =
    let p = and_parts (ltb next x) (increasing x xs) up in
    and_from _ _ (lt-ltb low x (omega (arith, ltb-true next x p.0))) p.1

module _ {X : Type 0} (f : X → ℕ) where
  pub rises_from : (low : ℕ) (xs : List X) → rising (map f xs) ≡ true → ((x : X) → In x xs → low < f x) → increasing low (map f xs) ≡ true
  rises_from low [] h some = refl
  rises_from low (x ∷ xs) h some = and_from _ _ (lt-ltb low (f x) (some x here)) h

  -- all are above the bound
  pub above : (low : ℕ) (xs : List X) → increasing low (map f xs) ≡ true → (x : X) → In x xs → low < f x
  above low [] h x i = elim i [ ]
  above low (y ∷ xs) h x here = ltb-true low (f x) (and_parts _ _ h).0
  above low (y ∷ xs) h x (there i) =
      let p = and_parts (ltb low (f y)) (increasing (f y) (map f xs)) h in
      omega (arith, ltb-true low (f y) p.0, above (f y) xs p.1 x i)

  pub kept_increasing : (p : X → Bool) (low : ℕ) (xs : List X) → increasing low (map f xs) ≡ true → increasing low (map f (filter p xs)) ≡ true
  kept_increasing p low [] up = refl
  kept_increasing p low (x ∷ xs) up =
      let h = and_parts (ltb low (f x)) (increasing (f x) (map f xs)) up in
      let again = kept_increasing p (f x) xs h.1 in
      cond_both (p x) (x ∷ filter p xs) (filter p xs) (λ ys. increasing low (map f ys) ≡ true) (λ e. and_from _ _ h.0 again)
      (λ e. let l = ltb-true low (f x) h.0 in lower low (f x) (map f (filter p xs)) (omega arith) again)

  -- one between those below it and those above it
  pub joined_increasing : (low : ℕ) (xs : List X) (y : X) (zs : List X) → increasing low (map f xs) ≡ true → ((x : X) → In x xs → f x < f y) → low < f y
      → increasing (f y) (map f zs) ≡ true → increasing low (map f (xs ++ y ∷ zs)) ≡ true
  joined_increasing low [] y zs up less l more = and_from _ _ (lt-ltb low (f y) l) more
  joined_increasing low (x ∷ xs) y zs up less l more =
      let h = and_parts (ltb low (f x)) (increasing (f x) (map f xs)) up in
      and_from _ _ h.0 (joined_increasing (f x) xs y zs h.1 (λ u i. less u (there i)) (less x here) more)

-- Members of what a filter keeps.
module _ {X : Type 0} (p : X → Bool) where
  pub in_kept : (u : X) (xs : List X) → In u (filter p xs) → In u xs × (p u ≡ true)
  in_kept u [] i = elim i [ ]
  in_kept u (x ∷ xs) i =
      let again : In u (filter p xs) → In u (x ∷ xs) × (p u ≡ true) = λ i. let k = in_kept u xs i in (there k.0, k.1) in
      cond_both (p x) (x ∷ filter p xs) (filter p xs) (λ ys. In u ys → In u (x ∷ xs) × (p u ≡ true))
      (λ e i. ⊎_elim (λ q. (in_first u x xs q, ap p q ∙ e)) again (in_cons u x (filter p xs) i)) (λ e. again) i

  pub kept_all : (xs : List X) → ((x : X) → In x xs → p x ≡ true) → filter p xs ≡ xs
  kept_all [] h = refl
  kept_all (x ∷ xs) h = rw (h x here, kept_all xs (λ y i. h y (there i))) refl

  pub kept_same : (q : X → Bool) (xs : List X) → ((x : X) → In x xs → p x ≡ q x) → filter p xs ≡ filter q xs
  kept_same q [] h = refl
  kept_same q (x ∷ xs) h = rw (h x here, kept_same q xs (λ y i. h y (there i))) refl

pub in_append : {X : Type 0} (u : X) (xs ys : List X) → In u (xs ++ ys) → In u xs ⊎ In u ys
in_append u [] ys i = inr i
in_append u (x ∷ xs) ys here = inl here
in_append u (x ∷ xs) ys (there i) = ⊎_elim (λ j. inl (there j)) inr (in_append u xs ys i)
