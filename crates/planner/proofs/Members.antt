-- Members of lists, by place and in parts of a list.
use Rattle.std.proofs.Common.{◌≡◌, ℕ, zero, suc, ◌<◌, ◌≤◌, true, false, eqb, ltb, List, [], ◌∷◌, map, length, get_or, take, drop, count_by, sym, refl, ap, subst, ⊎_elim, arith}
use Rattle.std.specs.List.{AllByRecursion}
use Rattle.std.proofs.ByRecursion.{All-get_or, All-take, All-drop}
use Rattle.std.proofs.lemmas.List.{length-take, get_or-take, drop_more}
use Rattle.std.proofs.lemmas.List.Sums.{sum_by-take-drop}
use Rattle.std.proofs.lemmas.Bool.{false≢true, and_parts, or_cases, or_left, or_right, eqb-true, eq-eqb, cases_Bool}
use Rattle.rows.specs.Tests.{has}
use Rattle.model.specs.Members.{In, here, there}
use Rattle.model.proofs.Tags.{increasing, above}
use Rattle.model.proofs.Counts.{bit, in_first, all_in, in_all}
use Rattle.planner.proofs.Tallies.{in_count}

module _ {X : Type 0} where
  all_members : (xs : List X) → AllByRecursion (λ x. In x xs) xs
  all_members xs = all_in (λ x. In x xs) xs (λ x i. i)

  -- the members of a part are members of the list
  pub in_take : {x : X} (n : ℕ) (xs : List X) → In x (take n xs) → In x xs
  in_take n xs i = in_all (λ x. In x xs) (All-take (λ x. In x xs) n xs (all_members xs)) i

  pub in_drop : {x : X} (n : ℕ) (xs : List X) → In x (drop n xs) → In x xs
  in_drop n xs i = in_all (λ x. In x xs) (All-drop (λ x. In x xs) n xs (all_members xs)) i

  -- the element at a place
  pub in_getD : (xs : List X) (i : ℕ) (d : X) → i < length xs → In (get_or xs i d) xs
  in_getD xs i d h = All-get_or (λ x. In x xs) xs i d h (all_members xs)

  -- the element at a place of the first part
  pub in_take_getD : (xs : List X) (n i : ℕ) (d : X) → i < length xs → i < n → In (get_or xs i d) (take n xs)
  in_take_getD xs n i d h l = subst (λ x. In x (take n xs)) (get_or-take n xs i d l) (in_getD (take n xs) i d (omega (arith, length-take n xs)))

  -- the first element of the rest
  pub in_drop_getD : (xs : List X) (n : ℕ) (d : X) → n < length xs → In (get_or xs n d) (drop n xs)
  in_drop_getD xs n d h = subst (In (get_or xs n d)) (sym (drop_more xs n d h)) here

  -- each element has a place
  pub place_of : {x : X} (xs : List X) (d : X) → In x xs → (i : ℕ) × (i < length xs) × (get_or xs i d ≡ x)
  place_of [] d i = elim i [ ]
  place_of (x ∷ xs) d here = (0, omega arith, refl)
  place_of (y ∷ xs) d (there i) = let r = place_of xs d i in (suc r.0, omega (arith, r.1), r.2)

  -- elements with the same key stand at the same place, where keys rise
  pub same_place : (f : X → ℕ) (d : X) (low : ℕ) (xs : List X) → increasing low (map f xs) ≡ true
      → (i j : ℕ) → i < length xs → j < length xs → f (get_or xs i d) ≡ f (get_or xs j d) → i ≡ j
  same_place f d low [] up i j hi hj e = absurd (omega arith)
  same_place f d low (x ∷ xs) up zero zero hi hj e = refl
  same_place f d low (x ∷ xs) up zero (suc j) hi hj e =
      let p = and_parts (ltb low (f x)) (increasing (f x) (map f xs)) up in
      absurd (omega (arith, above f (f x) xs p.1 (get_or xs j d) (in_getD xs j d (omega arith))))
  same_place f d low (x ∷ xs) up (suc i) zero hi hj e =
      let p = and_parts (ltb low (f x)) (increasing (f x) (map f xs)) up in
      absurd (omega (arith, above f (f x) xs p.1 (get_or xs i d) (in_getD xs i d (omega arith))))
  same_place f d low (x ∷ xs) up (suc i) (suc j) hi hj e =
      let p = and_parts (ltb low (f x)) (increasing (f x) (map f xs)) up in
      ap suc (same_place f d (f x) xs p.1 i j (omega arith) (omega arith) e)

  -- functions that agree on the members give one list
  pub map_same : {Y : Type 0} (f g : X → Y) (xs : List X) → ((x : X) → In x xs → f x ≡ g x) → map f xs ≡ map g xs
  map_same f g [] h = refl
  map_same f g (x ∷ xs) h = let e = h x here in let more = map_same f g xs (λ y i. h y (there i)) in λ j. e j ∷ more j

-- a member passes the test for it
pub in_has : (i : ℕ) (xs : List ℕ) → In i xs → has i xs ≡ true
in_has i [] h = elim h [ ]
in_has i (x ∷ xs) here = or_left _ _ (eq-eqb i i refl)
in_has i (x ∷ xs) (there h) = or_right (eqb i x) _ (in_has i xs h)

-- and back
pub has_in : (i : ℕ) (xs : List ℕ) → has i xs ≡ true → In i xs
has_in i [] h = absurd (false≢true h)
has_in i (x ∷ xs) h = ⊎_elim (λ e. in_first i x xs (eqb-true i x e)) (λ k. there (has_in i xs k)) (or_cases (eqb i x) (has i xs) h)

-- a number that stands once, and behind the first n, is none of those
pub past_first : (i n : ℕ) (xs : List ℕ) → count_by (λ j. eqb j i) xs ≤ 1 → In i (drop n xs) → has i (take n xs) ≡ false
past_first i n xs once k = ⊎_elim
    (λ h. let a = in_count (λ j. eqb j i) (take n xs) (has_in i (take n xs) h) (eq-eqb i i refl) in
    let b = in_count (λ j. eqb j i) (drop n xs) k (eq-eqb i i refl) in
    absurd (omega (arith, sum_by-take-drop (λ j. bit (eqb j i)) xs n)))
    (λ h. h)
    (cases_Bool (has i (take n xs)))
