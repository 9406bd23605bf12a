-- Counting the elements of a list that pass a test: under another test, in another list and by places.
use Rattle.std.proofs.Common.{◌≡◌, ℕ, zero, suc, ◌+◌, ◌<◌, ◌≤◌, Bool, true, false, cond, not, ◌&&◌, ◌||◌, eqb, ltb, List, [], ◌∷◌, map, length, get_or, count_by, filter, sym, refl, ap, ◌∙◌, ⊎_elim, arith}
use Rattle.std.specs.List.{range_with_len}
use Rattle.std.proofs.lemmas.List.FromFn.{fill_by_all, sum_by-map-range_with_len_more}
use Rattle.std.proofs.lemmas.List.{map-id}
use Rattle.std.proofs.lemmas.Bool.{ne_eqb, lt-ltb, cases_eq, cases_Bool}
use Rattle.rows.specs.Tests.{has}
use Rattle.model.specs.Members.{In, here, there}
use Rattle.model.proofs.Counts.{bit, count_cons, count_none, search_for, in_all}
use Rattle.model.proofs.Distances.{sumBy_map}
use Rattle.model.proofs.Processors.{within}

-- each element is in one of the two parts
bit_split : (a b : Bool) → bit (a && b) + bit (not a && b) ≡ bit b
bit_split true true = refl
bit_split true false = refl
bit_split false true = refl
bit_split false false = refl

module _ {X : Type 0} where
  -- tests that agree on the elements count the same
  pub count_same : (p q : X → Bool) (xs : List X) → ((x : X) → In x xs → p x ≡ q x) → count_by p xs ≡ count_by q xs
  count_same p q [] h = refl
  count_same p q (x ∷ xs) h =
      omega (arith, count_cons p x xs, count_cons q x xs, ap bit (h x here), count_same p q xs (λ y i. h y (there i)))

  -- an element that passes is counted
  pub in_count : (p : X → Bool) {x : X} (xs : List X) → In x xs → p x ≡ true → 1 ≤ count_by p xs
  in_count p [] i e = elim i [ ]
  in_count p (x ∷ xs) here e = omega (arith, count_cons p x xs, ap bit e)
  in_count p (y ∷ xs) (there i) e = omega (arith, count_cons p y xs, in_count p xs i e)

  -- where some are counted there is an element that passes
  pub count_in : (p : X → Bool) (xs : List X) → 1 ≤ count_by p xs → (x : X) × In x xs × (p x ≡ true)
  count_in p xs some = ⊎_elim (λ s. s) (λ n. absurd (omega (arith, count_none p xs n))) (search_for p xs)

  -- where none is counted no element passes
  pub count_no : (p : X → Bool) {x : X} (xs : List X) → count_by p xs ≡ 0 → In x xs → p x ≡ false
  count_no p {x} xs none i = ⊎_elim (λ e. absurd (omega (arith, in_count p xs i e))) (λ e. e) (cases_Bool (p x))

  -- those that pass a test, and those that do not
  pub count_split : (p q : X → Bool) (xs : List X) → count_by (λ x. p x && q x) xs + count_by (λ x. not (p x) && q x) xs ≡ count_by q xs
  count_split p q [] = refl
  count_split p q (x ∷ xs) =
      omega (arith, count_cons (λ x. p x && q x) x xs, count_cons (λ x. not (p x) && q x) x xs, count_cons q x xs, bit_split (p x) (q x), count_split p q xs)

  -- a count over what a filter keeps
  pub count_kept : (p q : X → Bool) (xs : List X) → count_by p (filter q xs) ≡ count_by (λ x. q x && p x) xs
  count_kept p q [] = refl
  count_kept p q (x ∷ xs) = omega (arith, count_cons (λ x. q x && p x) x xs, go (q x), count_kept p q xs)
    where
      go : (b : Bool) → count_by p (cond b (x ∷ filter q xs) (filter q xs)) ≡ bit (b && p x) + count_by p (filter q xs)
      go true = count_cons p x (filter q xs)
      go false = omega arith

  -- a key stands once, also with one more element that has a lower key than the others
  pub once_more : (f : X → ℕ) (k : ℕ) (x : X) (xs : List X) → ((y : X) → In y xs → f x < f y) → count_by (λ y. eqb (f y) k) xs ≤ 1
      → count_by (λ y. eqb (f y) k) (x ∷ xs) ≤ 1
  once_more f k x xs low once =
      ⊎_elim
      (λ e. let none = count_none (λ y. eqb (f y) k) xs (λ y i. ne_eqb (f y) k (λ q. omega (arith, low y i))) in
      let le : bit (eqb (f x) k) ≤ 1 = grind arith in
      omega (arith, count_cons (λ y. eqb (f y) k) x xs))
      (λ e. omega (arith, count_cons (λ y. eqb (f y) k) x xs, ap bit (ne_eqb (f x) k e)))
      (cases_eq (f x) k)

-- a count over a mapped list
pub count_map : {X Y : Type 0} (p : Y → Bool) (g : X → Y) (xs : List X) → count_by p (map g xs) ≡ count_by (λ x. p (g x)) xs
count_map p g xs = sumBy_map (λ y. bit (p y)) g xs

-- by places
pub count_at : {X : Type 0} (p : X → Bool) (d : X) (xs : List X) → count_by p xs ≡ count_by (λ i. p (get_or xs i d)) (range_with_len 0 (length xs))
count_at p d xs =
    ap (count_by p) (fill_by_all (λ i. get_or xs i d) xs (length xs) d refl (λ k h. refl)) ∙ count_map p (λ i. get_or xs i d) (range_with_len 0 (length xs))

-- a number stands in a mapped list if some of the elements are equal to it
pub has_count : {X : Type 0} (p : ℕ) (f : X → ℕ) (xs : List X) → has p (map f xs) ≡ ltb 0 (count_by (λ x. eqb p (f x)) xs)
has_count p f [] = refl
has_count p f (x ∷ xs) = go (eqb p (f x)) (count_by (λ x. eqb p (f x)) (x ∷ xs)) (count_cons (λ x. eqb p (f x)) x xs) (has_count p f xs)
  where
    go : (b : Bool) (n : ℕ) → n ≡ bit b + count_by (λ x. eqb p (f x)) xs → has p (map f xs) ≡ ltb 0 (count_by (λ x. eqb p (f x)) xs) → (b || has p (map f xs)) ≡ ltb 0 n
    go true n e again = sym (lt-ltb 0 n (omega arith))
    go false n e again = again ∙ ap (ltb 0) (omega arith)

-- what counting counts
pub in_counting : (i a n : ℕ) → In i (range_with_len a n) → (a ≤ i) × (i < a + n)
in_counting i a n h = in_all (λ j. (a ≤ j) × (j < a + n)) (within a n) h

-- it counts each number once
pub counting_once : (i a n : ℕ) → count_by (λ j. eqb j i) (range_with_len a n) ≤ 1
counting_once i a zero = omega arith
counting_once i a (suc n) =
    once_more (λ j. j) i a (range_with_len (a + 1) n) (λ j h. omega (arith, in_counting j (a + 1) n h)) (counting_once i (a + 1) n)

-- and one more where it goes one further
pub counted_more : (p : ℕ → Bool) (i : ℕ) → count_by p (range_with_len 0 (i + 1)) ≡ count_by p (range_with_len 0 i) + bit (p i)
counted_more p i = omega (
  arith,
  ap (count_by p) (map-id (range_with_len 0 (i + 1))),
  ap (count_by p) (map-id (range_with_len 0 i)),
  sum_by-map-range_with_len_more (λ j. bit (p j)) (λ j. j) 0 i i (omega arith),
)
