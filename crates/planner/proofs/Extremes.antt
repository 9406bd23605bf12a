-- The least time left of the tokens that are picked, the most of the others, and where they stand in a line.
use Rattle.std.proofs.Common.{◌≡◌, ℕ, zero, suc, ◌+◌, ◌-◌, ◌<◌, ◌≤◌, min, max, Bool, true, false, List, [], ◌∷◌, length, get_or, take, drop, sym, ap, ◌∙◌, arith}
use Rattle.std.proofs.ByRecursion.{All-get_or}
use Rattle.std.proofs.lemmas.List.{length-take, length-drop, get_or-take, get_or-drop}
use Rattle.std.proofs.lemmas.Bool.{cond-true, cond-false, cond_both}
use Rattle.rows.specs.declared.memory.Token.{Token}
use Rattle.model.specs.Members.{In, here, there}
use Rattle.planner.specs.Lining.{Lined, sooner}
use Rattle.planner.specs.Looking.{least_left, most_left}
use Rattle.planner.proofs.Members.{place_of}
use Rattle.planner.proofs.InLine.{no_sooner}

module _ (picks : Token → Bool) (span : ℕ) where
  -- at most the span
  pub least_span : (ts : List Token) → least_left picks span ts ≤ span
  least_span [] = omega arith
  least_span (x ∷ xs) = cond_both (picks x) _ _ (λ v. v ≤ span) (λ e. omega (arith, least_span xs)) (λ e. least_span xs)

  -- at most the time left of any that is picked
  pub least_le : (ts : List Token) (x : Token) → In x ts → picks x ≡ true → least_left picks span ts ≤ x.left
  least_le [] x i h = elim i [ ]
  least_le (y ∷ xs) x here h = omega (arith, cond-true (picks x) (min x.left (least_left picks span xs)) (least_left picks span xs) h)
  least_le (y ∷ xs) x (there i) h = cond_both (picks y) _ _ (λ v. v ≤ x.left) (λ e. omega (arith, least_le xs x i h)) (λ e. least_le xs x i h)

  -- and no less
  pub least_ge : (ts : List Token) (v : ℕ) → v ≤ span → ((x : Token) → In x ts → picks x ≡ true → v ≤ x.left) → v ≤ least_left picks span ts
  least_ge [] v s h = s
  least_ge (x ∷ xs) v s h =
      let again = least_ge xs v s (λ y i. h y (there i)) in
      cond_both (picks x) _ _ (λ u. v ≤ u) (λ e. omega (arith, h x here e)) (λ e. again)

module _ (picks : Token → Bool) where
  -- at least the time left of any that is not picked
  pub most_ge : (ts : List Token) (x : Token) → In x ts → picks x ≡ false → x.left ≤ most_left picks ts
  most_ge [] x i h = elim i [ ]
  most_ge (y ∷ xs) x here h = omega (arith, cond-false (picks x) (most_left picks xs) (max x.left (most_left picks xs)) h)
  most_ge (y ∷ xs) x (there i) h = cond_both (picks y) _ _ (λ v. x.left ≤ v) (λ e. most_ge xs x i h) (λ e. omega (arith, most_ge xs x i h))

  -- and no more
  pub most_le : (ts : List Token) (v : ℕ) → ((x : Token) → In x ts → picks x ≡ false → x.left ≤ v) → most_left picks ts ≤ v
  most_le [] v h = omega arith
  most_le (x ∷ xs) v h =
      let again = most_le xs v (λ y i. h y (there i)) in
      cond_both (picks x) _ _ (λ u. u ≤ v) (λ e. again) (λ e. omega (arith, h x here e))

-- the time left falls along a line
along : (line : List Token) → Lined line → (d : Token) (i j : ℕ) → i ≤ j → j < length line → (get_or line j d).left ≤ (get_or line i d).left
along [] order d i j le h = absurd (omega arith)
along (x ∷ xs) order d zero zero le h = omega arith
along (x ∷ xs) order d zero (suc j) le h = no_sooner x (get_or xs j d) (All-get_or (λ y. sooner y x ≡ false) xs j d (omega arith) order.0)
along (x ∷ xs) order d (suc i) zero le h = absurd (omega arith)
along (x ∷ xs) order d (suc i) (suc j) le h = along xs order.1 d i j (omega arith) (omega arith)

module _ (line : List Token) (order : Lined line) where
  -- the last of the first n has the least of them
  pub last_least : (n r : ℕ) → r ≡ min n (length line) → 0 < r → (d y : Token) → In y (take n line) → (get_or line (r - 1) d).left ≤ y.left
  last_least n r r-is pos d y i =
      let p = place_of (take n line) d i in
      let l : p.0 < min n (length line) = omega (arith, p.1, length-take n line) in
      let e : (get_or line p.0 d).left ≡ y.left = ap (λ x. x.left) (sym (get_or-take n line p.0 d (omega arith)) ∙ p.2) in
      omega (arith, along line order d p.0 (r - 1) (omega arith) (omega arith))

  -- the first of the rest has the most of them
  pub first_most : (n : ℕ) → n < length line → (d y : Token) → In y (drop n line) → y.left ≤ (get_or line n d).left
  first_most n h d y i =
      let p = place_of (drop n line) d i in
      let e : (get_or line (n + p.0) d).left ≡ y.left = ap (λ x. x.left) (sym (get_or-drop n line p.0 d) ∙ p.2) in
      omega (arith, along line order d n (n + p.0) (omega arith) (omega (arith, p.1, length-drop n line)))
