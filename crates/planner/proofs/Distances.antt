-- The distance to the next event and its kind, from the least time left of the chosen tokens and the most of the others.
use Rattle.std.proofs.Common.{◌≡◌, ℕ, ◌+◌, ◌-◌, ◌<◌, ◌≤◌, min, max, Bool, true, false, cond, not, ◌&&◌, ◌||◌, eqb, List, [], ◌∷◌, sym, ap, ◌∙◌, ⊎_elim, arith, eq-eqb, ne_eqb}
use Rattle.std.proofs.Permutation.{which}
use Rattle.rows.specs.declared.memory.Token.{Token}
use Rattle.rows.specs.Tests.{any}
use Rattle.model.specs.Members.{In, here, there}
use Rattle.model.specs.Steps.{distance, event}
use Rattle.planner.specs.Looking.{least_left, most_left}

-- the least of two is d where one of them is
least_one : (a b d : ℕ) (t : Bool) → d ≤ a → d ≤ b → t ≡ eqb b d → (eqb a d || t) ≡ eqb (min a b) d
least_one a b d t p q h = ap (λ s. eqb a d || s) h ∙ ⊎_elim
    (λ (e : a ≡ d). ap (λ s. s || eqb b d) (eq-eqb a d e) ∙ sym (eq-eqb (min a b) d (omega arith)))
    (λ (e : a ≡ d → ⊥). ap (λ s. s || eqb b d) (ne_eqb a d e) ∙ ⊎_elim
    (λ (f : b ≡ d). eq-eqb b d f ∙ sym (eq-eqb (min a b) d (omega arith)))
    (λ (f : b ≡ d → ⊥). ne_eqb b d f ∙ sym (ne_eqb (min a b) d (λ s. omega arith)))
    (which b d))
    (which a d)

-- the most of two is r where one of them is
most_one : (a b r : ℕ) (t : Bool) → a ≤ r → b ≤ r → t ≡ eqb b r → (eqb a r || t) ≡ eqb (max a b) r
most_one a b r t p q h = ap (λ s. eqb a r || s) h ∙ ⊎_elim
    (λ (e : a ≡ r). ap (λ s. s || eqb b r) (eq-eqb a r e) ∙ sym (eq-eqb (max a b) r (omega arith)))
    (λ (e : a ≡ r → ⊥). ap (λ s. s || eqb b r) (ne_eqb a r e) ∙ ⊎_elim
    (λ (f : b ≡ r). eq-eqb b r f ∙ sym (eq-eqb (max a b) r (omega arith)))
    (λ (f : b ≡ r → ⊥). ne_eqb b r f ∙ sym (ne_eqb (max a b) r (λ s. omega arith)))
    (which b r))
    (which a r)

module _ (picks : Token → Bool) (span : ℕ) where
  pub most_at_most : (ts : List Token) → ((x : Token) → In x ts → x.left ≤ span) → most_left picks ts ≤ span
  most_at_most [] low = omega arith
  most_at_most (x ∷ xs) low = by (picks x) (low x here) (most_at_most xs (λ y i. low y (there i)))
    where
      by : (b : Bool) → x.left ≤ span → most_left picks xs ≤ span → cond b (most_left picks xs) (max x.left (most_left picks xs)) ≤ span
      by true l h = h
      by false l h = omega arith

  pub distance_is : (ts : List Token) → distance picks span ts ≡ min (least_left picks span ts) (span - most_left picks ts)
  distance_is [] = omega arith
  distance_is (x ∷ xs) = by (picks x) (distance_is xs)
    where
      by : (b : Bool) → distance picks span xs ≡ min (least_left picks span xs) (span - most_left picks xs)
          → min (cond b x.left (span - x.left)) (distance picks span xs)
          ≡ min (cond b (min x.left (least_left picks span xs)) (least_left picks span xs)) (span - cond b (most_left picks xs) (max x.left (most_left picks xs)))
      by true h = omega arith
      by false h = omega arith

  used_up : (d : ℕ) (ts : List Token) → d < span → d ≤ least_left picks span ts → any (λ x. picks x && eqb x.left d) ts ≡ eqb (least_left picks span ts) d
  used_up d [] short low = sym (ne_eqb span d (λ e. omega arith))
  used_up d (x ∷ xs) short low = by (picks x) low (used_up d xs short)
    where
      by : (b : Bool) → d ≤ cond b (min x.left (least_left picks span xs)) (least_left picks span xs)
          → (d ≤ least_left picks span xs → any (λ y. picks y && eqb y.left d) xs ≡ eqb (least_left picks span xs) d)
          → ((b && eqb x.left d) || any (λ y. picks y && eqb y.left d) xs) ≡ eqb (cond b (min x.left (least_left picks span xs)) (least_left picks span xs)) d
      by true l more = let h = more (omega arith) in least_one x.left (least_left picks span xs) d (any (λ y. picks y && eqb y.left d) xs) (omega arith) (omega arith) h
      by false l more = more l

  on_ceiling : (r : ℕ) (ts : List Token) → 0 < r → most_left picks ts ≤ r → any (λ x. not (picks x) && eqb x.left r) ts ≡ eqb (most_left picks ts) r
  on_ceiling r [] some low = sym (ne_eqb 0 r (λ e. omega arith))
  on_ceiling r (x ∷ xs) some low = by (picks x) low (on_ceiling r xs some)
    where
      by : (b : Bool) → cond b (most_left picks xs) (max x.left (most_left picks xs)) ≤ r
          → (most_left picks xs ≤ r → any (λ y. not (picks y) && eqb y.left r) xs ≡ eqb (most_left picks xs) r)
          → ((not b && eqb x.left r) || any (λ y. not (picks y) && eqb y.left r) xs) ≡ eqb (cond b (most_left picks xs) (max x.left (most_left picks xs))) r
      by true l more = more l
      by false l more = let h = more (omega arith) in most_one x.left (most_left picks xs) r (any (λ y. not (picks y) && eqb y.left r) xs) (omega arith) (omega arith) h

  -- the number of the event, from the least and the most
  pub event_is : (d rest : ℕ) (ts : List Token) → d ≡ distance picks span ts → rest ≡ span - d → ((x : Token) → In x ts → x.left ≤ span)
      → event picks d rest ts ≡ cond (eqb rest 0) 4 (cond (eqb (least_left picks span ts) d) 1 0 + cond (eqb (most_left picks ts) rest) 2 0)
  event_is d rest ts d-is rest-is low = ⊎_elim
      (λ (e : rest ≡ 0). let z = eq-eqb rest 0 e in ap (λ b. cond b 4 (cond (any (λ x. picks x && eqb x.left d) ts) 1 0 + cond (any (λ x. not (picks x) && eqb x.left rest) ts) 2 0)) z ∙ sym (ap (λ b. cond b 4 (cond (eqb (least_left picks span ts) d) 1 0 + cond (eqb (most_left picks ts) rest) 2 0)) z))
      (λ (e : rest ≡ 0 → ⊥).
      let far = distance_is ts in
      let high = most_at_most ts low in
      λ j. cond (eqb rest 0) 4 (cond (used_up d ts (omega arith) (omega arith) j) 1 0 + cond (on_ceiling rest ts (omega arith) (omega arith) j) 2 0))
      (which rest 0)
