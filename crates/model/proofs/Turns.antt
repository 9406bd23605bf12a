-- Those who have no processor take the lowest free ones, in order of tag.
use Rattle.std.proofs.Common.{◌≡◌, ℕ, zero, suc, ◌<◌, ◌≤◌, Bool, true, false, not, ◌&&◌, eqb, ltb, ◌⊎◌, List, [], ◌∷◌, map, length, get_or, count_by, filter, sym, refl, ap, ◌∙◌, inl, inr, ⊎_elim, arith}
use Rattle.std.specs.List.{range_with_len}
use Rattle.std.proofs.lemmas.Bool.{and_parts, and_from, and_right, le-ltb, eqb-true, eq-eqb, cases_lt, cases_order, cases_Bool, cond-true, not_from_false}
use Rattle.std.proofs.lemmas.Bool.Decides.{nat_tests}
use Rattle.rows.specs.declared.memory.Token.{Token}
use Rattle.rows.specs.Tests.{has, distinct}
use Rattle.model.specs.Steps.{free, turn, assigned}
use Rattle.model.specs.Members.{In, here, there}
use Rattle.model.proofs.Counts.{count_cons, count_none, count_le}
use Rattle.model.proofs.Tags.{increasing, above, in_kept}
use Rattle.model.proofs.Processors.{waits, held, gets, numbered, early, rising, kept_in}
use Rattle.model.proofs.Runners.{has_map, counted}

-- a member stands at an index
index_of : (x : ℕ) (xs : List ℕ) → In x xs → (i : ℕ) × (i < length xs) × (get_or xs i 0 ≡ x)
index_of x [] i = elim i [ ]
index_of x (y ∷ xs) here = (0, omega arith, refl)
index_of x (y ∷ xs) (there i) = let s = index_of x xs i in (suc s.0, omega (arith, s.1), s.2)

-- so many of rising tags pass a test: each number below that is the turn of one of them
turn_of : (w : Token → Bool) (low : ℕ) (ts : List Token) → increasing low (map (λ t. t.tag) ts) ≡ true → (j : ℕ) → j < count_by w ts
    → (y : Token) × In y ts × (w y ≡ true) × (count_by (λ z. w z && ltb z.tag y.tag) ts ≡ j)
turn_of w low [] up j l = absurd (omega arith)
turn_of w low (t ∷ ts) up j l = go (w t) refl j l (turn_of w t.tag ts over)
  where
    over : increasing t.tag (map (λ t. t.tag) ts) ≡ true
    over = (and_parts (ltb low t.tag) (increasing t.tag (map (λ t. t.tag) ts)) up).1

    Found : List Token → ℕ → Type 0
    Found us j = (y : Token) × In y us × (w y ≡ true) × (count_by (λ z. w z && ltb z.tag y.tag) us ≡ j)

    go : (b : Bool) → w t ≡ b → (j : ℕ) → j < count_by w (t ∷ ts) → ((j : ℕ) → j < count_by w ts → Found ts j) → Found (t ∷ ts) j
    go true e zero l again = (t, here, e, count_none (λ z. w z && ltb z.tag t.tag) (t ∷ ts) none)
      where
        none : (z : Token) → In z (t ∷ ts) → (w z && ltb z.tag t.tag) ≡ false
        none z here = and_right _ _ (le-ltb z.tag z.tag (omega arith))
        none z (there i) = and_right _ _ (le-ltb z.tag t.tag (omega (arith, above (λ t. t.tag) t.tag ts over z i)))
    go true e (suc j) l again =
        let s = again j (grind (arith, count_cons w t ts, e)) in
        let y = s.0 in
        (y, there s.1, s.2, grind (arith, nat_tests, count_cons (λ z. w z && ltb z.tag y.tag) t ts, e, above (λ t. t.tag) t.tag ts over y s.1, s.3))
    go false e j l again =
        let s = again j (grind (arith, count_cons w t ts, e)) in
        (s.0, there s.1, s.2, grind (arith, count_cons (λ z. w z && ltb z.tag s.0.tag) t ts, e, s.3))

module _ (m : ℕ) (picks : Token → Bool) (ts : List Token) (tagged : increasing 0 (map (λ t. t.tag) ts) ≡ true)
    (c : count_by picks ts ≤ m) (low : (x : Token) → In x ts → x.processor ≤ m) (own : distinct (map (λ t. t.processor) ts) ≡ true) where
  -- who has a processor below one that is newly taken: one who kept it, or one of a lower tag
  pub lower_taken : (x : Token) → In x ts → picks x ≡ true → x.processor ≡ 0 → (q : ℕ) → 1 ≤ q → q < assigned m picks ts x
      → (y : Token) × In y ts × (picks y ≡ true) × (assigned m picks ts y ≡ q) × ((y.processor ≡ q) ⊎ ((y.processor ≡ 0) × (y.tag < x.tag)))
  lower_taken x i h z q l u = ⊎_elim kept_it (λ f. ⊎_elim new_one (λ g. absurd (g.0 z)) (gets m picks ts x h) f) (cases_Bool (has q (held m picks ts)))
    where
      Taken : Type 0
      Taken = (y : Token) × In y ts × (picks y ≡ true) × (assigned m picks ts y ≡ q) × ((y.processor ≡ q) ⊎ ((y.processor ≡ 0) × (y.tag < x.tag)))

      kept_it : has q (held m picks ts) ≡ true → Taken
      kept_it e =
          let s = has_map (λ y. y.processor) q (filter picks ts) e in
          let y = s.0 in
          let k = in_kept picks y ts s.1 in
          ⊎_elim (λ g. absurd (omega (arith, g.0, s.2))) (λ g. (y, k.0, k.1, g.1 ∙ sym s.2, inl (sym s.2))) (gets m picks ts y k.1)

      new_one : (x.processor ≡ 0) × (assigned m picks ts x ≡ get_or (free m picks ts) (turn picks ts x) 0) → has q (held m picks ts) ≡ false → Taken
      new_one g f =
          let few = (numbered m picks ts c low own x i h).1 in
          let open-one : In q (free m picks ts) = kept_in (λ p. not (has p (held m picks ts))) q (range_with_len 1 m) (counted q 1 m l (omega arith)) (not_from_false _ f) in
          let s = index_of q (free m picks ts) open-one in
          let sooner : s.0 < turn picks ts x =
          ⊎_elim (λ e. absurd (omega (arith, g.1, s.2, ap (λ k. get_or (free m picks ts) k 0) e))) (⊎_elim (λ a. a)
          (λ a. absurd (omega (arith, g.1, s.2, rising (λ p. not (has p (held m picks ts))) 1 m (turn picks ts x) s.0 a s.1))))
          (cases_order s.0 (turn picks ts x)) in
          let last = early m picks ts x i (and_from _ _ h (eq-eqb x.processor 0 z)) in
          let t = turn_of (waits m picks ts) 0 ts tagged s.0 (omega arith) in
          let y = t.0 in
          let p = and_parts (picks y) (eqb y.processor 0) t.2 in
          let gets-it : assigned m picks ts y ≡ q =
          cond-true (picks y) _ _ p.0 ∙ cond-true (eqb y.processor 0) _ _ p.1 ∙ ap (λ k. get_or (free m picks ts) k 0) t.3 ∙ s.2 in
          (y, t.1, p.0, gets-it, inr (eqb-true y.processor 0 p.1, ⊎_elim (λ a. a) (λ a. absurd (omega (arith, t.3, fewer y a))) (cases_lt y.tag x.tag)))
        where
          fewer : (y : Token) → x.tag ≤ y.tag → turn picks ts x ≤ turn picks ts y
          fewer y a = count_le (λ z. waits m picks ts z && ltb z.tag x.tag) (λ z. waits m picks ts z && ltb z.tag y.tag) ts
              (λ z k e. grind (arith, nat_tests))
