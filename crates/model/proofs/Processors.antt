-- Each chosen token has a processor of its own.
use Rattle.std.proofs.Common.{◌≡◌, ℕ, zero, suc, ◌+◌, ◌<◌, ◌≤◌, Bool, true, false, cond, not, ◌&&◌, eqb, ltb, leb, ◌⊎◌, List, [], ◌∷◌, map, length, get_or, count_by, filter, sym, refl, ◌∙◌, subst, inl, inr, ⊎_elim, arith}
use Rattle.std.specs.List.{range_with_len, AllByRecursion}
use Rattle.std.proofs.lemmas.List.FromFn.{length-range_with_len}
use Rattle.std.proofs.ByRecursion.{All-get_or, all_kept_by, kept_by_passes}
use Rattle.std.proofs.lemmas.List.Filters.{length-filter_both}
use Rattle.std.proofs.lemmas.List.Sums.{length-filter}
use Rattle.std.proofs.lemmas.Bool.{and_parts, and_from, and_right, or_cases, or_left, or_right, lt-ltb, le-ltb, eqb-true, eqb-false, eq-eqb, cases_order, cases_Bool, both_ways, not-true, cond-true, cond-false, cond_both}
use Rattle.std.proofs.lemmas.Bool.Decides.{nat_tests}
use Rattle.rows.specs.declared.memory.Token.{Token}
use Rattle.rows.specs.Tests.{has, distinct}
use Rattle.model.specs.Steps.{free, turn, assigned}
use Rattle.model.specs.Members.{In, here, there}
use Rattle.model.proofs.Counts.{bit, count_cons, count_none, count_lt, count_or}

-- a number stands at most once among those counted from a, and not if it is below a
hits : (q a n : ℕ) → count_by (λ p. eqb p q) (range_with_len a n) ≤ bit (leb a q)
hits q a zero = omega arith
hits q a (suc n) =
    let one : bit (eqb a q) + bit (leb (a + 1) q) ≤ bit (leb a q) = grind (arith, nat_tests) in
    omega (arith, count_cons (λ p. eqb p q) a (range_with_len (a + 1) n), hits q (a + 1) n, one)

-- so many of 1 to m are used as there are numbers above 0
used : (m : ℕ) (ps : List ℕ) → count_by (λ p. has p ps) (range_with_len 1 m) ≤ count_by (leb 1) ps
used m [] = omega (arith, count_none (λ p. false) (range_with_len 1 m) (λ x i. refl))
used m (q ∷ ps) =
    omega (
      arith,
      count_cons (leb 1) q ps,
      hits q 1 m,
      used m ps,
      count_or (λ p. has p (q ∷ ps)) (λ p. eqb p q) (λ p. has p ps) (range_with_len 1 m) (λ p i h. or_cases (eqb p q) (has p ps) h),
    )

pub within : (a n : ℕ) → AllByRecursion (λ p. (a ≤ p) × (p < a + n)) (range_with_len a n)
within a zero = tt
within a (suc n) = ((omega arith, omega arith), up (range_with_len (a + 1) n) (within (a + 1) n))
  where
    up : (ps : List ℕ) → AllByRecursion (λ p. (a + 1 ≤ p) × (p < a + 1 + n)) ps → AllByRecursion (λ p. (a ≤ p) × (p < a + suc n)) ps
    up [] h = tt
    up (p ∷ ps) h = ((omega (arith, h.0), omega (arith, h.0)), up ps h.1)

-- what a filter keeps of the numbers counted from a rises
pub rising : (t : ℕ → Bool) (a n i j : ℕ) → i < j → j < length (filter t (range_with_len a n)) → get_or (filter t (range_with_len a n)) i 0 < get_or (filter t (range_with_len a n)) j 0
rising t a zero i j l k = absurd (omega arith)
rising t a (suc n) i j l k = go (t a) i j (filter t (range_with_len (a + 1) n)) (rising t (a + 1) n) (all_kept_by t (λ p. (a + 1 ≤ p) × (p < a + 1 + n)) (range_with_len (a + 1) n) (within (a + 1) n)) l k
  where
    go : (b : Bool) (i j : ℕ) (rest : List ℕ)
        → ((i j : ℕ) → i < j → j < length rest → get_or rest i 0 < get_or rest j 0)
        → AllByRecursion (λ p. (a + 1 ≤ p) × (p < a + 1 + n)) rest
        → i < j → j < length (cond b (a ∷ rest) rest) → get_or (cond b (a ∷ rest) rest) i 0 < get_or (cond b (a ∷ rest) rest) j 0
    go false i j rest again low l k = again i j l k
    go true zero zero rest again low l k = absurd (omega arith)
    go true zero (suc j) rest again low l k =
        let h = All-get_or (λ p. (a + 1 ≤ p) × (p < a + 1 + n)) rest j 0 (omega arith) low in omega (arith, h)
    go true (suc i) zero rest again low l k = absurd (omega arith)
    go true (suc i) (suc j) rest again low l k = again i j (omega arith) (omega arith)

-- what rises has each number once
steady : (xs : List ℕ) → ((i j : ℕ) → i < j → j < length xs → get_or xs i 0 < get_or xs j 0) → (i j : ℕ) → i < length xs → j < length xs → get_or xs i 0 ≡ get_or xs j 0 → i ≡ j
steady xs up i j a b e =
    ⊎_elim (λ h. h) (⊎_elim (λ h. absurd (omega (arith, up i j h b))) (λ h. absurd (omega (arith, up j i h a)))) (cases_order i j)

-- what a map gives at a member stands in the mapped list
pub map_has : {X : Type 0} (f : X → ℕ) {x : X} (xs : List X) → In x xs → has (f x) (map f xs) ≡ true
map_has f [] i = elim i [ ]
map_has f (x ∷ xs) here = or_left _ _ (eq-eqb (f x) (f x) refl)
map_has f {x} (y ∷ xs) (there i) = or_right (eqb (f x) (f y)) _ (map_has f xs i)

-- tokens on one processor are one
alone : (x y : Token) (ts : List Token) → distinct (map (λ t. t.processor) ts) ≡ true → In x ts → In y ts → x.processor ≡ y.processor → (x.processor ≡ 0 → ⊥) → x.tag ≡ y.tag
alone x y [] h i j e z = elim i [ ]
alone x y (t ∷ ts) h here here e z = refl
alone x y (t ∷ ts) h here (there j) e z = grind (arith, nat_tests, map_has (λ t. t.processor) ts j)
alone x y (t ∷ ts) h (there i) here e z = grind (arith, nat_tests, map_has (λ t. t.processor) ts i)
alone x y (t ∷ ts) h (there i) (there j) e z = alone x y ts (and_parts _ _ h).1 i j e z

pub kept_in : {X : Type 0} (p : X → Bool) (x : X) (xs : List X) → In x xs → p x ≡ true → In x (filter p xs)
kept_in p x [] i h = elim i [ ]
kept_in p x (y ∷ xs) here h = subst (λ b. In x (cond b (x ∷ filter p xs) (filter p xs))) (sym h) here
kept_in p x (y ∷ xs) (there i) h =
    let k = kept_in p x xs i h in cond_both (p y) (y ∷ filter p xs) (filter p xs) (In x) (λ e. there k) (λ e. k)

module _ (m : ℕ) (picks : Token → Bool) (ts : List Token) where
  abbrev pub waits : Token → Bool
  waits y = picks y && eqb y.processor 0

  abbrev pub held : List ℕ
  held = map (λ y. y.processor) (filter picks ts)

  -- those who keep a processor and those who wait for one
  both : (us : List Token) → count_by (leb 1) (map (λ y. y.processor) (filter picks us)) + count_by waits us ≤ count_by picks us
  both [] = omega arith
  both (x ∷ xs) =
      grind (arith, nat_tests, count_cons waits x xs, count_cons picks x xs, count_cons (leb 1) x.processor (map (λ y. y.processor) (filter picks xs)), both xs)

  room : count_by picks ts ≤ m → count_by waits ts ≤ length (free m picks ts)
  room c =
      omega (
        arith,
        both ts,
        used m held,
        length-range_with_len 1 m,
        length-filter_both (λ p. has p held) (λ p. not (has p held)) (λ _. refl) (range_with_len 1 m),
        length-filter (λ p. has p held) (range_with_len 1 m),
      )

  pub early : (x : Token) → In x ts → waits x ≡ true → turn picks ts x < count_by waits ts
  early x i w =
      count_lt (λ y. waits y && ltb y.tag x.tag) waits ts (λ y j h. (and_parts (waits y) _ h).0) i
      (and_right _ _ (le-ltb x.tag x.tag (omega arith))) w

  -- tokens that wait take their turns one by one
  in_turn : (x y : Token) → In x ts → waits x ≡ true → x.tag < y.tag → turn picks ts x < turn picks ts y
  in_turn x y i w l =
      count_lt (λ z. waits z && ltb z.tag x.tag) (λ z. waits z && ltb z.tag y.tag) ts
      (λ z j h. grind (arith, nat_tests))
      i (and_right _ _ (le-ltb x.tag x.tag (omega arith))) (and_from _ _ w (lt-ltb x.tag y.tag l))

  -- what a chosen token gets
  pub gets : (x : Token) → picks x ≡ true → ((x.processor ≡ 0) × (assigned m picks ts x ≡ get_or (free m picks ts) (turn picks ts x) 0)) ⊎ ((x.processor ≡ 0 → ⊥) × (assigned m picks ts x ≡ x.processor))
  gets x h = ⊎_elim
      (λ e. inl (eqb-true x.processor 0 e, cond-true (picks x) _ _ h ∙ cond-true (eqb x.processor 0) _ _ e))
      (λ e. inr (eqb-false x.processor 0 e, cond-true (picks x) _ _ h ∙ cond-false (eqb x.processor 0) _ _ e))
      (cases_Bool (eqb x.processor 0))

  module _ (c : count_by picks ts ≤ m) (low : (x : Token) → In x ts → x.processor ≤ m) (own : distinct (map (λ t. t.processor) ts) ≡ true) where
    pub its_turn : (x : Token) → In x ts → picks x ≡ true → x.processor ≡ 0 → turn picks ts x < length (free m picks ts)
    its_turn x i h z = omega (arith, room c, early x i (and_from _ _ h (eq-eqb x.processor 0 z)))

    pub numbered : (x : Token) → In x ts → picks x ≡ true → (1 ≤ assigned m picks ts x) × (assigned m picks ts x ≤ m)
    numbered x i h = ⊎_elim
        (λ g. let k = its_turn x i h g.0 in
        let a = All-get_or (λ p. (1 ≤ p) × (p < 1 + m)) (free m picks ts) (turn picks ts x) 0 k (all_kept_by (λ p. not (has p held)) (λ p. (1 ≤ p) × (p < 1 + m)) (range_with_len 1 m) (within 1 m)) in
        (omega (arith, g.1, a), omega (arith, g.1, a)))
        (λ g. (omega (arith, g.1, g.0), omega (arith, g.1, low x i)))
        (gets x h)

    -- a free processor is none that is kept
    unused : (x y : Token) → In x ts → picks x ≡ true → x.processor ≡ 0 → In y ts → picks y ≡ true → get_or (free m picks ts) (turn picks ts x) 0 ≡ y.processor → ⊥
    unused x y i h z j k e =
        let a = All-get_or (λ p. not (has p held) ≡ true) (free m picks ts) (turn picks ts x) 0 (its_turn x i h z) (kept_by_passes (λ p. not (has p held)) (range_with_len 1 m)) in
        let b = map_has (λ t. t.processor) (filter picks ts) (kept_in picks y ts j k) in
        both_ways _ (not-true _ (subst (λ p. not (has p held) ≡ true) e a)) b

    pub own_processor : (x y : Token) → In x ts → In y ts → picks x ≡ true → picks y ≡ true → assigned m picks ts x ≡ assigned m picks ts y → x.tag ≡ y.tag
    own_processor x y i j h k e = ⊎_elim
        (λ a. ⊎_elim
        (λ b. one_turn a.0 b.0 (steady (free m picks ts) (rising (λ p. not (has p held)) 1 m) (turn picks ts x) (turn picks ts y) (its_turn x i h a.0) (its_turn y j k b.0) (sym a.1 ∙ e ∙ b.1)))
        (λ b. absurd (unused x y i h a.0 j k (sym a.1 ∙ e ∙ b.1))) (gets y k))
        (λ a. ⊎_elim
        (λ b. absurd (unused y x j k b.0 i h (sym b.1 ∙ sym e ∙ a.1)))
        (λ b. alone x y ts own i j (sym a.1 ∙ e ∙ b.1) a.0) (gets y k))
        (gets x h)
      where
        one_turn : (x.processor ≡ 0) → (y.processor ≡ 0) → turn picks ts x ≡ turn picks ts y → x.tag ≡ y.tag
        one_turn a b t = ⊎_elim (λ q. q)
            (⊎_elim (λ l. absurd (omega (arith, in_turn x y i (and_from _ _ h (eq-eqb x.processor 0 a)) l)))
            (λ l. absurd (omega (arith, in_turn y x j (and_from _ _ k (eq-eqb y.processor 0 b)) l))))
            (cases_order x.tag y.tag)
