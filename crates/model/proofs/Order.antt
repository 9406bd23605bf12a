-- The order of tokens is strict and total, and a token on the ceiling is chosen.
use Rattle.std.proofs.Common.{◌≡◌, ℕ, ◌*◌, ◌<◌, ◌≤◌, Bool, true, false, ◌&&◌, eqb, ltb, ◌⊎◌, List, [], ◌∷◌, map, sum_by, count_by, sym, refl, ap, inl, inr, ⊎_elim, arith}
use Rattle.std.proofs.lemmas.List.Sums.{sum_by-cons}
use Rattle.std.proofs.lemmas.Bool.{and_parts, and_from, or_cases, or_left, or_right, ltb-true, lt-ltb, eqb-true, eq-eqb, ne_eqb, cases_order}
use Rattle.std.proofs.lemmas.Bool.Decides.{nat_tests}
use Rattle.rows.specs.declared.memory.Token.{Token}
use Rattle.model.proofs.Tags
use Rattle.model.proofs.Tags.{increasing}
use Rattle.rules.specs.Keys.{Key}
use Rattle.model.specs.Steps.{key_of, before, active}
use Rattle.model.specs.Members.{In, here, there}
use Rattle.model.proofs.Counts.{bit, count_cons, count_none}
use Rattle.model.proofs.Ranks.{Ordered}

abbrev pub same : Token → Token → Bool
same x y = eqb x.tag y.tag

-- past the first tag each tag is above it
pub above : (low : ℕ) (ts : List Token) → increasing low (map (λ t. t.tag) ts) ≡ true → (x : Token) → In x ts → low < x.tag
above = Tags.above (λ t. t.tag)

-- tokens of one tag are one
pub same_token : (low : ℕ) (ts : List Token) → increasing low (map (λ t. t.tag) ts) ≡ true → (x y : Token) → In x ts → In y ts → x.tag ≡ y.tag → x ≡ y
same_token low [] h x y i j e = elim i [ ]
same_token low (t ∷ ts) h x y here here e = refl
same_token low (t ∷ ts) h x y here (there j) e =
    absurd (omega (arith, above x.tag ts (and_parts _ _ h).1 y j))
same_token low (t ∷ ts) h x y (there i) here e =
    absurd (omega (arith, above y.tag ts (and_parts _ _ h).1 x i))
same_token low (t ∷ ts) h x y (there i) (there j) e = same_token t.tag ts (and_parts _ _ h).1 x y i j e

-- a tag stands once
once : (low : ℕ) (ts : List Token) → increasing low (map (λ t. t.tag) ts) ≡ true → (x : Token) → In x ts → count_by (same x) ts ≤ 1
once low [] h x i = elim i [ ]
once low (t ∷ ts) h x here =
    grind (arith, count_cons (same x) t ts, count_none (same x) ts (λ y j. ne_eqb x.tag y.tag (λ q. omega (arith, above t.tag ts (and_parts _ _ h).1 y j))))
once low (t ∷ ts) h x (there i) =
    let up = (and_parts (ltb low t.tag) (increasing t.tag (map (λ t. t.tag) ts)) h).1 in
    grind (arith, nat_tests, count_cons (same x) t ts, above t.tag ts up x i, once t.tag ts up x i)

module _ (key : Key) (span : ℕ) where
  abbrev pub of : Token → ℕ
  of x = key_of key span x

  -- what `before` says
  pub says : (x y : Token) → before key span x y ≡ true → (of x < of y) ⊎ ((of x ≡ of y) × (x.tag < y.tag))
  says x y h =
      ⊎_elim (λ a. inl (ltb-true (of x) (of y) a))
      (λ a. let p = and_parts (eqb (of x) (of y)) (ltb x.tag y.tag) a in inr (eqb-true (of x) (of y) p.0, ltb-true x.tag y.tag p.1))
      (or_cases (ltb (of x) (of y)) (eqb (of x) (of y) && ltb x.tag y.tag) h)

  by_key : (x y : Token) → of x < of y → before key span x y ≡ true
  by_key x y h = or_left _ _ (lt-ltb (of x) (of y) h)

  by_tag : (x y : Token) → of x ≡ of y → x.tag < y.tag → before key span x y ≡ true
  by_tag x y e h = or_right (ltb (of x) (of y)) _ (and_from _ _ (eq-eqb (of x) (of y) e) (lt-ltb x.tag y.tag h))

  pub irrefl : (x : Token) → before key span x x ≡ false
  irrefl x = grind (arith, nat_tests)

  trans : (x y z : Token) → before key span x y ≡ true → before key span y z ≡ true → before key span x z ≡ true
  trans x y z h k = grind (arith, nat_tests)

  pub total : (x y : Token) → ((before key span x y ≡ true) ⊎ (before key span y x ≡ true)) ⊎ (same x y ≡ true)
  total x y = go (cases_order (of x) (of y)) (cases_order x.tag y.tag)
    where
      go : (of x ≡ of y) ⊎ ((of x < of y) ⊎ (of y < of x)) → (x.tag ≡ y.tag) ⊎ ((x.tag < y.tag) ⊎ (y.tag < x.tag)) → ((before key span x y ≡ true) ⊎ (before key span y x ≡ true)) ⊎ (same x y ≡ true)
      go (inr (inl a)) t = inl (inl (by_key x y a))
      go (inr (inr a)) t = inl (inr (by_key y x a))
      go (inl e) (inl t) = inr (eq-eqb x.tag y.tag t)
      go (inl e) (inr (inl t)) = inl (inl (by_tag x y e t))
      go (inl e) (inr (inr t)) = inl (inr (by_tag y x (sym e) t))

  pub ordered : (m : ℕ) (ts : List Token) → increasing 0 (map (λ t. t.tag) ts) ≡ true → Ordered active (before key span) ts m same
  ordered m ts h = record { irrefl = irrefl; trans = trans; total = λ x y i j. total x y; once = once 0 ts h }

  -- tokens on the ceiling: so many spans are in the sum
  abbrev pub top : Token → Bool
  top x = eqb x.left span

  pub tops : (ts : List Token) → count_by top ts * span ≤ sum_by (λ x. x.left) ts
  tops [] = omega arith
  tops (x ∷ xs) =
      let one : bit (top x) * span ≤ x.left = grind (arith, nat_tests) in
      omega (arith, sum_by-cons (λ x. x.left) x xs, ap (λ k. k * span) (count_cons top x xs), one, tops xs)
