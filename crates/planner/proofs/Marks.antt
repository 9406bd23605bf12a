-- A list of marks tells which numbers stand in a list, so that a number that stands twice is seen.
use Rattle.std.proofs.Common.{◌≡◌, ℕ, ◌<◌, Bool, true, false, not, ◌&&◌, ◌||◌, eqb, List, [], ◌∷◌, ◌++◌, length, get_or, set, replicate, sym, refl, ap, ◌∙◌, ⊎_elim, true≢false, arith, eq-eqb, ne_eqb}
use Rattle.std.proofs.Math.Bool.{or_comm}
use Rattle.std.proofs.Permutation.{which}
use Rattle.std.proofs.lemmas.List.{get_or-set_same, get_or-set_other, get_or-replicate, length-replicate, length-set}
use Rattle.std.proofs.lemmas.Bool.{or_left}
use Rattle.std.proofs.lemmas.Bool.Decides.{nat_tests}
use Rattle.rows.specs.Tests.{has, distinct}

-- the mark at p says whether p stands in xs
abbrev pub Marks : List Bool → List ℕ → Type 0
Marks marks xs = (p : ℕ) → p < length marks → get_or marks p false ≡ has p xs

pub has_append : (p : ℕ) (xs ys : List ℕ) → has p (xs ++ ys) ≡ (has p xs || has p ys)
has_append p [] ys = refl
has_append p (x ∷ xs) ys = let more = has_append p xs ys in grind (arith, nat_tests)

pub has_push : (p q : ℕ) (xs : List ℕ) → has p (xs ++ q ∷ []) ≡ (has p xs || eqb p q)
has_push p q xs = let more = has_append p xs (q ∷ []) in grind (arith, nat_tests)

pub distinct_push : (q : ℕ) (xs : List ℕ) → distinct (xs ++ q ∷ []) ≡ (distinct xs && (eqb q 0 || not (has q xs)))
distinct_push q [] = grind (arith, nat_tests)
distinct_push q (x ∷ xs) =
    let more = distinct_push q xs in
    let there = has_push x q xs in
    grind (arith, nat_tests)

-- a number stands twice, whatever follows
pub distinct_not : (xs ys : List ℕ) → distinct xs ≡ false → distinct (xs ++ ys) ≡ false
distinct_not [] ys h = absurd (true≢false h)
distinct_not (x ∷ xs) ys h = by (distinct xs) refl (distinct_not xs ys)
  where
    by : (b : Bool) → distinct xs ≡ b → (distinct xs ≡ false → distinct (xs ++ ys) ≡ false) → distinct (x ∷ (xs ++ ys)) ≡ false
    by true e more = let there = has_append x xs ys in grind (arith, nat_tests)
    by false e more = let rest = more e in grind (arith, nat_tests)

pub marks_none : (n : ℕ) → Marks (replicate n false) []
marks_none n p h = get_or-replicate n p false false (omega (arith, length-replicate n false))

pub marks_more : (taken : List Bool) (xs : List ℕ) (q : ℕ) → q < length taken → (p : ℕ) → get_or taken p false ≡ has p xs → get_or (set taken q true) p false ≡ has p (q ∷ xs)
marks_more taken xs q within p is =
    ⊎_elim
    (λ (e : p ≡ q). ap (λ i. get_or (set taken q true) i false) e ∙ get_or-set_same taken q true false within ∙ sym (or_left _ _ (eq-eqb p q e)))
    (λ (e : p ≡ q → ⊥). get_or-set_other taken q p true false e ∙ is ∙ ap (λ b. b || has p xs) (sym (ne_eqb p q e)))
    (which p q)

pub marks_push : (marks : List Bool) (xs : List ℕ) (q : ℕ) → q < length marks → Marks marks xs → Marks (set marks q true) (xs ++ q ∷ [])
marks_push marks xs q within is p h = marks_more marks xs q within p (is p (omega (arith, length-set marks q true))) ∙ or_comm (eqb p q) (has p xs) ∙ sym (has_push p q xs)
