-- A step's row has exactly the chosen tokens, each once.
use Rattle.std.proofs.Common.{◌≡◌, ℕ, zero, suc, ◌+◌, ◌-◌, ◌<◌, ◌≤◌, true, not, ◌||◌, eqb, ◌⊎◌, List, [], ◌∷◌, map, get_or, sym, subst, refl, ◌∙◌, inl, inr, ⊎_elim, arith}
use Rattle.std.specs.List.{range_with_len}
use Rattle.std.proofs.lemmas.List.FromFn.{get_or-map-range_with_len}
use Rattle.std.proofs.lemmas.Bool.{and_from, or_cases, or_left, or_right, eqb-true, eq-eqb, cases_eq, cases_Bool, cond-true, cond-false, cond_both, not_from_false}
use Rattle.rows.specs.declared.memory.Token.{Token}
use Rattle.rows.specs.Tests.{has, distinct}
use Rattle.model.specs.Steps.{runner, row_of}
use Rattle.model.specs.Members.{In, here, there}
use Rattle.model.proofs.Counts.{in_all, in_first}
use Rattle.model.proofs.Processors.{within, map_has}

pub has_map : {X : Type 0} (f : X → ℕ) (t : ℕ) (xs : List X) → has t (map f xs) ≡ true → (x : X) × In x xs × (t ≡ f x)
has_map f t [] h = cc
has_map f t (x ∷ xs) h =
    ⊎_elim (λ e. (x, here, eqb-true t (f x) e)) (λ k. let s = has_map f t xs k in (s.0, there s.1, s.2)) (or_cases (eqb t (f x)) (has t (map f xs)) h)

-- whom no other shares a number with, but 0
pub apart_from : {X : Type 0} (f : X → ℕ) (x : X) (xs : List X) → ((y : X) → In y xs → f x ≡ f y → f x ≡ 0) → (eqb (f x) 0 || not (has (f x) (map f xs))) ≡ true
apart_from f x xs h = ⊎_elim
    (λ t. let s = has_map f (f x) xs t in or_left _ _ (eq-eqb (f x) 0 (h s.0 s.1 s.2)))
    (λ n. or_right (eqb (f x) 0) _ (not_from_false _ n))
    (cases_Bool (has (f x) (map f xs)))

pub counted : (p a n : ℕ) → a ≤ p → p < a + n → In p (range_with_len a n)
counted p a zero l h = absurd (omega arith)
counted p a (suc n) l h =
    ⊎_elim (in_first p a (range_with_len (a + 1) n)) (λ e. there (counted p (a + 1) n (omega arith) (omega arith))) (cases_eq p a)

pub above : (p a n : ℕ) → In p (range_with_len a n) → a ≤ p
above p a n i = (in_all (λ q. (a ≤ q) × (q < a + n)) (within a n) i).0

-- tokens of which no two share a processor
module _ (us : List Token) (own : (u v : Token) → In u us → In v us → u.processor ≡ v.processor → (u.processor ≡ 0 → ⊥) → u.tag ≡ v.tag) where
  pub from : (vs : List Token) (p : ℕ) → (runner vs p ≡ 0) ⊎ ((u : Token) × In u vs × (u.processor ≡ p) × (runner vs p ≡ u.tag))
  from [] p = inl refl
  from (x ∷ xs) p = ⊎_elim
      (λ e. inr (x, here, eqb-true x.processor p e, cond-true _ _ _ e))
      (λ e. ⊎_elim (λ z. inl (cond-false _ _ _ e ∙ z)) (λ s. inr (s.0, there s.1, s.2, cond-false _ _ _ e ∙ s.3)) (from xs p))
      (cases_Bool (eqb x.processor p))

  runs : (u : Token) (vs : List Token) → ((v : Token) → In v vs → In v us) → In u vs → (u.processor ≡ 0 → ⊥) → runner vs u.processor ≡ u.tag
  runs u [] sub i z = elim i [ ]
  runs u (x ∷ xs) sub here z = cond-true _ _ _ (eq-eqb u.processor u.processor refl)
  runs u (x ∷ xs) sub (there i) z =
      cond_both (eqb x.processor u.processor) x.tag (runner xs u.processor) (λ t. t ≡ u.tag)
      (λ e. let f = eqb-true x.processor u.processor e in own x u (sub x here) (sub u (there i)) f (λ y. z (sym f ∙ y)))
      (λ e. runs u xs (λ v j. sub v (there j)) i z)

  -- and no two of one tag are on two
  module _ (one : (u v : Token) → In u us → In v us → u.tag ≡ v.tag → u.processor ≡ v.processor) where
    apart : (a n : ℕ) → 1 ≤ a → distinct (map (runner us) (range_with_len a n)) ≡ true
    apart a zero l = refl
    apart a (suc n) l =
        and_from _ _ (apart_from (runner us) a (range_with_len (a + 1) n) other) (apart (a + 1) n (omega arith))
      where
        other : (b : ℕ) → In b (range_with_len (a + 1) n) → runner us a ≡ runner us b → runner us a ≡ 0
        other b i e =
            let up = in_all (λ p. (a + 1 ≤ p) × (p < a + 1 + n)) (within (a + 1) n) i in
            ⊎_elim (λ z. z) (λ u. ⊎_elim (λ z. e ∙ z) (λ v.
            absurd (omega (arith, one u.0 v.0 u.1 v.1 (sym u.3 ∙ e ∙ v.3), u.2, v.2, up))) (from us b)) (from us a)

    pub row_apart : distinct (row_of us) ≡ true
    row_apart = apart 1 16 (omega arith)

    pub row_has : (u : Token) → In u us → 1 ≤ u.processor → u.processor ≤ 16 → has u.tag (row_of us) ≡ true
    row_has u i l h =
        subst (λ t. has t (row_of us) ≡ true) (runs u us (λ v j. j) i (λ z. omega arith))
        (map_has (runner us) (range_with_len 1 16) (counted u.processor 1 16 l (omega arith)))

    -- where the row has it
    pub row_at : (u : Token) → In u us → 1 ≤ u.processor → u.processor ≤ 16 → get_or (row_of us) (u.processor - 1) 0 ≡ u.tag
    row_at u i l h =
        get_or-map-range_with_len (runner us) 1 16 (u.processor - 1) u.processor 0 (omega arith) (omega arith)
        ∙ runs u us (λ v j. j) i (λ z. omega arith)

    pub row_only : (u : Token) → In u us → 1 ≤ u.tag → has u.tag (row_of us) ≡ true → 1 ≤ u.processor
    row_only u i l h =
        let s = has_map (runner us) u.tag (range_with_len 1 16) h in
        let up = in_all (λ p. (1 ≤ p) × (p < 17)) (within 1 16) s.1 in
        ⊎_elim (λ z. absurd (omega (arith, s.2)))
        (λ v. let e = one u v.0 i v.1 (s.2 ∙ v.3) in let g = v.2 in omega arith)
        (from us s.0)
