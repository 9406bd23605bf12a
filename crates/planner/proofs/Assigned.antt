-- Processors that are given among the same tokens, and rows of the same tokens.
use Rattle.std.proofs.Common.{◌≡◌, ℕ, ◌+◌, ◌-◌, ◌<◌, ◌≤◌, Bool, not, ◌&&◌, eqb, ltb, ◌⊎◌, List, map, get_or, count_by, filter, sym, ap, ◌∙◌, inl, inr, arith}
use Rattle.std.specs.List.{range_with_len}
use Rattle.std.proofs.lemmas.List.{ext_get_or}
use Rattle.rows.specs.declared.memory.Token.{Token}
use Rattle.rows.specs.Tests.{has}
use Rattle.model.specs.Steps.{free, runner, row_of}
use Rattle.model.specs.Members.{In}
use Rattle.model.proofs.Tags.{kept_same}
use Rattle.model.proofs.Runners.{from, row_at}
use Rattle.model.proofs.Stepping.{Unshared}
use Rattle.planner.proofs.Seats.{row_length, row_place}
use Rattle.planner.proofs.Tallies.{count_kept, has_count}

-- chosen tokens with the same processors leave the same ones free
pub free_same : (m : ℕ) (picks picks' : Token → Bool) (ts us : List Token)
    → ((p : ℕ) → count_by (λ x. picks x && eqb p x.processor) ts ≡ count_by (λ x. picks' x && eqb p x.processor) us)
    → free m picks ts ≡ free m picks' us
free_same m picks picks' ts us same =
    kept_same (λ p. not (has p (map (λ x. x.processor) (filter picks ts)))) (λ p. not (has p (map (λ x. x.processor) (filter picks' us)))) (range_with_len 1 m)
    (λ p i. ap not (
    has_count p (λ x. x.processor) (filter picks ts)
    ∙ ap (ltb 0) (
    count_kept (λ x. eqb p x.processor) picks ts
    ∙ same p
    ∙ sym (count_kept (λ x. eqb p x.processor) picks' us))
    ∙ sym (has_count p (λ x. x.processor) (filter picks' us))))

-- no two tokens of one tag are on two processors
abbrev pub One : List Token → Type 0
One us = (u v : Token) → In u us → In v us → u.tag ≡ v.tag → u.processor ≡ v.processor

-- the row is that of the tokens with a processor
pub row_like : (us vs : List Token) → ((u : Token) → In u us → In u vs) → ((v : Token) → In v vs → 1 ≤ v.processor → In v us)
    → Unshared vs → One vs → row_of us ≡ row_of vs
row_like us vs part all own one = ext_get_or 0 (row_of us) (row_of vs) (row_length us ∙ sym (row_length vs))
    (λ k h. let low : k < 16 = omega (arith, row_length us) in row_place us k 0 low ∙ go k low (from us own' us (1 + k)) ∙ sym (row_place vs k 0 low))
  where
    own' : Unshared us
    own' u v i j = own u v (part u i) (part v j)

    one' : One us
    one' u v i j = one u v (part u i) (part v j)

    at_place : (ws : List Token) → Unshared ws → One ws → (k : ℕ) → k < 16 → (u : Token) → In u ws → u.processor ≡ 1 + k → runner ws (1 + k) ≡ u.tag
    at_place ws own one k low u i e =
        let p : u.processor - 1 ≡ k = omega arith in
        sym (row_place ws k 0 low) ∙ ap (λ n. get_or (row_of ws) n 0) (sym p) ∙ row_at ws own one u i (omega arith) (omega arith)

    other : (k : ℕ) → k < 16 → runner us (1 + k) ≡ 0 → (runner vs (1 + k) ≡ 0) ⊎ ((v : Token) × In v vs × (v.processor ≡ 1 + k) × (runner vs (1 + k) ≡ v.tag)) → runner us (1 + k) ≡ runner vs (1 + k)
    other k low z (inl y) = z ∙ sym y
    other k low z (inr s) = at_place us own' one' k low s.0 (all s.0 s.1 (omega (arith, s.2))) s.2 ∙ sym s.3

    go : (k : ℕ) → k < 16 → (runner us (1 + k) ≡ 0) ⊎ ((u : Token) × In u us × (u.processor ≡ 1 + k) × (runner us (1 + k) ≡ u.tag)) → runner us (1 + k) ≡ runner vs (1 + k)
    go k low (inl z) = other k low z (from vs own vs (1 + k))
    go k low (inr s) = s.3 ∙ sym (at_place vs own one k low s.0 (part s.0 s.1) s.2)
