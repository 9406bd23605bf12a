-- A look over the tokens of a plane: which processors are kept, the least time left of the chosen ones and the most of the others.
use Rattle.std.proofs.Common.{◌≡◌, ℕ, ◌+◌, ◌<◌, ◌≤◌, min, max, Bool, true, false, cond, List, [], ◌∷◌, ◌++◌, map, length, get_or, take, drop, set, replicate, filter, sym, refl, ap, ◌∙◌, subst, arith}
use mathlib.Core.Path.{transport}
use Rattle.std.proofs.lemmas.List.Elements.{filter_more}
use Rattle.std.proofs.lemmas.List.{at_drop_more, append-nil, map-append, length-set}
use Rattle.rows.specs.declared.memory.Token.{Token}
use Rattle.planner.specs.Lining.{no_token}
use Rattle.planner.specs.Looking.{least_left, most_left}
use Rattle.planner.proofs.Marks.{Marks, marks_none, marks_push}

abbrev pub processors : List Token → List ℕ
processors = map (λ x. x.processor)

module _ (picks : Token → Bool) where
  pub least_at_most : (span : ℕ) (ts : List Token) → least_left picks span ts ≤ span
  least_at_most span [] = omega arith
  least_at_most span (x ∷ xs) = by (picks x) (least_at_most span xs)
    where
      by : (b : Bool) → least_left picks span xs ≤ span → cond b (min x.left (least_left picks span xs)) (least_left picks span xs) ≤ span
      by true h = omega arith
      by false h = h

module _ (picks : Token → Bool) (span : ℕ) (rows : List Token) where
  -- what is known after the first i rows
  pub record Seen (i : ℕ) (taken : List Bool) (least most : ℕ) : Type 0 where
    pub size : length taken ≡ 17
    pub marks : Marks taken (processors (filter picks (take i rows)))
    pub bound : least ≤ span
    pub low : min least (least_left picks span (drop i rows)) ≡ least_left picks span rows
    pub high : max most (most_left picks (drop i rows)) ≡ most_left picks rows

module _ {picks : Token → Bool} {span : ℕ} {rows : List Token} where
  pub seen_is : {i : ℕ} {taken taken' : List Bool} {least least' most most' : ℕ} → taken' ≡ taken → least' ≡ least → most' ≡ most
      → Seen picks span rows i taken least most → Seen picks span rows i taken' least' most'
  seen_is {i} a b c h = transport (λ j. Seen picks span rows i (sym a j) (sym b j) (sym c j)) h

  pub seen_none : Seen picks span rows 0 (replicate 17 false) span 0
  seen_none = record {
    size = refl;
    marks = marks_none 17;
    bound = omega arith;
    low = omega (arith, least_at_most picks span rows);
    high = omega arith;
  }

  module _ {i : ℕ} {taken : List Bool} {least most : ℕ} (was : Seen picks span rows i taken least most) (inside : i < length rows) where
    abbrev x : Token
    x = get_or rows i no_token

    next_least : least_left picks span (drop i rows) ≡ cond (picks x) (min x.left (least_left picks span (drop (i + 1) rows))) (least_left picks span (drop (i + 1) rows))
    next_least = at_drop_more (least_left picks span) rows i no_token inside

    next_most : most_left picks (drop i rows) ≡ cond (picks x) (most_left picks (drop (i + 1) rows)) (max x.left (most_left picks (drop (i + 1) rows)))
    next_most = at_drop_more (most_left picks) rows i no_token inside

    next_kept : processors (filter picks (take (i + 1) rows)) ≡ processors (filter picks (take i rows)) ++ processors (cond (picks x) (x ∷ []) [])
    next_kept = ap processors (filter_more picks rows i no_token inside) ∙ map-append (λ (t : Token). t.processor) (filter picks (take i rows)) (cond (picks x) (x ∷ []) [])

    pub seen_chosen : picks x ≡ true → x.processor < 17 → Seen picks span rows (i + 1) (set taken x.processor true) (min least x.left) most
    seen_chosen yes-chosen on = record {
      size = length-set taken x.processor true ∙ was.size;
      marks = subst (Marks (set taken x.processor true))
          (sym (next_kept ∙ ap (λ b. processors (filter picks (take i rows)) ++ processors (cond b (x ∷ []) [])) yes-chosen))
          (marks_push taken (processors (filter picks (take i rows))) x.processor (omega (arith, was.size)) was.marks);
      bound = omega (arith, was.bound);
      low = omega (arith, was.low, next_least ∙ ap (λ b. cond b (min x.left (least_left picks span (drop (i + 1) rows))) (least_left picks span (drop (i + 1) rows))) yes-chosen);
      high = omega (arith, was.high, next_most ∙ ap (λ b. cond b (most_left picks (drop (i + 1) rows)) (max x.left (most_left picks (drop (i + 1) rows)))) yes-chosen);
    }

    pub seen_other : picks x ≡ false → Seen picks span rows (i + 1) taken least (max most x.left)
    seen_other not-Chosen = record {
      size = was.size;
      marks = subst (Marks taken)
          (sym (next_kept ∙ ap (λ b. processors (filter picks (take i rows)) ++ processors (cond b (x ∷ []) [])) not-Chosen ∙ append-nil (processors (filter picks (take i rows)))))
          was.marks;
      bound = was.bound;
      low = omega (arith, was.low, next_least ∙ ap (λ b. cond b (min x.left (least_left picks span (drop (i + 1) rows))) (least_left picks span (drop (i + 1) rows))) not-Chosen);
      high = omega (arith, was.high, next_most ∙ ap (λ b. cond b (most_left picks (drop (i + 1) rows)) (max x.left (most_left picks (drop (i + 1) rows)))) not-Chosen);
    }
