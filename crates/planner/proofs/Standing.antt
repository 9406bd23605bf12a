-- Rows, a line and a row of places that stand for the tokens of a plane.
use Rattle.std.proofs.Common.{◌≡◌, ℕ, ◌<◌, ◌≤◌, Bool, true, false, not, ◌&&◌, eqb, ltb, List, length, count_by, sym, refl, ap, ◌∙◌, arith}
use Rattle.std.specs.List.{range_with_len}
use Rattle.std.proofs.lemmas.Bool.{and_parts, not-false, not_from_true, lt-ltb, ltb-true}
use Rattle.rows.specs.declared.memory.Token.{Token}
use Rattle.model.specs.Steps.{active}
use Rattle.model.specs.Members.{In}
use Rattle.model.proofs.Counts.{all_in, count_le, count_none}
use Rattle.planner.specs.Lining.{Kept, Lined, Lines, Places, no_token, at, those, seated}
use Rattle.planner.proofs.Tallies.{count_map, count_at, count_no, in_counting, counting_once}

-- the active ones in a line of tokens
pub record StandsFor (ts line : List Token) (places : List ℕ) : Type 0 where
  pub all : (p : Token → Bool) → count_by (λ x. active x && p x) ts ≡ count_by (λ x. p (seated places x)) line
  pub order : Lined line

-- what is kept stands for the tokens
pub stands : (ts rows : List Token) (line places : List ℕ) → Kept ts rows line places → StandsFor ts (those rows line) places
stands ts rows line places is = record { all = each; order = is.lines.order }
  where
    each : (p : Token → Bool) → count_by (λ x. active x && p x) ts ≡ count_by (λ x. p (seated places x)) (those rows line)
    each p =
        let q : ℕ → Bool = λ i. p (seated places (at rows i)) in
        ap (count_by (λ x. active x && p x)) is.same
        ∙ count_map (λ x. active x && p x) (seated places) rows
        ∙ count_at (λ x. active x && p (seated places x)) no_token rows
        ∙ sym (is.lines.all q)
        ∙ sym (count_map (λ x. p (seated places x)) (at rows) line)

-- a test that each active row passes is passed by each place in line
in_line : (rows : List Token) (line : List ℕ) → Lines rows line → (q : ℕ → Bool) → ((i : ℕ) → i < length rows → active (at rows i) ≡ true → q i ≡ true)
    → (i : ℕ) → In i line → q i ≡ true
in_line rows line is q h i k = not-false (q i) (count_no (λ j. not (q j)) line none k)
  where
    fails : (j : ℕ) → j < length rows → (b : Bool) → active (at rows j) ≡ b → (b && not (q j)) ≡ false
    fails j l true e = not_from_true (q j) (h j l e)
    fails j l false e = refl

    none : count_by (λ j. not (q j)) line ≡ 0
    none = is.all (λ j. not (q j)) ∙ count_none (λ j. active (at rows j) && not (q j)) (range_with_len 0 (length rows)) (λ j m. fails j (omega (arith, in_counting j 0 (length rows) m)) (active (at rows j)) refl)

-- those in line are active
pub line_active : (rows : List Token) (line : List ℕ) → Lines rows line → (i : ℕ) → In i line → active (at rows i) ≡ true
line_active rows line is = in_line rows line is (λ i. active (at rows i)) (λ i l e. e)

-- a line has places of rows, none of them twice
pub places_of : (rows : List Token) (line : List ℕ) → Lines rows line → Places rows line
places_of rows line is = record { inside = all_in (λ i. i < length rows) line within; apart = once }
  where
    within : (i : ℕ) → In i line → i < length rows
    within i k = ltb-true i (length rows) (in_line rows line is (λ j. ltb j (length rows)) (λ j l e. lt-ltb j (length rows) l) i k)

    once : (i : ℕ) → count_by (λ j. eqb j i) line ≤ 1
    once i = omega (
      arith,
      is.all (λ j. eqb j i),
      count_le (λ j. active (at rows j) && eqb j i) (λ j. eqb j i) (range_with_len 0 (length rows)) (λ j k h. (and_parts (active (at rows j)) (eqb j i) h).1),
      counting_once i 0 (length rows),
    )
