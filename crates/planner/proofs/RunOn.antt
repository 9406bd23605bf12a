-- Rows that run: what letting them run needs.
use Rattle.std.proofs.Common.{◌≡◌, ℕ, ◌+◌, ◌-◌, ◌<◌, ◌≤◌, Bool, false, cond, not, List, map, length, get_or, take, drop, filter, sym, refl, ap, ◌∙◌, subst, inl, inr, arith}
use Rattle.std.specs.List.{range_with_len, AllByRecursion}
use Rattle.std.proofs.ByRecursion.{All-get_or, All-weaker, all_kept_by}
use Rattle.std.proofs.lemmas.List.{get_or_past, take_rest, drop-drop}
use Rattle.std.proofs.lemmas.Bool.{cases_lt}
use Rattle.std.proofs.lemmas.Bool.Decides.{nat_tests}
use Rattle.rows.specs.declared.memory.Token.{Token}
use Rattle.rows.specs.Tests.{has}
use Rattle.model.specs.Steps.{free}
use Rattle.model.specs.Members.{In}
use Rattle.model.proofs.Counts.{all_in, in_all}
use Rattle.model.proofs.Processors.{within}
use Rattle.model.proofs.Stepping.{in_map}
use Rattle.model.proofs.Tags.{kept_all}
use Rattle.planner.specs.Lining.{Changed, Places, at, those, settled, everyone}
use Rattle.planner.proofs.Chooses.{unmarked}
use Rattle.planner.proofs.Members.{in_has}

-- rows that have changed have the same places
pub same_places : (f : Token → Token) (run : List ℕ) (rows after : List Token) → Changed f run rows after → (line : List ℕ) → Places rows line → Places after line
same_places f run rows after told line ok = record { inside = subst (λ n. AllByRecursion (λ i. i < n) line) (sym told.0) ok.inside; apart = ok.apart }

settled_low : (places : List ℕ) (d : ℕ) (x : Token) → (settled places d x).processor ≤ 16
settled_low places d x = grind (arith, nat_tests)

-- those that have run have one of 16 processors or none
pub settled_on : (places : List ℕ) (d : ℕ) (rows mid : List Token) (run : List ℕ) → Places rows run → Changed (settled places d) run rows mid → AllByRecursion (λ x. x.processor ≤ 16) (those mid run)
settled_on places d rows mid run ok told =
    all_in (λ x. x.processor ≤ 16) (those mid run) (in_map (λ x. x.processor ≤ 16) (at mid) run low)
  where
    low : (i : ℕ) → In i run → (at mid i).processor ≤ 16
    low i m =
        subst (λ (x : Token). x.processor ≤ 16) (sym (told.1 i (in_all' i m) ∙ ap (λ b. cond b (settled places d (at rows i)) (at rows i)) (in_has i run m)))
        (settled_low places d (at rows i))
      where
        in_all' : (i : ℕ) → In i run → i < length rows
        in_all' i m = in_all (λ j. j < length rows) ok.inside m

-- a spare processor is one of so many, or 0
pub spare_low : (t : ℕ → Bool) (m : ℕ) (spare : List ℕ) → m ≤ 16 → ((k : ℕ) → get_or spare k 0 ≡ get_or (filter t (range_with_len 1 m)) k 0) → (k : ℕ) → get_or spare k 0 ≤ 16
spare_low t m spare few is k =
    let xs = filter t (range_with_len 1 m) in
    let low : AllByRecursion (λ p. p ≤ 16) xs = all_kept_by t (λ p. p ≤ 16) (range_with_len 1 m) (All-weaker (λ p. (1 ≤ p) × (p < 1 + m)) (λ p. p ≤ 16) (λ p h. omega (arith, h.1)) (range_with_len 1 m) (within 1 m)) in
    elim (cases_lt k (length xs)) [
      | inl l ↦ subst (λ p. p ≤ 16) (sym (is k)) (All-get_or (λ p. p ≤ 16) xs k 0 l low)
      | inr g ↦ omega (arith, is k, get_or_past xs k 0 g)
    ]

-- the processors that none of some tokens has are free where all of them run
pub unmarked_all : (m : ℕ) (us : List Token) (taken : List Bool) → m ≤ 16 → ((p : ℕ) → p < 17 → get_or taken p false ≡ has p (map (λ x. x.processor) us))
    → filter (λ p. not (get_or taken p false)) (range_with_len 1 m) ≡ free m everyone us
unmarked_all m us taken few is =
    let all : filter everyone us ≡ us = kept_all everyone us (λ x i. refl) in
    unmarked m everyone us taken few (λ p h. is p h ∙ ap (λ xs. has p (map (λ (x : Token). x.processor) xs)) (sym all))

-- the line is lent from behind the freed places on
module _ (line ran : List ℕ) (running : ℕ) (within : running ≤ length line) (left : length ran ≤ running) where
  abbrev freed : ℕ
  freed = running - length ran

  abbrev lent : List ℕ
  lent = take (length line - freed) (drop freed line)

  pub lent_rest : drop (length ran) lent ≡ drop running line
  lent_rest =
      ap (drop (length ran)) (take_rest line freed) ∙ drop-drop (length ran) freed line
      ∙ ap (λ k. drop k line) {x = freed + length ran} {y = running} (omega arith)
