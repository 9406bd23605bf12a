-- A row of memory that fits, and its withdrawal.
use Rattle.std.proofs.Common.{◌≡◌, ℕ, zero, suc, ◌+◌, ◌-◌, ◌<◌, ◌≤◌, Bool, true, false, List, [], ◌∷◌, ◌++◌, length, get_or, take, drop, None, Some, Ok, sum_by, Option, Result, ◌==◌, MatchOption, is_some, sym, refl, ap, ◌∙◌, subst, arith}
use Rattle.std.proofs.lemmas.List.{get_or-take, length-take-le}
use Rattle.std.proofs.lemmas.List.Quantifiers.{position-Some}
use Rattle.std.specs.List.{position, position_or_len}
use Rattle.std.proofs.lemmas.List.Sums.{fails_before_first, sum_by-take-drop, sum_by-drop_more}
use Rattle.std.proofs.lemmas.Bool.Decides.{nat_tests}
use Rattle.rows.specs.declared.memory.Task.{Task}
use Rattle.rows.specs.declared.refusal.Refusal.{Refusal}
use Rattle.rows.specs.Tests.{all, has, rising}
use Rattle.model.specs.Answers.{Changes}
use Rattle.model.specs.State.{Rest}
use Rattle.model.specs.Tables.{tags, weight, sound_task, tasks_fit, found, zeros, released, with_load, withdrawn}
use Rattle.planner.specs.Admission.{Stands}
use Rattle.planner.proofs.Weights.{Sound, sound_parts}
use Rattle.planner.proofs.Shifts.{without_at}

pub all_at : {X : Type 0} (test : X → Bool) (xs : List X) (i : ℕ) (d : X) → all test xs ≡ true → i < length xs → test (get_or xs i d) ≡ true
all_at test [] i d h l = absurd (omega arith)
all_at test (x ∷ xs) zero d h l = grind (arith, nat_tests)
all_at test (x ∷ xs) (suc i) d h l = let rest : all test xs ≡ true = grind (arith, nat_tests) in all_at test xs i d rest (omega arith)

-- the first row that has the tag is the one found
first_at : (tag : ℕ) (rows : List Task) (i : ℕ) → i < length rows → ((get_or rows i zeros).tag == tag) ≡ true
    → ((k : ℕ) → k < i → ((get_or rows k zeros).tag == tag) ≡ false) → found tag rows ≡ Some (get_or rows i zeros)
first_at tag [] i h is before = absurd (omega arith)
first_at tag (x ∷ xs) zero h is before = rw is refl
first_at tag (x ∷ xs) (suc i) h is before = rw (before 0 (omega arith)) (first_at tag xs i (omega arith) is (λ k l. before (suc k) (omega arith)))

-- none has it
none_found : (tag : ℕ) (rows : List Task) → ((k : ℕ) → k < length rows → ((get_or rows k zeros).tag == tag) ≡ false) → found tag rows ≡ None
none_found tag [] before = refl
none_found tag (x ∷ xs) before = rw (before 0 (omega arith)) (none_found tag xs (λ k l. before (suc k) (omega arith)))

has_found : (tag : ℕ) (rows : List Task) → has tag (tags rows) ≡ is_some (found tag rows)
has_found tag [] = refl
has_found tag (x ∷ xs) = let more = has_found tag xs in grind (arith, nat_tests)

-- the place of the first that has the tag, if one has
pub found_as : (tag : ℕ) (rows : List Task) (r : Option ℕ) → r ≡ position (λ t. t.tag == tag) rows
    → (is_some r ≡ has tag (tags rows)) × MatchOption r (found tag rows ≡ None) (λ i. (i < length rows) × ((get_or rows i zeros).tag ≡ tag) × (found tag rows ≡ Some (get_or rows i zeros)))
found_as tag rows None is =
    let past : length rows ≤ position_or_len (λ (t : Task). t.tag == tag) rows = grind (arith, nat_tests) in
    let none = none_found tag rows (λ k l. fails_before_first (λ (t : Task). t.tag == tag) rows k zeros (omega arith)) in
    (sym (has_found tag rows ∙ ap is_some none), none)
found_as tag rows (Some i) is =
    let at = position-Some (λ (t : Task). t.tag == tag) rows i zeros (sym is) in
    let first = first_at tag rows i at.0 at.1 at.2 in
    let tagged : (get_or rows i zeros).tag ≡ tag = grind (arith, nat_tests) in
    (sym (has_found tag rows ∙ ap is_some first), (at.0, tagged, first))

-- what memory that fits says
pub record Fits (b : Rest) (memory : List Task) : Type 0 where
  pub there : b.count ≤ length memory
  pub sorted : rising (tags (take b.count memory)) ≡ true
  pub sound : all (sound_task b) (take b.count memory) ≡ true
  pub load : sum_by (weight b.scale) (take b.count memory) ≡ b.load

pub fit_parts : (b : Rest) (memory : List Task) → tasks_fit b memory ≡ true → Fits b memory
fit_parts b memory h =
    record { there = grind (arith, nat_tests); sorted = grind (arith, nat_tests); sound = grind (arith, nat_tests); load = grind (arith, nat_tests) }

module _ (b : Rest) (memory : List Task) (fits : tasks_fit b memory ≡ true) (i : ℕ) (inside : i < b.count) where
  abbrev row : Task
  row = get_or memory i zeros

  rows_long : length (take b.count memory) ≡ b.count
  rows_long = length-take-le b.count memory (fit_parts b memory fits).there

  row_is : get_or (take b.count memory) i zeros ≡ row
  row_is = get_or-take b.count memory i zeros inside

  pub row_sound : Sound b row
  row_sound = subst (Sound b) row_is (sound_parts b _ (all_at (sound_task b) (take b.count memory) i zeros (fit_parts b memory fits).sound (omega (arith, rows_long))))

  pub row_weight : weight b.scale row ≤ b.load
  row_weight =
      let rows = take b.count memory in
      let w = weight b.scale in
      omega (arith, (fit_parts b memory fits).load, sum_by-take-drop w rows i, sum_by-drop_more w rows i zeros (omega (arith, rows_long)), ap w row_is)

  module _ (tag : ℕ) (is : found tag (take b.count memory) ≡ Some row) where
    pub gone : released b.tick row ≡ true → row.tag ≡ tag
        → withdrawn b memory tag
        ≡ Ok (with_load b (b.count - 1) (b.load - weight b.scale row), (take i (take b.count memory) ++ drop (i + 1) (take b.count memory)) ++ zeros ∷ drop b.count memory)
    gone on-time tagged =
        let out = without_at tag (take b.count memory) i (fit_parts b memory fits).sorted (omega (arith, rows_long)) (ap (λ (t : Task). t.tag) row_is ∙ tagged) in
        rw (fits, is, on-time, out) refl

-- the row that was found stands on the board
pub stands : (b : Rest) (memory : List Task) → tasks_fit b memory ≡ true → (tag : ℕ) (r : Option ℕ) → let rows = take b.count memory in
    MatchOption r (found tag rows ≡ None) (λ i. (i < length rows) × ((get_or rows i zeros).tag ≡ tag) × (found tag rows ≡ Some (get_or rows i zeros)))
    → MatchOption r (found tag rows ≡ None) (Stands b memory tag)
stands b memory fits tag None h = h
stands b memory fits tag (Some i) h =
    let there = (fit_parts b memory fits).there in
    let inside : i < b.count = omega (arith, h.0, length-take-le b.count memory there) in
    let same : get_or (take b.count memory) i zeros ≡ get_or memory i zeros = get_or-take b.count memory i zeros inside in
    let ok = row_sound b memory fits i inside in
    record {
      inside = inside;
      there = there;
      first = h.2 ∙ ap Some same;
      tagged = sym (ap (λ (t : Task). t.tag) same) ∙ h.1;
      gone = ok.gone;
      some = omega (arith, ok.some, ok.within);
      divides = ok.divides;
      weighs = row_weight b memory fits i inside;
    }

-- a change that was made as it is defined
pub changed : {S : Type 0} (before after s : S) (r : Result S Refusal) → r ≡ Ok s → after ≡ s → Changes before r (Ok tt) after
changed before after s r e same = subst (λ d. Changes before d (Ok tt) after) (sym e) same
