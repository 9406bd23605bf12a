-- Token memory that fits, as a step and a finish need it.
use Rattle.std.proofs.Common.{◌≡◌, ℕ, ◌+◌, ◌*◌, ◌^◌, ◌<◌, ◌≤◌, true, List, [], ◌∷◌, ◌++◌, length, take, drop, Ok, Result, sym, refl, ◌∙◌, subst, arith, lt-ltb, le-leb}
use Rattle.std.specs.List.{AllByRecursion}
use Rattle.std.proofs.lemmas.List.{length-take-le}
use Rattle.std.proofs.lemmas.Bool.Decides.{nat_tests}
use Rattle.rows.specs.declared.memory.Token.{Token}
use Rattle.rows.specs.declared.refusal.Refusal.{Refusal}
use Rattle.rules.specs.Keys.{Key}
use Rattle.plan_file.specs.Records.{records_bytes, record_size}
use Rattle.model.specs.Answers.{ChangesAnswering}
use Rattle.model.specs.State.{Open}
use Rattle.rows.specs.Tests.{all}
use Rattle.model.specs.Planes.{sound_token, tokens_fit, with_span, steps, finished}
use Rattle.model.proofs.Bounds.{Sound}
use Rattle.planner.specs.Segments.{written}
use Rattle.model.proofs.Counts.{in_all}
use Rattle.model.proofs.Fits.{fit_sound}

pub sound_rows : (p : Open) (memory : List Token) (k : ℕ) → k ≡ p.board.count → 1 ≤ p.board.processors → p.board.processors ≤ 16
    → AllByRecursion (λ x. x.tag < 2 ^ 16) (take p.board.count memory) → tokens_fit p memory ≡ true → Sound p.board.processors p.span (take k memory)
sound_rows p memory k k-is some few short fits =
    subst (λ n. Sound p.board.processors p.span (take n memory)) (sym k-is)
    (fit_sound p memory some few (λ x i. in_all (λ x. x.tag < 2 ^ 16) short i) fits).1

-- no sound row has a processor that no board has
pub on_board : (p : Open) (rows : List Token) → p.board.processors ≤ 16 → all (sound_token p) rows ≡ true → AllByRecursion (λ x. x.processor ≤ 16) rows
on_board p [] few ok = tt
on_board p (x ∷ xs) few ok =
    let first : x.processor ≤ 16 = grind (arith, nat_tests) in
    let rest : all (sound_token p) xs ≡ true = grind (arith, nat_tests) in
    (first, on_board p xs few rest)

-- a change that was made and answered as it is defined
pub answered_as : {S A B : Type 0} (view : A → B) (before after : S) (r : Result (S × B) Refusal) (s : S) (b : B) (a : A)
    → r ≡ Ok (s, b) → after ≡ s → view a ≡ b → ChangesAnswering view before r (Ok a) after
answered_as view before after r s b a is same told = subst (λ d. ChangesAnswering view before d (Ok a) after) (sym is) (same, told)

pub finish_accepted : (p : Open) (memory : List Token) (key : Key) (buffer : List ℕ) → 0 < p.span → tokens_fit p memory ≡ true
    → (p.board.count + 1) * record_size p.board.processors ≤ length buffer
    → let n = p.board.count in
    let m = p.board.processors in
    let done = steps (n + 1) m key p.span (take n memory) in
    finished p memory key buffer ≡ Ok ((with_span p done.1, done.2 ++ drop n memory, written m done.0 buffer), (length done.0, length (records_bytes m done.0)))
finish_accepted p memory key buffer some fits room =
    rw (lt-ltb 0 p.span some, fits, le-leb ((p.board.count + 1) * record_size p.board.processors) (length buffer) room) refl

-- memory that fits has a row for each task
pub rows_there : (p : Open) (memory : List Token) (k : ℕ) → k ≡ p.board.count → tokens_fit p memory ≡ true → length (take k memory) ≡ p.board.count
rows_there p memory k k-is fits =
    let there : p.board.count ≤ length memory = grind (arith, nat_tests) in
    length-take-le k memory (omega arith) ∙ k-is
