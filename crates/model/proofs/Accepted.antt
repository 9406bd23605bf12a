-- What an accepted call tells: the tests that it passed, and what it left.
use Rattle.std.proofs.Common.{◌≡◌, ℕ, ◌+◌, ◌-◌, ◌*◌, ◌%◌, ◌<◌, ◌≤◌, Bool, true, false, not, ◌&&◌, eqb, ltb, leb, List, ◌∷◌, ◌++◌, map, length, take, drop, Some, None, Ok, Err, Option, Result, refl, arith}
use Rattle.std.proofs.lemmas.Bool.{ltb-true, leb-true, eqb-true, not-true}
use Rattle.std.proofs.lemmas.Bool.Decides.{nat_tests}
use Rattle.rows.specs.declared.refusal.Refusal.{Refusal}
use Rattle.rows.specs.declared.refusal.Refusal.TheVariants.{TagAbsent, NotReleased}
use Rattle.rows.specs.declared.memory.Task.{Task}
use Rattle.rows.specs.declared.memory.Token.{Token}
use Rattle.rows.specs.Limits.{most_processors, largest_scale, most_tasks, last_tick}
use Rattle.rows.specs.Tests.{has}
use Rattle.rules.specs.Keys.{Key}
use Rattle.model.specs.State.{Rest, Open, opened, ended, at_tick, unless}
use Rattle.model.specs.Tables.{weight, tags, tasks_fit, admitted, withdrawn, started, found, without, zeros, placed, fresh, released, with_load, token, earliest}
use Rattle.model.specs.Steps
use Rattle.model.specs.Planes.{tokens_fit, with_span, AfterStep, stepped, steps, AfterFinish, finished}
use Rattle.plan_file.specs.Records.{record_size, records_bytes}

never : {A E : Type 0} (a : A) (e : E) → ◌≡◌ {A = Result A E} (Err e) (Ok a) → ⊥
never a e h = cc

value : {A E : Type 0} (a b : A) → ◌≡◌ {A = Result A E} (Ok a) (Ok b) → a ≡ b
value a b h = cc

passed : {A : Type 0} (t : Bool) (e : Refusal) (r : Result A Refusal) (a : A) → unless t e r ≡ Ok a → (t ≡ true) × (r ≡ Ok a)
passed true e r a h = (refl, h)
passed false e r a h = absurd (never a e h)

pub record Opened (m q : ℕ) (b : Rest) : Type 0 where
  pub some : 1 ≤ m
  pub few : m ≤ most_processors
  pub scaled : 0 < q
  pub fine : q ≤ largest_scale
  pub is : record { processors = m; scale = q; tick = 0; count = 0; load = 0 } ≡ b

pub opened_ok : (m q : ℕ) (b : Rest) → opened m q ≡ Ok b → Opened m q b
opened_ok m q b e =
    let e₁ = passed (leb 1 m && leb m most_processors) _ _ _ e in
    let e₂ = passed (leb 1 q && leb q largest_scale) _ _ _ e₁.1 in
    record {
      some = grind (arith, nat_tests, e₁.0);
      few = grind (arith, nat_tests, e₁.0);
      scaled = grind (arith, nat_tests, e₂.0);
      fine = grind (arith, nat_tests, e₂.0);
      is = value _ _ e₂.1;
    }

pub record Admitted (b : Rest) (ts : List Task) (tag c p : ℕ) (a : Rest × List Task) : Type 0 where
  pub tagged : 0 < tag
  pub some : 0 < c
  pub within : c ≤ p
  pub divides : b.scale % p ≡ 0
  pub new : has tag (tags (take b.count ts)) ≡ false
  pub room : b.count < length ts
  pub bound : b.load + weight b.scale (fresh b tag c p) ≤ b.processors * b.scale
  pub is : ◌≡◌ {A = Rest × List Task} (
    with_load b (b.count + 1) (b.load + weight b.scale (fresh b tag c p)),
    placed (fresh b tag c p) (take b.count ts) ++ drop (b.count + 1) ts,
  )
      a

pub admitted_ok : (b : Rest) (ts : List Task) (tag c p : ℕ) (a : Rest × List Task) → admitted b ts tag c p ≡ Ok a → Admitted b ts tag c p a
admitted_ok b ts tag c p a e =
    let n = b.count in
    let w = weight b.scale (fresh b tag c p) in
    let e₁ = passed (tasks_fit b ts) _ _ _ e in
    let e₂ = passed (ltb 0 tag) _ _ _ e₁.1 in
    let e₃ = passed (ltb 0 c && leb c p) _ _ _ e₂.1 in
    let e₄ = passed (eqb (b.scale % p) 0) _ _ _ e₃.1 in
    let e₅ = passed (not (has tag (tags (take n ts)))) _ _ _ e₄.1 in
    let e₆ = passed (ltb n most_tasks && ltb n (length ts)) _ _ _ e₅.1 in
    let e₇ = passed (leb (b.load + w) (b.processors * b.scale)) _ _ _ e₆.1 in
    record {
      tagged = ltb-true 0 tag e₂.0;
      some = grind (arith, nat_tests, e₃.0);
      within = grind (arith, nat_tests, e₃.0);
      divides = eqb-true (b.scale % p) 0 e₄.0;
      new = not-true _ e₅.0;
      room = grind (arith, nat_tests, e₆.0);
      bound = leb-true (b.load + w) (b.processors * b.scale) e₇.0;
      is = value _ _ e₇.1;
    }

pub record Withdrawn (b : Rest) (ts : List Task) (tag : ℕ) (a : Rest × List Task) : Type 0 where
  pub row : Task
  pub there : found tag (take b.count ts) ≡ Some row
  pub is : ◌≡◌ {A = Rest × List Task}
      (with_load b (b.count - 1) (b.load - weight b.scale row), without tag (take b.count ts) ++ zeros ∷ drop b.count ts)
      a

pub withdrawn_ok : (b : Rest) (ts : List Task) (tag : ℕ) (a : Rest × List Task) → withdrawn b ts tag ≡ Ok a → Withdrawn b ts tag a
withdrawn_ok b ts tag a e = go (found tag (take b.count ts)) refl (passed (tasks_fit b ts) _ _ _ e).1
  where
    go : (u : Option Task) → found tag (take b.count ts) ≡ u
        → ◌≡◌ {A = Result (Rest × List Task) Refusal}
        (elim u [
          | None ↦ Err TagAbsent
          | Some t ↦ unless (released b.tick t) NotReleased
              (Ok (with_load b (b.count - 1) (b.load - weight b.scale t), without tag (take b.count ts) ++ zeros ∷ drop b.count ts))
        ])
        (Ok a)
        → Withdrawn b ts tag a
    go None f e = absurd (never a TagAbsent e)
    go (Some t) f e = record { row = t; there = f; is = value _ _ (passed (released b.tick t) _ _ _ e).1 }

pub record Started (b : Rest) (ts : List Task) (ks : List Token) (a : Open × List Token) : Type 0 where
  pub some : 0 < b.count
  pub is : ◌≡◌ {A = Open × List Token} (
    record { board = b; end = earliest b.tick (take b.count ts); span = (earliest b.tick (take b.count ts) - b.tick) * b.scale },
    map (token b.scale (earliest b.tick (take b.count ts) - b.tick)) (take b.count ts) ++ drop b.count ks,
  )
      a

pub started_ok : (b : Rest) (ts : List Task) (ks : List Token) (a : Open × List Token) → started b ts ks ≡ Ok a → Started b ts ks a
started_ok b ts ks a e =
    let e₁ = passed (tasks_fit b ts && leb b.count (length ks)) _ _ _ e in
    let e₂ = passed (ltb 0 b.count) _ _ _ e₁.1 in
    let e₃ = passed (leb (earliest b.tick (take b.count ts)) last_tick) _ _ _ e₂.1 in
    record {
      some = ltb-true 0 b.count e₂.0;
      is = value _ _ e₃.1;
    }

-- what a step leaves and answers
abbrev pub step_of : Open → List Token → Key → AfterStep
step_of p ks key =
    let n = p.board.count in
    let s = Steps.step p.board.processors key p.span (take n ks) in
    ((with_span p s.span, s.tokens ++ drop n ks, s.segment.row), (s.segment.units, s.segment.kind))

pub record Stepped (p : Open) (ks : List Token) (key : Key) (a : AfterStep) : Type 0 where
  pub going : 0 < p.span
  pub fits : tokens_fit p ks ≡ true
  pub is : step_of p ks key ≡ a

pub stepped_ok : (p : Open) (ks : List Token) (key : Key) (a : AfterStep) → stepped p ks key ≡ Ok a → Stepped p ks key a
stepped_ok p ks key a e =
    let e₁ = passed (ltb 0 p.span) _ _ _ e in
    let e₂ = passed (tokens_fit p ks) _ _ _ e₁.1 in
    record { going = ltb-true 0 p.span e₁.0; fits = e₂.0; is = value _ _ e₂.1 }

-- what a finish leaves and answers
abbrev pub finish_of : Open → List Token → Key → List ℕ → AfterFinish
finish_of p ks key buffer =
    let n = p.board.count in
    let m = p.board.processors in
    let done = steps (n + 1) m key p.span (take n ks) in (
      (with_span p done.1, done.2 ++ drop n ks, records_bytes m done.0 ++ drop (length (records_bytes m done.0)) buffer),
      (length done.0, length (records_bytes m done.0)),
    )

pub record Finished (p : Open) (ks : List Token) (key : Key) (buffer : List ℕ) (a : AfterFinish) : Type 0 where
  pub going : 0 < p.span
  pub fits : tokens_fit p ks ≡ true
  pub is : finish_of p ks key buffer ≡ a

pub finished_ok : (p : Open) (ks : List Token) (key : Key) (buffer : List ℕ) (a : AfterFinish) → finished p ks key buffer ≡ Ok a → Finished p ks key buffer a
finished_ok p ks key buffer a e =
    let e₁ = passed (ltb 0 p.span) _ _ _ e in
    let e₂ = passed (tokens_fit p ks) _ _ _ e₁.1 in
    let e₃ = passed (leb ((p.board.count + 1) * record_size p.board.processors) (length buffer)) _ _ _ e₂.1 in
    record { going = ltb-true 0 p.span e₁.0; fits = e₂.0; is = value _ _ e₃.1 }

pub record Ended (p : Open) (b : Rest) : Type 0 where
  pub over : p.span ≡ 0
  pub is : at_tick p.board p.end ≡ b

pub ended_ok : (p : Open) (b : Rest) → ended p ≡ Ok b → Ended p b
ended_ok p b e =
    let e₁ = passed (eqb p.span 0) _ _ _ e in
    record { over = eqb-true p.span 0 e₁.0; is = value _ _ e₁.1 }
