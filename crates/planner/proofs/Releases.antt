-- The earliest release of a table.
use Rattle.std.proofs.Common.{◌≡◌, ℕ, ◌+◌, ◌<◌, ◌≤◌, true, ◌&&◌, List, [], ◌∷◌, length, take, Some, None, Option, if◌then◌else◌, nat_lt, refl, inl, inr, min, ◌∙◌, arith}
use Rattle.std.proofs.lemmas.Bool.{cases_eq}
use Rattle.std.proofs.lemmas.List.{length-take-le}
use Rattle.std.proofs.lemmas.Bool.Decides.{nat_tests}
use Rattle.rows.specs.declared.memory.Task.{Task}
use Rattle.rows.specs.Releases.{timely}
use Rattle.rows.specs.Tests.{all}
use Rattle.model.specs.State.{Rest}
use Rattle.model.specs.Tables.{sound_task, tasks_fit, next_release, earliest}
use Rattle.model.proofs.Releases.{next_after, next_near, divides}
use Rattle.planner.proofs.Weights.{sound_parts}
use Rattle.planner.proofs.Withdrawals.{fit_parts}

-- the least of e and the next releases
abbrev pub least : ℕ → ℕ → List Task → ℕ
least tick e [] = e
least tick e (t ∷ ts) = least tick (min e (next_release tick t)) ts

pub least_is : (tick e : ℕ) (t : Task) (ts : List Task) → least tick e (t ∷ ts) ≡ min e (earliest tick (t ∷ ts))
least_is tick e t [] = refl
least_is tick e t (u ∷ ts) = least_is tick (min e (next_release tick t)) u ts ∙ omega arith

pub least_first : (tick : ℕ) (t : Task) (ts : List Task) → least tick (next_release tick t) ts ≡ earliest tick (t ∷ ts)
least_first tick t [] = refl
least_first tick t (u ∷ ts) = least_is tick (next_release tick t) u ts

next_bounds : (b : Rest) (t : Task) → 1 ≤ b.scale → sound_task b t ≡ true → (b.tick < next_release b.tick t) × (next_release b.tick t ≤ b.tick + b.scale)
next_bounds b t scaled ok =
    let s = sound_parts b t ok in (
      next_after b.tick t (omega (arith, s.some, s.within)),
      omega (arith, next_near b.tick t s.gone, divides b.scale t.period scaled s.divides),
    )

pub earliest_bounds : (b : Rest) (ts : List Task) → 1 ≤ b.scale → all (sound_task b) ts ≡ true → 0 < length ts
    → (b.tick < earliest b.tick ts) × (earliest b.tick ts ≤ b.tick + b.scale)
earliest_bounds b [] scaled ok some = absurd (omega arith)
earliest_bounds b (t ∷ []) scaled ok some = let one : sound_task b t ≡ true = grind (arith, nat_tests) in next_bounds b t scaled one
earliest_bounds b (t ∷ (u ∷ ts)) scaled ok some =
    let one : sound_task b t ≡ true = grind (arith, nat_tests) in
    let rest : all (sound_task b) (u ∷ ts) ≡ true = grind (arith, nat_tests) in
    let now = next_bounds b t scaled one in
    let more = earliest_bounds b (u ∷ ts) scaled rest (omega arith) in
    (omega (arith, now.0, more.0), omega (arith, now.1, more.1))

-- every sound row has a release ahead
pub sound_timely : (b : Rest) (ts : List Task) → all (sound_task b) ts ≡ true → all (timely b.tick) ts ≡ true
sound_timely b [] ok = refl
sound_timely b (t ∷ ts) ok =
    let rest : all (sound_task b) ts ≡ true = grind (arith, nat_tests) in
    let more = sound_timely b ts rest in
    grind (arith, nat_tests)

-- what is known of the end of a plane over memory that fits
pub record End (b : Rest) (memory : List Task) (end : ℕ) : Type 0 where
  pub some : 1 ≤ b.count
  pub is : end ≡ earliest b.tick (take b.count memory)
  pub later : b.tick < end
  pub near : end ≤ b.tick + b.scale

module _ (b : Rest) (memory : List Task) (scaled : 1 ≤ b.scale) (fits : tasks_fit b memory ≡ true) where
  abbrev rows : List Task
  rows = take b.count memory

  abbrev found_end : Option ℕ
  found_end = if (nat_lt 0 (length rows) && all (timely b.tick) rows) then Some (earliest b.tick rows) else None

  end_is : found_end ≡ (if nat_lt 0 b.count then Some (earliest b.tick rows) else None)
  end_is =
      let parts = fit_parts b memory fits in
      let t = sound_timely b rows parts.sound in
      let long : length rows ≡ b.count = length-take-le b.count memory parts.there in
      grind (arith, nat_tests)

  pub no_end : None ≡ found_end → b.count ≡ 0
  no_end none = elim (cases_eq b.count 0) [
    | inl z ↦ z
    | inr s ↦ let e = none ∙ end_is in let y : nat_lt 0 b.count ≡ true = grind (arith, nat_tests) in absurd (grind (arith, nat_tests))
  ]

  pub an_end : (end : ℕ) → Some end ≡ found_end → End b memory end
  an_end end found =
      let e = found ∙ end_is in
      let parts = fit_parts b memory fits in
      let some : 1 ≤ b.count = grind (arith, nat_tests) in
      let is : end ≡ earliest b.tick rows = grind (arith, nat_tests) in
      let bounds = earliest_bounds b rows scaled parts.sound (omega (arith, length-take-le b.count memory parts.there)) in
      record { some = some; is = is; later = omega (arith, is, bounds.0); near = omega (arith, is, bounds.1) }
