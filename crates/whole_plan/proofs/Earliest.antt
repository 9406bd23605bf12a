-- The earliest release of tasks, and the ticks at which planes end.
use Rattle.std.proofs.Common.{if◌then◌else◌, ◌&&◌, true, nat_lt, Some, None, refl, lt-ltb, ◌≡◌, ℕ, zero, suc, ◌+◌, ◌*◌, ◌<◌, ◌≤◌, List, [], ◌∷◌, map, length, get_or, Contains, ap, ⊎_elim, suc-mul, arith}
use Rattle.std.specs.List.{AllByRecursion}
use Rattle.std.proofs.ByRecursion.{All-weaker}
use Rattle.std.proofs.lemmas.Bool.{cases_lt}
use Rattle.std.proofs.lemmas.List.{get_or-map, length-map}
use Rattle.std.proofs.lemmas.Bool.Decides.{nat_tests}
use Rattle.rows.specs.declared.memory.Task.{Task}
use Rattle.rows.specs.Tests.{all}
use Rattle.rows.specs.Releases.{timely}
use Rattle.rows.specs.Limits.{largest_scale}
use Rattle.model.specs.Tables.{next_release, earliest, zeros}
use Rattle.model.proofs.Releases.{next_after, next_near}
use Rattle.whole_plan.specs.Ends.{tick_after, Released}

next_bounds : (tick : ℕ) (t : Task) → Released tick t → (tick < next_release tick t) × (next_release tick t ≤ tick + largest_scale)
next_bounds tick t r = (next_after tick t r.some, omega (arith, next_near tick t r.past, r.few))

pub earliest_bounds : (tick : ℕ) (ts : List Task) → AllByRecursion (Released tick) ts → 0 < length ts
    → (tick < earliest tick ts) × (earliest tick ts ≤ tick + largest_scale)
earliest_bounds tick [] ready some = absurd (omega arith)
earliest_bounds tick (t ∷ []) ready some = next_bounds tick t ready.0
earliest_bounds tick (t ∷ (u ∷ ts)) ready some =
    let now = next_bounds tick t ready.0 in
    let more = earliest_bounds tick (u ∷ ts) ready.1 (omega arith) in
    (omega (arith, now.0, more.0), omega (arith, now.1, more.1))

-- it comes within the period of each task
pub earliest_near : (tick i : ℕ) (ts : List Task) → AllByRecursion (Released tick) ts → i < length ts → earliest tick ts ≤ tick + (get_or ts i zeros).period
earliest_near tick i [] ready h = absurd (omega arith)
earliest_near tick zero (t ∷ []) ready h = next_near tick t ready.0.past
earliest_near tick (suc i) (t ∷ []) ready h = absurd (omega arith)
earliest_near tick zero (t ∷ (u ∷ ts)) ready h = omega (arith, next_near tick t ready.0.past)
earliest_near tick (suc i) (t ∷ (u ∷ ts)) ready h = omega (arith, earliest_near tick i (u ∷ ts) ready.1 (omega arith))

-- and so within the shortest
pub earliest_within : (tick period : ℕ) (ts : List Task) → AllByRecursion (Released tick) ts → Contains (map (λ t. t.period) ts) period → earliest tick ts ≤ tick + period
earliest_within tick period ts ready h =
    let inside : h.0 < length ts = rw length-map at h.1 in
    let here = get_or-map (λ (t : Task). t.period) ts h.0 zeros period inside in
    omega (arith, earliest_near tick h.0 ts ready inside, here, h.2)

-- so many planes, each of them so long at the most
pub ends_within : (ts : List Task) (most : ℕ) → ((tick : ℕ) → earliest tick ts ≤ tick + most) → (k : ℕ) → tick_after k ts ≤ k * most
ends_within ts most near zero = omega arith
ends_within ts most near (suc k) = omega (arith, near (tick_after k ts), ends_within ts most near k, suc-mul k most)

all_timely : (tick : ℕ) (ts : List Task) → AllByRecursion (Released tick) ts → all (timely tick) ts ≡ true
all_timely tick [] ready = refl
all_timely tick (t ∷ ts) ready =
    let first : timely tick t ≡ true = let h = ready.0 in let a = h.past in let b = h.some in grind (arith, nat_tests) in
    rw (first, all_timely tick ts ready.1) refl

module _ (ts : List Task) (some : 0 < length ts) (ready : AllByRecursion (Released 0) ts) where
  -- who was released by tick 0 was so by each later tick
  pub ready_at : (tick : ℕ) → AllByRecursion (Released tick) ts
  ready_at tick = All-weaker (Released 0) (Released tick) (λ t r. record { past = omega (arith, r.past); some = r.some; few = r.few }) ts ready

  -- so that the earliest release after any of them is known
  pub found_at : (tick : ℕ) → (if nat_lt 0 (length ts) && all (timely tick) ts then Some (earliest tick ts) else None) ≡ Some (earliest tick ts)
  found_at tick =
      let each = all_timely tick ts (ready_at tick) in
      let one : nat_lt 0 (length ts) ≡ true = lt-ltb 0 (length ts) some in
      rw (one, each) refl

  -- more planes end later
  pub ends_later : (j k : ℕ) → j ≤ k → tick_after j ts ≤ tick_after k ts
  ends_later j zero h = let e : j ≡ 0 = omega arith in omega (arith, ap (λ n. tick_after n ts) e)
  ends_later j (suc k) h =
      ⊎_elim
      (λ l. omega (arith, ends_later j k (omega arith), (earliest_bounds (tick_after k ts) ts (ready_at (tick_after k ts)) some).0))
      (λ g. let e : j ≡ suc k = omega arith in omega (arith, ap (λ n. tick_after n ts) e))
      (cases_lt j (suc k))
