-- The next release of a task, and the earliest of a table.
use Rattle.std.proofs.Common.{◌≡◌, ℕ, ◌+◌, ◌-◌, ◌*◌, ◌/◌, ◌%◌, ◌^◌, ◌<◌, ◌≤◌, List, [], ◌∷◌, length, refl, ⊎_elim, mul-le-mul_right, mod-lt, mod-eq_of_lt, div-lt_iff_lt-mul, mul-le-mul, div-add-mod', div-mul-le_self, arith}
use Rattle.std.proofs.lemmas.Bool.{cases_lt}
use Rattle.rows.specs.declared.memory.Task.{Task}
use Rattle.model.specs.Tables.{next_release, earliest}
use Rattle.model.specs.Members.{In, here, there}
use Rattle.model.specs.Claims.{FirstRelease}
use Rattle.model.proofs.Course.{TaskOk}

-- It comes after the tick, within a period, and no release lies between.
pub next_after : (tick : ℕ) (t : Task) → 0 < t.period → tick < next_release tick t
next_after tick t pos =
    let x = tick - t.release in
    let a : x / t.period * t.period + x % t.period ≡ x = div-add-mod' x t.period in
    let b : x % t.period < t.period = mod-lt x pos in
    omega arith

pub next_near : (tick : ℕ) (t : Task) → t.release ≤ tick → next_release tick t ≤ tick + t.period
next_near tick t r =
    let d = (tick - t.release) / t.period in
    let a : d * t.period ≤ tick - t.release = div-mul-le_self (tick - t.release) t.period in
    omega arith

pub next_first : (tick k : ℕ) (t : Task) → 0 < t.period → t.release ≤ tick → tick < t.release + k * t.period → next_release tick t ≤ t.release + k * t.period
next_first tick k t pos r l =
    let x = tick - t.release in
    let a : x < k * t.period = omega arith in
    let b : x / t.period < k = (div-lt_iff_lt-mul pos).1 a in
    omega (arith, mul-le-mul_right t.period b)

-- a period that divides the scale is no longer
pub divides : (q p : ℕ) → 0 < q → q % p ≡ 0 → p ≤ q
divides q p pos e = ⊎_elim (λ lt. let f = mod-eq_of_lt lt in absurd (omega arith)) (λ le. le) (cases_lt q p)

-- the earliest is one of the next releases, and none comes before it
earliest_least : (tick : ℕ) (ts : List Task) (t : Task) → In t ts → earliest tick ts ≤ next_release tick t
earliest_least tick [] t i = elim i [ ]
earliest_least tick (x ∷ []) t here = omega arith
earliest_least tick (x ∷ []) t (there i) = elim i [ ]
earliest_least tick (x ∷ (y ∷ ts)) t here = omega arith
earliest_least tick (x ∷ (y ∷ ts)) t (there i) = omega (arith, earliest_least tick (y ∷ ts) t i)

earliest_one : (tick : ℕ) (ts : List Task) → 0 < length ts → (t : Task) × In t ts × (earliest tick ts ≡ next_release tick t)
earliest_one tick [] pos = absurd (omega arith)
earliest_one tick (x ∷ []) pos = (x, here, refl)
earliest_one tick (x ∷ (y ∷ ts)) pos =
    let s = earliest_one tick (y ∷ ts) (omega arith) in
    ⊎_elim (λ l. (x, here, omega arith)) (λ g. (s.0, there s.1, omega (arith, s.2)))
    (cases_lt (next_release tick x) (earliest tick (y ∷ ts)))

module _ (q tick : ℕ) (ts : List Task) (some : 0 < length ts) (ok : (t : Task) → In t ts → TaskOk q tick t) where
  positive : (t : Task) → In t ts → 0 < t.period
  positive t i = omega (arith, (ok t i).some, (ok t i).within)

  pub first_release : FirstRelease tick (earliest tick ts) ts
  first_release =
      let s = earliest_one tick ts some in
      record {
        later = omega (arith, s.2, next_after tick s.0 (positive s.0 s.1));
        none_between = λ t i k l. omega (arith, earliest_least tick ts t i, next_first tick k t (positive t i) (ok t i).past l);
        one_then = (s.0, s.1, ((tick - s.0.release) / s.0.period + 1, s.2));
      }

  -- it comes within a scale of ticks
  pub nearest : 0 < q → earliest tick ts ≤ tick + q
  nearest pos =
      let s = earliest_one tick ts some in
      omega (arith, s.2, next_near tick s.0 (ok s.0 s.1).past, divides q s.0.period pos (ok s.0 s.1).divides)

  -- so a plane has at most 2 ^ 27 ticks, and 2 ^ 54 units
  pub few_ticks : 0 < q → q ≤ 2 ^ 27 → earliest tick ts - tick ≤ 2 ^ 27
  few_ticks pos fine = omega (arith, nearest pos)

  pub short_span : 0 < q → q ≤ 2 ^ 27 → (earliest tick ts - tick) * q ≤ 2 ^ 54
  short_span pos fine = mul-le-mul (few_ticks pos fine) fine
