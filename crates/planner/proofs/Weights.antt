-- Weights of tasks.
use Rattle.std.proofs.Common.{◌≡◌, ℕ, ◌*◌, ◌/◌, ◌%◌, ◌≤◌, true, sym, mul-le-mul_right, arith}
use native.Mathlib.Nat.{div-le_of_le-mul, mul-div_assoc, dvd_of_mod-eq-zero}
use Rattle.std.proofs.lemmas.Bool.Decides.{nat_tests}
use Rattle.rows.specs.declared.memory.Task.{Task}
use Rattle.model.specs.State.{Rest}
use Rattle.model.specs.Tables.{weight, sound_task}

-- where the period divides the scale, one may divide first
pub divide_first : (c q p : ℕ) → q % p ≡ 0 → c * (q / p) ≡ c * q / p
divide_first c q p h = sym (mul-div_assoc p c (dvd_of_mod-eq-zero p h))

pub weight_le : (c p q : ℕ) → c ≤ p → c * q / p ≤ q
weight_le c p q h = div-le_of_le-mul p (mul-le-mul_right q h)

-- what a sound row says
pub record Sound (b : Rest) (t : Task) : Type 0 where
  pub some : 1 ≤ t.execution
  pub within : t.execution ≤ t.period
  pub divides : b.scale % t.period ≡ 0
  pub gone : t.release ≤ b.tick

pub sound_parts : (b : Rest) (t : Task) → sound_task b t ≡ true → Sound b t
sound_parts b t h = record { some = grind (arith, nat_tests); within = grind (arith, nat_tests); divides = grind (arith, nat_tests); gone = grind (arith, nat_tests) }

pub sound_weight : (b : Rest) (t : Task) → sound_task b t ≡ true → weight b.scale t ≤ b.scale
sound_weight b t h = weight_le t.execution t.period b.scale (sound_parts b t h).within
