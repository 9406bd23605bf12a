-- What the queue says of an entry that is put in, by its answer.
use Rattle.std.proofs.Common.{◌≡◌, Bool, true, false, cond, is_err, Ok, Err, Result, sym, refl, ap, ◌∙◌, true≢false}
use Rattle.std.specs.Result as results
use Rattle.rows.specs.declared.refusal.Refusal.{Refusal}
use Rattle.rows.specs.declared.refusal.Refusal.TheVariants.{QueueFull}

-- an insertion that is not refused was into room
pub accepted : (b : Bool) (r : Result (Unit {0}) Refusal) (P : Type 0) (Q : Refusal → Type 0) → r ≡ cond b (Err QueueFull) (Ok tt) → is_err r ≡ false → results.MatchResult r (λ _. P) Q → (b ≡ false) × P
accepted false (Ok u) P Q e i t = (refl, t)
accepted false (Err k) P Q e i t = absurd (true≢false i)
accepted true r P Q e i t = absurd (true≢false (sym (ap is_err e) ∙ i))
