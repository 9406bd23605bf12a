-- A fault stays the same fault, whatever would have been answered.
use Rattle.std.proofs.Common.{◌≡◌, ℕ, ◌≤◌, Some, None, Ok, Err, Option, refl, ap, arith}
use Rattle.rows.specs.declared.refusal.Refusal.{Refusal}
use Rattle.std.proofs.lemmas.Bool.Decides.{nat_tests}
use Rattle.plan_file.specs.Records.{Segment, record_size}
use Rattle.plan_file.specs.Faults.{or_else, answered}
use Rattle.plan_file.specs.Writing.{write_fault}

pub fault_is : {X : Type 0} (f : Option Refusal) (x : X) (e : Refusal) → Err e ≡ answered f x → f ≡ Some e
fault_is None x e h = absurd (cc)
fault_is (Some g) x e h = let z : g ≡ e = cc in ap Some z

pub fault_none : {X : Type 0} (f : Option Refusal) (v x : X) → Ok v ≡ answered f x → f ≡ None
fault_none None v x h = refl
fault_none (Some g) v x h = absurd (cc)

pub answer_is : {X : Type 0} (f : Option Refusal) (v x : X) → Ok v ≡ answered f x → v ≡ x
answer_is None v x h = cc
answer_is (Some g) v x h = absurd (cc)

-- of two there is none
pub both_none : (f g : Option Refusal) → or_else f g ≡ None → (f ≡ None) × (g ≡ None)
both_none None g h = (refl, h)
both_none (Some f) g h = absurd (cc)

pub fault_same : {X Y : Type 0} (f : Option Refusal) (x : X) (y : Y) (e : Refusal) → Err e ≡ answered f x → Err e ≡ answered f y
fault_same f x y e h = rw (fault_is f x e h) refl

pub fault_passed : {X Y : Type 0} (f : Option Refusal) (v x : X) (y : Y) → Ok v ≡ answered f x → Ok y ≡ answered f y
fault_passed f v x y h = rw (fault_none f v x h) refl

-- what may be written has room
pub room_enough : (m : ℕ) (s : Segment) (room : ℕ) → write_fault m s room ≡ None → record_size m ≤ room
room_enough m s room h = grind (arith, nat_tests)
