-- The words of a contract: each ties the answer, the state and all memory after a call to the result that is defined for it.
use Rattle.std.specs.Prelude.{◌≡◌, Ok, Err, Result}
use Rattle.rows.specs.declared.refusal.Refusal.{Refusal}
use Rattle.rows.specs.declared.refused.Refused.{Refused}

-- A call that changes nothing: its answer, by what `view` says of it, is the one defined.
abbrev pub Answers : {A B : Type 0} → (A → B) → Result A Refusal → Result B Refusal → Type 0
Answers view (Ok a) (Ok b) = view a ≡ b
Answers view (Ok a) (Err e) = ⊥
Answers view (Err e) (Ok b) = ⊥
Answers view (Err e) (Err d) = e ≡ d

-- A change in place that answers: all after it and the answer are as defined, or it is refused and all is as before.
abbrev pub ChangesAnswering : {S A B : Type 0} → (A → B) → S → Result (S × B) Refusal → Result A Refusal → S → Type 0
ChangesAnswering view before (Ok r) (Ok a) after = (after ≡ r.0) × (view a ≡ r.1)
ChangesAnswering view before (Ok r) (Err e) after = ⊥
ChangesAnswering view before (Err d) (Ok a) after = ⊥
ChangesAnswering view before (Err d) (Err e) after = (e ≡ d) × (after ≡ before)

-- A change in place that answers no more than that it was made.
abbrev pub Changes : {S : Type 0} → S → Result S Refusal → Result (Unit {0}) Refusal → S → Type 0
Changes before (Ok r) (Ok a) after = after ≡ r
Changes before (Ok r) (Err e) after = ⊥
Changes before (Err d) (Ok a) after = ⊥
Changes before (Err d) (Err e) after = (e ≡ d) × (after ≡ before)

-- A move from one state to another that writes memory: both are as defined, or the first is handed back and nothing is written.
abbrev pub MovesOver : {A B X Y M : Type 0} → (A → X) → (B → Y) → A → M → Result (Y × M) Refusal → Result B (Refused A) → M → Type 0
MovesOver from to first before (Ok r) (Ok b) after = (to b ≡ r.0) × (after ≡ r.1)
MovesOver from to first before (Ok r) (Err back) after = ⊥
MovesOver from to first before (Err d) (Ok b) after = ⊥
MovesOver from to first before (Err d) (Err back) after = (back.why ≡ d) × (from back.back ≡ from first) × (after ≡ before)

-- A move from one state to another that is lent no memory.
abbrev pub Moves : {A B X Y : Type 0} → (A → X) → (B → Y) → A → Result Y Refusal → Result B (Refused A) → Type 0
Moves from to first (Ok y) (Ok b) = to b ≡ y
Moves from to first (Ok y) (Err back) = ⊥
Moves from to first (Err d) (Ok b) = ⊥
Moves from to first (Err d) (Err back) = (back.why ≡ d) × (from back.back ≡ from first)
