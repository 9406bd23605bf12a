-- The first thing wrong, and what is answered then.
use Rattle.std.specs.Prelude.{Bool, cond, Some, None, Ok, Err, Option, Result}
use Rattle.rows.specs.declared.refusal.Refusal.{Refusal}

-- a refusal where a test fails; otherwise what comes after it
abbrev pub unless : Bool → Refusal → Option Refusal → Option Refusal
unless test refusal later = cond test later (Some refusal)

-- one fault, or where there is none a later one
abbrev pub or_else : Option Refusal → Option Refusal → Option Refusal
or_else None later = later
or_else (Some refusal) later = Some refusal

-- a value, unless there is a fault
abbrev pub answered : {X : Type 0} → Option Refusal → X → Result X Refusal
answered None x = Ok x
answered (Some refusal) x = Err refusal

-- an answer with what is read of its value
abbrev pub answer_map : {X Y : Type 0} → (X → Y) → Result X Refusal → Result Y Refusal
answer_map f (Ok x) = Ok (f x)
answer_map f (Err refusal) = Err refusal
