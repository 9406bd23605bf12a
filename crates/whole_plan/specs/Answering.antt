-- What a caller in C gets, and what a program writes.
use Rattle.std.specs.Prelude.{ℕ, ◌-◌, List, [], ◌∷◌, ◌++◌, length, take, ℤ, pos, negsuc, Ok, Err, codes, decimal, Result}
use Rattle.rows.specs.declared.refusal.Refusal.{Refusal}
use Rattle.rows.specs.Refusals.{refusal_number}

-- a length, or minus the number of the refusal
abbrev pub length_or_minus : Result ℕ Refusal → ℤ
length_or_minus (Ok n) = pos n
length_or_minus (Err e) = negsuc (refusal_number e - 1)

-- the line of a refusal: its number in decimal, and a line end
abbrev pub refused_line : Refusal → List ℕ
refused_line e = codes "refused " ++ (decimal (refusal_number e) ++ 10 ∷ [])

-- the plan, or the line
abbrev pub plan_or_line : Result (List ℕ) Refusal → List ℕ
plan_or_line (Ok bytes) = bytes
plan_or_line (Err e) = refused_line e

-- as much of a text as there is room for
abbrev pub fitted : List ℕ → List ℕ → List ℕ
fitted room text = take (length room) text
