-- A plan buffer with its header, and records behind it.
use Rattle.std.proofs.Common.{◌≡◌, ℕ, ◌+◌, ◌-◌, ◌≤◌, List, ◌++◌, length, take, drop, None, sym, ap, ◌∙◌, arith}
use borrow.Rule.Slice.PartMut.{put_mid}
use Rattle.std.proofs.lemmas.List.{append_assoc, length-append, length-drop}
use Rattle.std.proofs.lemmas.Bool.Decides.{nat_tests}
use Rattle.plan_file.specs.Writing.{header_bytes, header_fault}
use Rattle.plan_file.proofs.Lent.{lent_behind}

-- a board's header may be written where there is room
pub header_fine : (m q room : ℕ) → 1 ≤ m → m ≤ 16 → 1 ≤ q → q ≤ 134217728 → 10 ≤ room → header_fault m q room ≡ None
header_fine m q room a b c d e = grind (arith, nat_tests)

-- what was written into a part is no longer than the part
pub written_fits : (xs ys part : List ℕ) → ys ≡ xs ++ drop (length xs) part → length ys ≡ length part → length xs ≤ length part
written_fits xs ys part e l = omega (arith, ap length e, length-append xs (drop (length xs) part), length-drop (length xs) part)

-- behind the header of a buffer `plan`, which makes it `headed`, records were written into the rest of it
pub behind_header : (m q : ℕ) (plan headed part records : List ℕ) (at : ℕ) → at ≡ 10 → headed ≡ header_bytes m q ++ drop 10 plan
    → part ≡ records ++ drop (length records) (take (length headed - at) (drop at headed))
    → put_mid at (length headed - at) headed part ≡ (header_bytes m q ++ records) ++ drop (length (header_bytes m q ++ records)) plan
behind_header m q plan headed part records at n e w =
    let k : at + length records ≡ length (header_bytes m q ++ records) = omega arith in
    lent_behind (header_bytes m q) plan headed records part at (length records) (sym n) (e ∙ ap (λ k. header_bytes m q ++ drop k plan) (sym n)) w
    ∙ sym (append_assoc (header_bytes m q) records (drop (at + length records) plan))
    ∙ ap (λ k. (header_bytes m q ++ records) ++ drop k plan) k
