-- The answer to a table as bytes: the plan, or the line of a refusal.
use Rattle.std.proofs.Common.{◌≡◌, ℕ, ◌+◌, ◌/◌, ◌%◌, ◌^◌, ◌<◌, ◌≤◌, min, ◌⊎◌, List, [], ◌∷◌, ◌++◌, length, take, drop, pos, Ok, Err, codes, decimal, Result, sym, ap, ◌∙◌, inl, inr, arith, lit<}
use Rattle.std.proofs.lemmas.List.{length-take, take_all}
use Rattle.std.proofs.lemmas.Fmt.{decimal_digit, decimal_step}
use Rattle.std.proofs.lemmas.Bool.{cases_lt}
use Rattle.rows.specs.declared.refusal.Refusal.{Refusal}
use Rattle.rows.specs.declared.refusal.Refusal.TheVariants.{Processors, Scale, Memory, TagZero, Execution, Period, TagPresent, TasksFull, Overload, TagAbsent, NotReleased, NoTask, PastLastTick, PlaneOver, BufferShort, PlaneOpen, Places, QueueFull, TableShort, Mark, Version, TableLength, NoPlanes, TaskCount, PlanBuffer, PlanShort, RecordShort, Length, Kind, TagTwice, TagPastProcessors}
use Rattle.rows.specs.Refusals.{refusal_number}
use Rattle.whole_plan.specs.Planning.{in_front, plan_length, with_plan}
use Rattle.whole_plan.specs.Answering.{length_or_minus, refused_line, plan_or_line, fitted}
use Rattle.whole_plan.proofs.Words.{value}

-- as much of a text as there is room for, copied to the front
pub copied : (out text front : List ℕ) (n k : ℕ) → k ≡ n → n ≡ min (length text) (length out) → front ≡ take k text
    → (n ≡ length (fitted out text)) × (front ++ drop k out ≡ in_front (fitted out text) out)
copied out text front n k e m f =
    let l : n ≡ length (fitted out text) = omega (arith, m, length-take (length out) text) in
    let t : take k text ≡ fitted out text = same (cases_lt (length out) (length text)) in
    (l, ap (λ x. x ++ drop k out) (f ∙ t) ∙ ap (λ i. fitted out text ++ drop i out) (e ∙ l))
  where
    same : (length out < length text) ⊎ (length text ≤ length out) → take k text ≡ fitted out text
    same (inl h) = ap (λ i. take i text) (omega (arith, e, m, h))
    same (inr h) = take_all k text (omega (arith, e, m, h)) ∙ sym (take_all (length out) text h)

-- no refusal has a number of three digits
two_digits : (e : Refusal) → refusal_number e < 100
two_digits e =
    elim e as (λ e. refusal_number e < 100) [
      | Processors ↦ lit< tt
      | Scale ↦ lit< tt
      | Memory ↦ lit< tt
      | TagZero ↦ lit< tt
      | Execution ↦ lit< tt
      | Period ↦ lit< tt
      | TagPresent ↦ lit< tt
      | TasksFull ↦ lit< tt
      | Overload ↦ lit< tt
      | TagAbsent ↦ lit< tt
      | NotReleased ↦ lit< tt
      | NoTask ↦ lit< tt
      | PastLastTick ↦ lit< tt
      | PlaneOver ↦ lit< tt
      | BufferShort ↦ lit< tt
      | PlaneOpen ↦ lit< tt
      | Places ↦ lit< tt
      | QueueFull ↦ lit< tt
      | TableShort ↦ lit< tt
      | Mark ↦ lit< tt
      | Version ↦ lit< tt
      | TableLength ↦ lit< tt
      | NoPlanes ↦ lit< tt
      | TaskCount ↦ lit< tt
      | PlanBuffer ↦ lit< tt
      | PlanShort ↦ lit< tt
      | RecordShort ↦ lit< tt
      | Length ↦ lit< tt
      | Kind ↦ lit< tt
      | TagTwice ↦ lit< tt
      | TagPastProcessors ↦ lit< tt
    ]

pub one_digit_line : (e : Refusal) (n : ℕ) → n ≡ refusal_number e → n < 10 → codes "refused " ++ ((48 + n) ∷ 10 ∷ []) ≡ refused_line e
one_digit_line e n is h =
    ap (λ l. codes "refused " ++ (l ++ 10 ∷ [])) (sym (decimal_digit n h)) ∙ ap (λ n. codes "refused " ++ (decimal n ++ 10 ∷ [])) is

pub two_digit_line : (e : Refusal) (n : ℕ) → n ≡ refusal_number e → 10 ≤ n → codes "refused " ++ ((48 + n / 10) ∷ (48 + n % 10) ∷ 10 ∷ []) ≡ refused_line e
two_digit_line e n is h =
    let small : n < 100 = omega (arith, two_digits e) in
    let few : n < 2 ^ 64 = omega arith in
    let d : decimal n ≡ (48 + n / 10) ∷ (48 + n % 10) ∷ [] = decimal_step n h few ∙ ap (λ l. l ++ ((48 + n % 10) ∷ [])) (decimal_digit (n / 10) (omega arith)) in
    ap (λ l. codes "refused " ++ (l ++ 10 ∷ [])) (sym d) ∙ ap (λ n. codes "refused " ++ (decimal n ++ 10 ∷ [])) is

-- What the answer of the whole plan tells.

pub plan_made : (d : Result (List ℕ) Refusal) (n : ℕ) (out after : List ℕ) → Ok n ≡ plan_length d → after ≡ with_plan d out → n ≤ length out
    → (n ≡ length (fitted out (plan_or_line d))) × (after ≡ in_front (fitted out (plan_or_line d)) out)
plan_made (Ok bytes) n out after a b h =
    let k = value n (length bytes) a in
    let t : bytes ≡ fitted out bytes = sym (take_all (length out) bytes (omega arith)) in
    (k ∙ ap length t, b ∙ ap (λ x. in_front x out) t)
plan_made (Err e) n out after a b h = absurd (cc)

pub refused_is : (d : Result (List ℕ) Refusal) (e : Refusal) → Err e ≡ plan_length d → d ≡ Err e
refused_is (Ok bytes) e h = absurd (cc)
refused_is (Err f) e h = let z : f ≡ e = cc in ap Err z

-- an answer that is not below 0 is a length
pub length_is : (d : Result ℕ Refusal) (n : ℕ) → length_or_minus d ≡ pos n → d ≡ Ok n
length_is (Ok m) n h = let e : m ≡ n = cc in ap Ok e
length_is (Err e) n h = absurd (cc)
