-- What the words of a contract tell: the result that is defined for a call, from the answer that it gave.
use Rattle.std.proofs.Common.{◌≡◌, Ok, Err, Result, sym, refl, ap, ◌∙◌}
use Rattle.rows.specs.declared.refusal.Refusal.{Refusal}
use Rattle.rows.specs.declared.refused.Refused.{Refused}
use Rattle.model.specs.Answers.{Answers, Changes, ChangesAnswering, MovesOver, Moves}
use Rattle.whole_plan.specs.Planning.{and_then}

pub paired : {A B : Type 0} {a c : A} {b d : B} → a ≡ c → b ≡ d → ◌≡◌ {A = A × B} (a, b) (c, d)
paired {A} {B} {a} {c} {b} {d} p q = ap (λ x. (x, b)) p ∙ ap (λ y. (c, y)) q

pub value : {A E : Type 0} (a b : A) → ◌≡◌ {A = Result A E} (Ok a) (Ok b) → a ≡ b
value a b h = cc

pub answers_ok : {A B : Type 0} (view : A → B) (a : A) (d : Result B Refusal) → Answers view (Ok a) d → d ≡ Ok (view a)
answers_ok view a (Ok b) h = ap Ok (sym h)
answers_ok view a (Err e) h = absurd h

pub answers_err : {A B : Type 0} (view : A → B) (e : Refusal) (d : Result B Refusal) → Answers view (Err e) d → d ≡ Err e
answers_err view e (Ok b) h = absurd h
answers_err view e (Err f) h = ap Err (sym h)

pub changes_ok : {S : Type 0} (before : S) (d : Result S Refusal) (a : Unit {0}) (after : S) → Changes before d (Ok a) after → d ≡ Ok after
changes_ok before (Ok r) a after h = ap Ok (sym h)
changes_ok before (Err e) a after h = absurd h

pub changes_err : {S : Type 0} (before : S) (d : Result S Refusal) (e : Refusal) (after : S) → Changes before d (Err e) after → d ≡ Err e
changes_err before (Ok r) e after h = absurd h
changes_err before (Err f) e after h = ap Err (sym h.0)

pub answering_ok : {S A B : Type 0} (view : A → B) (before : S) (d : Result (S × B) Refusal) (a : A) (after : S)
    → ChangesAnswering view before d (Ok a) after → d ≡ Ok (after, view a)
answering_ok view before (Ok r) a after h = ap Ok (sym (paired h.0 h.1))
answering_ok view before (Err e) a after h = absurd h

pub answering_err : {S A B : Type 0} (view : A → B) (before : S) (d : Result (S × B) Refusal) (e : Refusal) (after : S)
    → ChangesAnswering view before d (Err e) after → d ≡ Err e
answering_err view before (Ok r) e after h = absurd h
answering_err view before (Err f) e after h = ap Err (sym h.0)

pub moves_over_ok : {A B X Y M : Type 0} (from : A → X) (to : B → Y) (first : A) (before : M) (d : Result (Y × M) Refusal) (b : B) (after : M)
    → MovesOver from to first before d (Ok b) after → d ≡ Ok (to b, after)
moves_over_ok from to first before (Ok r) b after h = ap Ok (sym (paired h.0 h.1))
moves_over_ok from to first before (Err e) b after h = absurd h

pub moves_over_err : {A B X Y M : Type 0} (from : A → X) (to : B → Y) (first : A) (before : M) (d : Result (Y × M) Refusal) (back : Refused A) (after : M)
    → MovesOver from to first before d (Err back) after → d ≡ Err back.why
moves_over_err from to first before (Ok r) back after h = absurd h
moves_over_err from to first before (Err e) back after h = ap Err (sym h.0)

pub moves_ok : {A B X Y : Type 0} (from : A → X) (to : B → Y) (first : A) (d : Result Y Refusal) (b : B) → Moves from to first d (Ok b) → d ≡ Ok (to b)
moves_ok from to first (Ok y) b h = ap Ok (sym h)
moves_ok from to first (Err e) b h = absurd h

pub moves_err : {A B X Y : Type 0} (from : A → X) (to : B → Y) (first : A) (d : Result Y Refusal) (back : Refused A) → Moves from to first d (Err back) → d ≡ Err back.why
moves_err from to first (Ok y) back h = absurd h
moves_err from to first (Err e) back h = ap Err (sym h.0)

-- A chain of calls.

pub then_ok : {A B : Type 0} (r : Result A Refusal) (next : A → Result B Refusal) (b : B) → and_then r next ≡ Ok b → (a : A) × (r ≡ Ok a) × (next a ≡ Ok b)
then_ok (Ok a) next b h = (a, refl, h)
then_ok (Err e) next b h = absurd (cc)

pub then_on : {A B : Type 0} {r : Result A Refusal} {a : A} (next : A → Result B Refusal) → r ≡ Ok a → and_then r next ≡ next a
then_on next h = ap (λ r. and_then r next) h

pub then_err : {A B : Type 0} {r : Result A Refusal} {e : Refusal} (next : A → Result B Refusal) → r ≡ Err e → and_then r next ≡ Err e
then_err next h = ap (λ r. and_then r next) h
