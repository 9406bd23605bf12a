-- Segments that start within a period.
use Rattle.std.proofs.Common.{◌≡◌, ℕ, ◌+◌, ◌*◌, ◌<◌, ◌≤◌, Bool, cond, ◌&&◌, ltb, leb, List, [], ◌∷◌, ◌++◌, length, get_or, take, refl, ap, ◌∙◌, subst, arith}
use Rattle.std.specs.List.{AllByRecursion}
use Rattle.std.proofs.lemmas.List.{take_more}
use Rattle.std.proofs.ByRecursion.{All-get_or}
use Rattle.std.proofs.lemmas.List.Sums.{sum_by_push}
use Rattle.std.proofs.lemmas.Bool.Decides.{nat_tests}
use Rattle.rows.specs.declared.memory.Task.{Task}
use Rattle.rows.specs.Tests.{has}
use Rattle.plan_file.specs.Records.{Segment}
use Rattle.model.specs.Histories.{total, run_by}
use Rattle.model.proofs.Course.{total_cons, run_by_cons}
use Rattle.whole_plan.specs.Serving.{run_within, start_of}
use Rattle.whole_plan.proofs.Splits.{Split}

-- a segment of some length
abbrev pub Long : Segment → Type 0
Long s = 0 < s.units

-- each starts later than the one before
pub starts_later : (ss : List Segment) → AllByRecursion Long ss → (i : ℕ) → i + 1 < length ss → start_of ss i < start_of ss (i + 1)
starts_later ss long i h =
    let none : Segment = record { units = 0; kind = 0; row = [] } in
    let e : total (take (i + 1) ss) ≡ total (take i ss) + (get_or ss i none).units = ap total (take_more ss i none (omega arith)) ∙ sum_by_push (λ s. s.units) (take i ss) (get_or ss i none) in
    omega (arith, e, All-get_or Long ss i none (omega arith) long)

-- one that starts in a period starts before the period's end and not before its begin
one_cut : (from until start u : ℕ) (h : Bool) → from ≤ until
    → cond (leb from start && ltb start until && h) u 0 + cond (leb 0 start && ltb start from && h) u 0 ≡ cond (leb 0 start && ltb start until && h) u 0
one_cut from until start u h l = grind (arith, nat_tests)

pub cut : (tag from until start : ℕ) (ss : List Segment) → from ≤ until
    → run_within tag from until start ss + run_within tag 0 from start ss ≡ run_within tag 0 until start ss
cut tag from until start [] l = refl
cut tag from until start (s ∷ ss) l =
    omega (arith, one_cut from until start s.units (has tag s.row) l, cut tag from until (start + s.units) ss l)

one_past : (until start u : ℕ) (h : Bool) → until ≤ start → cond (leb 0 start && ltb start until && h) u 0 ≡ 0
one_past until start u h l = grind (arith, nat_tests)

past : (tag until start : ℕ) (ss : List Segment) → until ≤ start → run_within tag 0 until start ss ≡ 0
past tag until start [] l = refl
past tag until start (s ∷ ss) l = omega (arith, one_past until start s.units (has tag s.row) l, past tag until (start + s.units) ss (omega arith))

one_before : (until start u : ℕ) (h : Bool) → start < until → cond (leb 0 start && ltb start until && h) u 0 ≡ cond h u 0
one_before until start u h l = grind (arith, nat_tests)

-- those that start before a unit, where the front ends at it
up_to : (tag until start : ℕ) (front back : List Segment) → AllByRecursion Long front → start + total front ≡ until → run_within tag 0 until start (front ++ back) ≡ run_by tag front
up_to tag until start [] back long e = past tag until start back (omega arith)
up_to tag until start (s ∷ front) back long e =
    let t = total_cons s front in
    omega (
      arith,
      one_before until start s.units (has tag s.row) (omega (arith, long.0)),
      run_by_cons tag s front,
      up_to tag until (start + s.units) front back long.1 (omega arith),
    )

front_long : (xs ys : List Segment) → AllByRecursion Long (xs ++ ys) → AllByRecursion Long xs
front_long [] ys h = tt
front_long (x ∷ xs) ys h = (h.0, front_long xs ys h.1)

-- up to a release a task's segments add up to its work for the periods gone
pub served_until : (scale : ℕ) (t : Task) (j : ℕ) (ss : List Segment) → AllByRecursion Long ss → Split scale t j ss
    → run_within t.tag 0 (j * t.period * scale) 0 ss ≡ j * t.execution * scale
served_until scale t j ss long s =
    ap (run_within t.tag 0 (j * t.period * scale) 0) s.is
    ∙ up_to t.tag (j * t.period * scale) 0 s.front s.back (front_long s.front s.back (subst (AllByRecursion Long) s.is long)) (omega (arith, s.long))
    ∙ s.runs

-- and so within one period
pub served_within : (scale : ℕ) (t : Task) (j : ℕ) (ss : List Segment) → AllByRecursion Long ss → Split scale t j ss → Split scale t (j + 1) ss
    → run_within t.tag (j * t.period * scale) ((j + 1) * t.period * scale) 0 ss ≡ t.execution * scale
served_within scale t j ss long s r =
    omega (
      arith,
      cut t.tag (j * t.period * scale) ((j + 1) * t.period * scale) 0 ss (omega arith),
      served_until scale t j ss long s,
      served_until scale t (j + 1) ss long r,
    )
