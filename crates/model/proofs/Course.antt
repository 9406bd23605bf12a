-- The course of a plane: what is true after each of its steps.
use Rattle.std.proofs.Common.{◌≡◌, ℕ, zero, suc, ◌+◌, ◌-◌, ◌*◌, ◌%◌, ◌^◌, ◌<◌, ◌≤◌, true, cond, eqb, List, [], ◌∷◌, ◌++◌, map, reverse, length, sum_by, count_by, filter, ◌⊎◌, inl, inr, sym, refl, ap, ◌∙◌, subst, append_assoc, arith}
use mathlib.Core.List.{reverse_aux-eq}
use Rattle.std.specs.List.{AllByRecursion}
use Rattle.std.proofs.lemmas.List.{length-map, map-append}
use Rattle.std.proofs.lemmas.List.Sums.{sum_by-cons}
use Rattle.std.proofs.lemmas.Bool.{cond_both, eqb-true, eqb-false}
use Rattle.rows.specs.declared.memory.Task.{Task}
use Rattle.rows.specs.declared.memory.Token.{Token}
use Rattle.rows.specs.Tests.{has}
use Rattle.model.proofs.Tags.{increasing}
use Rattle.rules.specs.Keys.{Key, Lawful}
use Rattle.model.specs.State.{Open}
use Rattle.model.specs.Tables.{weight, tags}
use Rattle.model.specs.Steps
use Rattle.plan_file.specs.Records.{Segment}
use Rattle.model.specs.Steps.{chosen, distance}
use Rattle.model.specs.Planes.{with_span, steps}
use Rattle.model.specs.Histories.{Event, ran, ran_in, since_start, since_admission, total, run_by}
use Rattle.model.specs.Claims.{FirstRelease, Paid}
use Rattle.model.specs.Members.{In, Each, here, there}
use Rattle.model.proofs.Distances.{at_most}
use Rattle.model.proofs.Bounds.{Sound, reach, inner, falls}
use Rattle.model.proofs.Chosen.{fair}
use Rattle.model.proofs.Stepping.{step_sound, falls_by}
use Rattle.model.proofs.Segments.{Good, step_good}

-- after k steps of a plane of n tasks
pub record Slow (n r : ℕ) (ks : List Token) (k : ℕ) : Type 0 where
  pub most : k ≤ n + 1
  pub going : 0 < r → count_by (inner r) ks + k ≤ n

-- the processors, the scale and the load of a board
pub record BoardOk (m q load : ℕ) : Type 0 where
  pub some : 1 ≤ m
  pub few : m ≤ 16
  pub scaled : 0 < q
  pub fine : q ≤ 2 ^ 27
  pub bound : load ≤ m * q

-- a task on a board of that scale at that tick
pub record TaskOk (q tick : ℕ) (t : Task) : Type 0 where
  pub some : 0 < t.execution
  pub within : t.execution ≤ t.period
  pub divides : q % t.period ≡ 0
  pub past : t.release ≤ tick
  pub short : t.tag < 2 ^ 16

-- a table of n rows with that load
pub record Listed (n q load : ℕ) (ts : List Task) : Type 0 where
  pub there : length ts ≡ n
  pub tagged : increasing 0 (tags ts) ≡ true
  pub sum : sum_by (weight q) ts ≡ load

-- a plane with its tasks, its tokens and the history
pub record Running (p : Open) (ts : List Task) (ks : List Token) (h : List Event) : Type 0 where
  pub board : BoardOk p.board.processors p.board.scale p.board.load
  pub first : FirstRelease p.board.tick p.end ts
  pub short : p.span ≤ 2 ^ 54
  pub there : length ks ≡ p.board.count
  pub sound : Sound p.board.processors p.span ks
  pub slow : Slow p.board.count p.span ks (length (since_start h))
  pub listed : Listed p.board.count p.board.scale p.board.load ts
  pub tasks : (t : Task) → In t ts → TaskOk p.board.scale p.board.tick t
  pub served : (t : Task) → In t ts → run_by t.tag (since_admission t.tag h) ≡ (p.board.tick - t.release) * weight p.board.scale t + run_by t.tag (since_start h)
  pub fallen : p.span + total (since_start h) ≡ (p.end - p.board.tick) * p.board.scale
  pub paid : Each (Paid p.board.scale (p.end - p.board.tick) (since_start h)) ts ks
  pub clock : p.board.tick * p.board.scale + total (since_start h) ≡ total (ran_in h)
  pub good : AllByRecursion (Good p.board.processors) (ran_in h)

-- one more segment
pub total_cons : (s : Segment) (ss : List Segment) → total (s ∷ ss) ≡ s.units + total ss
total_cons s ss = sum_by-cons (λ s. s.units) s ss

pub run_by_cons : (tag : ℕ) (s : Segment) (ss : List Segment) → run_by tag (s ∷ ss) ≡ cond (has tag s.row) s.units 0 + run_by tag ss
run_by_cons tag s ss = grind (arith, total_cons s (filter (λ s. has tag s.row) ss))

paid_step : (q ticks : ℕ) (s : Segment) (ss : List Segment) (f : Token → Token) (ts : List Task) (ks : List Token)
    → ((x : Token) → In x ks → ((f x).tag ≡ x.tag) × ((f x).left + cond (has x.tag s.row) s.units 0 ≡ x.left))
    → Each (Paid q ticks ss) ts ks → Each (Paid q ticks (s ∷ ss)) ts (map f ks)
paid_step q ticks s ss f [] [] e h = tt
paid_step q ticks s ss f [] (k ∷ ks) e h = h
paid_step q ticks s ss f (t ∷ ts) [] e h = h
paid_step q ticks s ss f (t ∷ ts) (k ∷ ks) e h =
    let one = e k here in
    let same : cond (has t.tag s.row) s.units 0 ≡ cond (has k.tag s.row) s.units 0 = ap (λ u. cond (has u s.row) s.units 0) (sym h.0.0) in (
      (one.0 ∙ h.0.0, omega (arith, run_by_cons t.tag s ss, one.1, h.0.1, same)),
      paid_step q ticks s ss f ts ks (λ x i. e x (there i)) h.1,
    )

pub step_slow : (m : ℕ) (key : Key) (law : Lawful key) (n r : ℕ) (ks : List Token) (k : ℕ) → Sound m r ks → 0 < r → r ≤ 2 ^ 54 → Slow n r ks k
    → Slow n (Steps.step m key r ks).span (Steps.step m key r ks).tokens (suc k)
step_slow m key law n r ks k s pos short slow = record {
  most = omega (arith, slow.going pos);
  going = λ more. omega (arith, slow.going pos, falls m r ks s (chosen m key r ks) (fair m key law r ks s pos short) pos more);
}

-- one step
pub step_running : (p : Open) (ts : List Task) (ks : List Token) (h : List Event) (key : Key) → Lawful key → 0 < p.span → Running p ts ks h
    → Running (with_span p (Steps.step p.board.processors key p.span ks).span) ts (Steps.step p.board.processors key p.span ks).tokens
    (ran (Steps.step p.board.processors key p.span ks).segment ∷ h)
step_running p ts ks h key law pos o =
    let m = p.board.processors in
    let s = Steps.step m key p.span ks in
    let picks = chosen m key p.span ks in
    let choice = fair m key law p.span ks o.sound pos o.short in
    let d = at_most picks p.span ks in
    let first = total_cons s.segment (since_start h) in
    record {
      board = o.board;
      first = o.first;
      short = omega (arith, o.short);
      there = length-map ks _ ∙ o.there;
      sound = step_sound m key law p.span ks o.sound pos o.short;
      slow = step_slow m key law p.board.count p.span ks (length (since_start h)) o.sound pos o.short o.slow;
      listed = o.listed;
      tasks = o.tasks;
      served = λ t i.
          omega (arith, run_by_cons t.tag s.segment (since_admission t.tag h), run_by_cons t.tag s.segment (since_start h), o.served t i);
      fallen = omega (arith, first, d, o.fallen);
      paid = paid_step p.board.scale (p.end - p.board.tick) s.segment (since_start h) _ ts ks (λ x i. (refl, falls_by m p.span ks o.sound picks choice (distance picks p.span ks) (reach picks p.span ks) x i)) o.paid;
      clock = omega (arith, first, total_cons s.segment (ran_in h), o.clock);
      good = (step_good m key law p.span ks o.sound pos o.short, o.good);
    }

-- the history of a first segment and more
ran_more : (s : Segment) (ss : List Segment) (h : List Event) → map ran (reverse (s ∷ ss)) ++ h ≡ map ran (reverse ss) ++ (ran s ∷ h)
ran_more s ss h = rw (reverse_aux-eq ss (s ∷ []), map-append, append_assoc) refl

-- What holds of no steps holds of many if it holds of one more.
module _ (m : ℕ) (key : Key) (P : ℕ → ℕ → List Token → List Segment × ℕ × List Token → Type 0)
    (none : (fuel r : ℕ) (ks : List Token) → (fuel ≡ 0) ⊎ (r ≡ 0) → P fuel r ks ([], r, ks))
    (more : (fuel r : ℕ) (ks : List Token) (rest : List Segment × ℕ × List Token) → 0 < r
    → P fuel (Steps.step m key r ks).span (Steps.step m key r ks).tokens rest → P (suc fuel) r ks ((Steps.step m key r ks).segment ∷ rest.0, rest.1, rest.2)) where
  pub steps_by : (fuel r : ℕ) (ks : List Token) → P fuel r ks (steps fuel m key r ks)
  steps_by zero r ks = none zero r ks (inl refl)
  steps_by (suc fuel) r ks =
      cond_both (eqb r 0) _ _ (P (suc fuel) r ks) (λ e. none (suc fuel) r ks (inr (eqb-true r 0 e)))
      (λ e. more fuel r ks _ (omega (arith, eqb-false r 0 e)) (steps_by fuel _ _))

-- many steps
pub steps_running : (fuel : ℕ) (p : Open) (ts : List Task) (ks : List Token) (h : List Event) (key : Key) → Lawful key → Running p ts ks h
    → Running (with_span p (steps fuel p.board.processors key p.span ks).1) ts (steps fuel p.board.processors key p.span ks).2
    (map ran (reverse (steps fuel p.board.processors key p.span ks).0) ++ h)
steps_running fuel p ts ks h key law o =
    steps_by p.board.processors key
    (λ fuel r ks out. (h : List Event) → Running (with_span p r) ts ks h → Running (with_span p out.1) ts out.2 (map ran (reverse out.0) ++ h))
    (λ fuel r ks e h o. o)
    (λ fuel r ks rest pos again h o. subst (Running (with_span p rest.1) ts rest.2) (sym (ran_more _ rest.0 h)) (again _ (step_running (with_span p r) ts ks h key law pos o)))
    fuel p.span ks h o
