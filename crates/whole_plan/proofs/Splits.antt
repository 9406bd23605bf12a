-- All planes of a whole plan: where they go through, and what their segments add up to at each release.
use Rattle.std.proofs.Common.{◌≡◌, ℕ, zero, suc, ◌+◌, ◌*◌, ◌<◌, ◌≤◌, Bool, true, false, leb, List, [], ◌∷◌, ◌++◌, reverse, length, take, Ok, Err, filter, sym, refl, ap, ◌∙◌, subst, ⊎_elim, append_assoc, append-nil, mul-le-mul_left, arith}
use mathlib.Core.List.{reverse-cons}
use Rattle.std.specs.List.{AllByRecursion}
use Rattle.std.proofs.lemmas.List.Elements.{filter-append}
use Rattle.std.proofs.ByRecursion.{All-append}
use Rattle.std.proofs.lemmas.List.Sums.{sum_by-append}
use Rattle.std.proofs.lemmas.Bool.{cases_lt, leb-true, le-leb}
use Rattle.rows.specs.declared.refusal.Refusal.TheVariants.{PastLastTick}
use Rattle.rows.specs.declared.memory.Task.{Task}
use Rattle.rows.specs.declared.memory.Token.{Token}
use Rattle.rows.specs.Limits.{last_tick}
use Rattle.rows.specs.Tests.{has}
use Rattle.plan_file.specs.Records.{Segment, record_bytes, records_bytes}
use Rattle.plan_file.specs.RoundTrip.{Writable}
use Rattle.model.specs.State.{Rest, opened, at_tick}
use Rattle.model.specs.Histories.{total, run_by}
use Rattle.model.specs.Runs.{World, resting, Memory, with_tokens}
use Rattle.model.specs.Claims.{RestHolds}
use Rattle.model.specs.Members.{In}
use Rattle.model.proofs.Counts.{in_all}
use Rattle.model.proofs.Calls.{Inv}
use Rattle.model.proofs.Theorem.{first_world, runs_sound}
use Rattle.whole_plan.specs.Planning.{planes_planned}
use Rattle.whole_plan.specs.Ends.{tick_after, Released}
use Rattle.whole_plan.proofs.Words.{then_on, then_err}
use Rattle.whole_plan.proofs.Earliest.{ends_later}
use Rattle.whole_plan.proofs.Reached.{Reached}
use Rattle.whole_plan.proofs.Onward.{Ran, too_late, plane_ran}

-- Sums over segments.

pub total_append : (xs ys : List Segment) → total (xs ++ ys) ≡ total xs + total ys
total_append xs ys = sum_by-append (λ s. s.units) xs ys

pub run_by_append : (tag : ℕ) (xs ys : List Segment) → run_by tag (xs ++ ys) ≡ run_by tag xs + run_by tag ys
run_by_append tag xs ys = ap total (filter-append (λ s. has tag s.row) xs ys) ∙ total_append (filter (λ s. has tag s.row) xs) (filter (λ s. has tag s.row) ys)

-- a sum does not depend on the order
back_to_front : (f : List Segment → ℕ) → ((xs ys : List Segment) → f (xs ++ ys) ≡ f xs + f ys) → (xs : List Segment) → f (reverse xs) ≡ f xs
back_to_front f sums [] = refl
back_to_front f sums (x ∷ xs) =
    ap f (reverse-cons x xs) ∙ omega (arith, sums (reverse xs) (x ∷ []), back_to_front f sums xs, sums (x ∷ []) xs)

pub records_append : (m : ℕ) (xs ys : List Segment) → records_bytes m (xs ++ ys) ≡ records_bytes m xs ++ records_bytes m ys
records_append m [] ys = refl
records_append m (x ∷ xs) ys = ap (λ l. record_bytes m x ++ l) (records_append m xs ys) ∙ sym (append_assoc (record_bytes m x) (records_bytes m xs) (records_bytes m ys))

-- Segments up to a task's release: they add up to it in units, and those with the task's tag to its work for the periods gone.
pub record Split (scale : ℕ) (t : Task) (j : ℕ) (ss : List Segment) : Type 0 where
  pub front : List Segment
  pub back : List Segment
  pub is : ss ≡ front ++ back
  pub long : total front ≡ j * t.period * scale
  pub runs : run_by t.tag front ≡ j * t.execution * scale

module _ (m q : ℕ) (b₀ : Rest) (memory : Memory) (opens : opened m q ≡ Ok b₀) where
  abbrev pub first : World
  first = resting b₀ memory []

  pub start : Inv first
  start = first_world m q b₀ memory opens

  -- a board that the run has reached stands where its segments have brought it, and has served each task that is released there
  pub at_release : {b : Rest} {u : Memory} {ss : List Segment} → Reached first b u ss
      → (total ss ≡ b.tick * b.scale)
      × ((t : Task) → In t (take b.count u.tasks) → (j : ℕ) → b.tick ≡ t.release + j * t.period → run_by t.tag ss ≡ j * t.execution * b.scale)
  at_release {b} {u} {ss} o =
      let holds : RestHolds b u o.history = runs_sound m q b₀ memory (resting b u o.history) opens o.run in (
        sym (back_to_front total total_append ss) ∙ ap total (sym o.made) ∙ sym holds.clock_is_total,
        (λ t i j e. sym (back_to_front (run_by t.tag) (run_by_append t.tag) ss) ∙ ap (run_by t.tag) (sym (o.since t.tag ∙ o.made))
            ∙ in_all _ holds.served_at_release i j e),
      )

  module _ (b : Rest) (u : Memory) (o : Reached first b u []) (some : 0 < b.count) (room : b.count ≤ length u.tokens)
      (rows : 0 < length (take b.count u.tasks)) (began : b.tick ≡ 0) (ready : AllByRecursion (Released 0) (take b.count u.tasks)) where
    abbrev ts : List Task
    ts = take b.count u.tasks

    -- after k planes
    pub record Whole (k : ℕ) : Type 0 where
      pub tokens : List Token
      pub segments : List Segment
      pub goes : planes_planned k b u.tasks u.tokens ≡ Ok (at_tick b (tick_after k ts), tokens, records_bytes b.processors segments)
      pub there : b.count ≤ length tokens
      pub writable : AllByRecursion (Writable b.processors) segments
      pub reached : Reached first (at_tick b (tick_after k ts)) (with_tokens u tokens) segments
      pub splits : (t : Task) → In t ts → (j : ℕ) → j * t.period ≤ tick_after k ts → Split b.scale t j segments
      pub lasts : k ≤ tick_after k ts

    none : Whole 0
    none =
        let now : b ≡ at_tick b 0 = ap (at_tick b) began in
        record {
          tokens = u.tokens;
          segments = [];
          goes = ap (λ x. Ok (x, u.tokens, [])) now;
          there = room;
          writable = tt;
          reached = subst (λ x. Reached first x u []) now o;
          splits = λ t i j h.
              let one = (in_all (Released 0) ready i).some in
              let z : j ≡ 0 = ⊎_elim (λ p. absurd (omega (arith, mul-le-mul_left j one, h, p))) (λ g. omega arith) (cases_lt 0 j) in
              record { front = []; back = []; is = refl; long = sym (ap (λ j. j * t.period * b.scale) z ∙ omega arith); runs = sym (ap (λ j. j * t.execution * b.scale) z ∙ omega arith) };
          lasts = omega arith;
        }

    one_more : (k : ℕ) (w : Whole k) → Ran first (at_tick b (tick_after k ts)) (with_tokens u w.tokens) w.segments → Whole (suc k)
    one_more k w r = record {
      tokens = r.tokens;
      segments = w.segments ++ r.more;
      goes = then_on _ w.goes ∙ then_on _ r.goes
          ∙ ap (λ l. Ok (at_tick b (tick_after (suc k) ts), r.tokens, l)) (sym (records_append b.processors w.segments r.more));
      there = r.there;
      writable = All-append (Writable b.processors) w.segments r.more w.writable r.writable;
      reached = r.reached;
      splits = λ t i j h. ⊎_elim (λ l. split_here t i j l h) (λ g. split_before t i j g) (cases_lt (tick_after k ts) (j * t.period));
      lasts = omega (arith, w.lasts, r.release.later);
    }
      where
        split_here : (t : Task) → In t ts → (j : ℕ) → tick_after k ts < j * t.period → j * t.period ≤ tick_after (suc k) ts → Split b.scale t j (w.segments ++ r.more)
        split_here t i j l h =
            let past = (in_all (Released 0) ready i).past in
            let none = r.release.none_between t i j (omega arith) in
            let now : tick_after (suc k) ts ≡ j * t.period = omega arith in
            let here = at_release r.reached in
            record {
              front = w.segments ++ r.more;
              back = [];
              is = sym (append-nil (w.segments ++ r.more));
              long = here.0 ∙ ap (λ n. n * b.scale) now;
              runs = here.1 t i j (omega arith);
            }

        split_before : (t : Task) → In t ts → (j : ℕ) → j * t.period ≤ tick_after k ts → Split b.scale t j (w.segments ++ r.more)
        split_before t i j h =
            let s = w.splits t i j h in
            record {
              front = s.front;
              back = s.back ++ r.more;
              is = ap (λ l. l ++ r.more) s.is ∙ append_assoc s.front s.back r.more;
              long = s.long;
              runs = s.runs;
            }

    -- one plane more
    next : (k : ℕ) → Whole k → leb (tick_after (suc k) ts) last_tick ≡ true → Whole (suc k)
    next k w timely =
        let r = plane_ran first start (at_tick b (tick_after k ts)) (with_tokens u w.tokens) w.segments w.reached some w.there timely in
        one_more k w r

    pub in_time : (k : ℕ) → leb (tick_after k ts) last_tick ≡ true → Whole k
    in_time zero h = none
    in_time (suc k) h =
        let l = ends_later ts rows ready k (suc k) (omega arith) in
        next k (in_time k (le-leb (tick_after k ts) last_tick (omega (arith, leb-true (tick_after (suc k) ts) last_tick h)))) h

    -- the first plane that ends past the last tick refuses all
    pub late : (k : ℕ) → leb (tick_after k ts) last_tick ≡ false → planes_planned k b u.tasks u.tokens ≡ Err PastLastTick
    late zero h = absurd (cc)
    late (suc k) h = go (leb (tick_after k ts) last_tick) refl (λ e. late k e)
      where
        go : (t : Bool) → leb (tick_after k ts) last_tick ≡ t → (leb (tick_after k ts) last_tick ≡ false → planes_planned k b u.tasks u.tokens ≡ Err PastLastTick)
            → planes_planned (suc k) b u.tasks u.tokens ≡ Err PastLastTick
        go true e again =
            let w = in_time k e in
            then_on _ w.goes ∙ then_err _ (too_late first start (at_tick b (tick_after k ts)) (with_tokens u w.tokens) w.segments w.reached some w.there h)
        go false e again = then_err _ (again e)
