-- The run of calls that a whole plan makes: its planes.
use Rattle.std.proofs.Common.{◌≡◌, ℕ, ◌+◌, ◌-◌, ◌*◌, ◌<◌, ◌≤◌, true, false, leb, List, [], ◌∷◌, ◌++◌, map, reverse, length, take, drop, replicate, Ok, Err, sym, refl, ap, ◌∙◌, mul-pos, arith}
use Rattle.std.specs.List.{AllByRecursion}
use Rattle.std.proofs.lemmas.List.{length-replicate, length-take, take_at, reverse-append}
use Rattle.std.proofs.lemmas.Bool.{lt-ltb, le-leb, eq-eqb}
use Rattle.rows.specs.declared.refusal.Refusal.TheVariants.{PastLastTick}
use Rattle.rows.specs.declared.memory.Task.{Task}
use Rattle.rows.specs.declared.memory.Token.{Token}
use Rattle.rows.specs.Limits.{last_tick}
use Rattle.rules.specs.Keys.{largest_first}
use Rattle.plan_file.specs.Records.{Segment, records_bytes}
use Rattle.plan_file.specs.RoundTrip.{Writable}
use Rattle.model.specs.State.{Rest, Open, at_tick, ended}
use Rattle.model.specs.Tables.{tasks_fit, token, earliest, started}
use Rattle.model.specs.Planes.{steps, AfterFinish, finished, segments_of}
use Rattle.model.specs.Histories.{Event, ran, beginning, ran_in, since_admission}
use Rattle.model.specs.Runs.{World, resting, running, Memory, with_tokens, Run, then, start, finish, end}
use Rattle.model.specs.Claims.{FirstRelease}
use Rattle.model.proofs.Course.{Running}
use Rattle.model.proofs.Resting.{Resting}
use Rattle.model.proofs.Fits.{listed_fit, sound_fit}
use Rattle.model.proofs.Finishes.{all_writable, span_out, finish_back}
use Rattle.model.proofs.Accepted.{finish_of}
use Rattle.model.proofs.Calls.{Inv, always}
use Rattle.model.proofs.Largest.{lawful}
use Rattle.planner.proofs.Fitting.{finish_accepted}
use Rattle.whole_plan.specs.Planning.{plane_room, plane_into, plane_planned}
use Rattle.whole_plan.proofs.Words.{then_on, then_err}
use Rattle.whole_plan.proofs.Reached.{Reached, run_on}

-- segments on top of a history
ran_over : (xs : List Segment) (h : List Event) → ran_in (map ran xs ++ h) ≡ xs ++ ran_in h
ran_over [] h = refl
ran_over (x ∷ xs) h = ap (λ l. x ∷ l) (ran_over xs h)

since_over : (tag : ℕ) (xs : List Segment) (h : List Event) → since_admission tag (map ran xs ++ h) ≡ xs ++ since_admission tag h
since_over tag [] h = refl
since_over tag (x ∷ xs) h = ap (λ l. x ∷ l) (since_over tag xs h)

-- What a plane leaves of a board that a run has reached: it stands at the plane's end, and the run goes on to there.
pub record Ran (first : World) (b : Rest) (m : Memory) (ss : List Segment) : Type 0 where
  pub tokens : List Token
  pub more : List Segment
  pub goes : plane_planned b m.tasks m.tokens ≡ Ok (at_tick b (earliest b.tick (take b.count m.tasks)), tokens, records_bytes b.processors more)
  pub there : b.count ≤ length tokens
  pub writable : AllByRecursion (Writable b.processors) more
  pub release : FirstRelease b.tick (earliest b.tick (take b.count m.tasks)) (take b.count m.tasks)
  pub reached : Reached first (at_tick b (earliest b.tick (take b.count m.tasks))) (with_tokens m tokens) (ss ++ more)

module _ (first : World) (inv : Inv first) (b : Rest) (m : Memory) (ss : List Segment) (o : Reached first b m ss)
    (some : 0 < b.count) (there : b.count ≤ length m.tokens) where
  abbrev ts : List Task
  ts = take b.count m.tasks

  abbrev last : ℕ
  last = earliest b.tick ts

  rests : Resting b ts o.history
  rests = always first (resting b m o.history) inv o.run

  fits : tasks_fit b m.tasks ≡ true
  fits = listed_fit b m.tasks rests.listed rests.tasks

  pub too_late : leb last last_tick ≡ false → plane_planned b m.tasks m.tokens ≡ Err PastLastTick
  too_late late =
      let starts : started b m.tasks m.tokens ≡ Err PastLastTick = rw (fits, le-leb b.count (length m.tokens) there, lt-ltb 0 b.count some, late) refl in
      then_err _ (then_err _ starts)

  module _ (timely : leb last last_tick ≡ true) where
    abbrev p : Open
    p = record { board = b; end = last; span = (last - b.tick) * b.scale }

    abbrev ks : List Token
    ks = map (token b.scale (last - b.tick)) ts ++ drop b.count m.tokens

    starts : started b m.tasks m.tokens ≡ Ok (p, ks)
    starts = rw (fits, le-leb b.count (length m.tokens) there, lt-ltb 0 b.count some, timely) refl

    abbrev h₁ : List Event
    h₁ = beginning ∷ o.history

    run_started : Run first (running p (with_tokens m ks) h₁)
    run_started = run_on first (resting b m o.history) (λ r. running r.0 (with_tokens m r.1) h₁) _ (p, ks) (then o.run (start b m o.history)) starts

    runs : Running p ts (take b.count ks) h₁
    runs = always first (running p (with_tokens m ks) h₁) inv run_started

    going : 0 < p.span
    going = let k : 0 < last - b.tick = omega (arith, runs.first.later) in mul-pos k runs.board.scaled

    abbrev blank : List ℕ
    blank = replicate (plane_room b) 0

    abbrev f : AfterFinish
    f = finish_of p ks largest_first blank

    finishes : finished p ks largest_first blank ≡ Ok f
    finishes = finish_accepted p ks largest_first blank going (sound_fit p ks runs.there runs.sound) (omega (arith, length-replicate {A = ℕ} (plane_room b) 0))

    abbrev done : List Segment × ℕ × List Token
    done = steps (b.count + 1) b.processors largest_first p.span (take b.count ks)

    over : done.1 ≡ 0
    over = span_out b.processors b.count p.span (take b.count ks) runs.there runs.sound runs.short largest_first lawful

    writable : AllByRecursion (Writable b.processors) done.0
    writable = all_writable b.processors b.count p.span (take b.count ks) runs.there runs.sound runs.short largest_first lawful

    back : segments_of f ≡ done.0
    back = finish_back p ks largest_first blank writable

    abbrev h₂ : List Event
    h₂ = map ran (reverse (segments_of f)) ++ h₁

    run_finished : Run first (running f.0.0 (with_tokens m f.0.1) h₂)
    run_finished =
        run_on first (running p (with_tokens m ks) h₁) (λ r. running r.0.0 (with_tokens m r.0.1) (map ran (reverse (segments_of r)) ++ h₁)) _ f
        (then run_started (finish p (with_tokens m ks) h₁ largest_first lawful blank)) finishes

    ends : ended f.0.0 ≡ Ok (at_tick b last)
    ends = rw (eq-eqb done.1 0 over) refl

    run_ended : Run first (resting (at_tick b last) (with_tokens m f.0.1) h₂)
    run_ended = run_on first (running f.0.0 (with_tokens m f.0.1) h₂) (λ b. resting b (with_tokens m f.0.1) h₂) _ (at_tick b last)
        (then run_finished (end f.0.0 (with_tokens m f.0.1) h₂)) ends

    goes : plane_planned b m.tasks m.tokens ≡ Ok (at_tick b last, f.0.1, records_bytes b.processors done.0)
    goes =
        let bytes = records_bytes b.processors done.0 in
        let into : plane_into b m.tasks m.tokens blank ≡ Ok ((at_tick b last, f.0.1, f.0.2), f.1.1) = then_on _ starts ∙ then_on _ finishes ∙ then_on _ ends in
        then_on _ into ∙ ap (λ l. Ok (at_tick b last, f.0.1, l)) (take_at bytes (drop (length bytes) blank) (length bytes) refl)

    pub plane_ran : Ran first b m ss
    plane_ran = record {
      tokens = f.0.1;
      more = done.0;
      goes = goes;
      there = omega (arith, (always first (running f.0.0 (with_tokens m f.0.1) h₂) inv run_finished).there, length-take b.count f.0.1);
      writable = writable;
      release = runs.first;
      reached = record {
        history = h₂;
        run = run_ended;
        made = ran_over (reverse (segments_of f)) h₁ ∙ ap (λ l. reverse l ++ ran_in o.history) back ∙ ap (λ l. reverse done.0 ++ l) o.made
            ∙ sym (reverse-append ss done.0);
        since = λ tag. since_over tag (reverse (segments_of f)) h₁ ∙ ap (λ l. reverse (segments_of f) ++ l) (o.since tag)
            ∙ sym (ran_over (reverse (segments_of f)) h₁);
      };
    }
