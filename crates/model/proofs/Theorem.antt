-- What holds after every run.
use Rattle.std.proofs.Common.{◌≡◌, ℕ, ◌-◌, ◌*◌, ◌/◌, ◌%◌, ◌^◌, ◌<◌, ◌≤◌, List, [], ◌∷◌, take, Ok, refl, ap, ◌∙◌, subst, arith}
use native.Mathlib.Nat.{dvd_of_mod-eq-zero, mul-div_cancel', mul-div_assoc}
use Rattle.std.specs.List.{AllByRecursion}
use Rattle.std.proofs.ByRecursion.{All-weaker}
use Rattle.rows.specs.declared.memory.Task.{Task}
use Rattle.rows.specs.declared.memory.Token.{Token}
use Rattle.model.specs.State.{Rest, Open, opened}
use Rattle.model.specs.Tables.{weight}
use Rattle.plan_file.specs.Records.{Segment}
use Rattle.model.specs.Histories.{Event, ran_in}
use Rattle.model.specs.Runs.{World, resting, running, Memory}
use Rattle.model.specs.Fitting.{Widths}
use Rattle.model.specs.Claims.{WithinSpan, OverInTime, ServedAtRelease, StartsLater, SegmentsHold, Holds, RunsSound}
use Rattle.model.proofs.Counts.{all_in}
use Rattle.model.proofs.Segments.{Good}
use Rattle.model.proofs.Course.{total_cons}
use Rattle.model.proofs.Finishes.{finish_over}
use Rattle.model.proofs.Resting.{Resting}
use Rattle.model.proofs.Accepted.{opened_ok}
use Rattle.model.proofs.Calls.{Inv, always}
use Rattle.model.proofs.Fits.{sound_fit, listed_fit}

starts_later : (m : ℕ) (ss : List Segment) → AllByRecursion (Good m) ss → StartsLater ss
starts_later m [] h = tt
starts_later m (s ∷ []) h = tt
starts_later m (s ∷ (r ∷ ss)) h = (omega (arith, total_cons r ss, h.1.0.long), starts_later m (r ∷ ss) h.1)

segments_hold : (m : ℕ) (h : List Event) → AllByRecursion (Good m) (ran_in h) → SegmentsHold m h
segments_hold m h g = record {
  one_processor_each = All-weaker (Good m) _ (λ s k. k.fits.apart) (ran_in h) g;
  fits_a_record = All-weaker (Good m) _ (λ s k. k.fits) (ran_in h) g;
  starts_later = starts_later m (ran_in h) g;
}

-- Open planes.
module _ (p : Open) (m : Memory) (h : List Event) (o : Inv (running p m h)) where
  abbrev n : ℕ
  n = p.board.count

  abbrev ks : List Token
  ks = take n m.tokens

  within_span : WithinSpan p m.tokens
  within_span = (all_in (λ x. x.left ≤ p.span) ks o.sound.low, o.sound.sum)

  over_in_time : OverInTime p m.tokens h
  over_in_time = (
    o.slow.most,
    (λ e. grind (arith, o.slow.going)),
    (λ z. all_in (λ x. x.left ≡ 0) ks (λ x i. omega (arith, o.sound.low x i, z))),
  )

  widths : Widths p m.tokens
  widths = record { some = o.board.some; few = o.board.few; short = o.short; tags = all_in (λ x. x.tag < 2 ^ 16) ks o.sound.short_tags }

  holds_running : Holds (running p m h)
  holds_running = record {
    ends_at_release = o.first;
    within_span = within_span;
    over_in_time = over_in_time;
    finish_ends = finish_over p m.tokens widths;
    fallen_by_segments = (o.fallen, o.paid);
    tasks_fit = listed_fit p.board m.tasks o.listed o.tasks;
    tokens_fit = sound_fit p m.tokens o.there o.sound;
    segments_hold = segments_hold p.board.processors h o.good;
  }

-- k periods of a task's weight are k execution times
shares : (q k : ℕ) (t : Task) → q % t.period ≡ 0 → (k * t.period) * weight q t ≡ k * t.execution * q
shares q k t e =
    let d = dvd_of_mod-eq-zero t.period e in
    let j = q / t.period in
    let f : t.period * j ≡ q = mul-div_cancel' t.period d in
    let g : weight q t ≡ t.execution * j = mul-div_assoc t.period t.execution d in
    omega (arith, ap (λ w. (k * t.period) * w) g, ap (λ w. k * t.execution * w) f)

-- Boards at rest.
module _ (b : Rest) (m : Memory) (h : List Event) (o : Inv (resting b m h)) where
  abbrev ts : List Task
  ts = take b.count m.tasks

  served_at_release : ServedAtRelease b m.tasks h
  served_at_release = all_in _ ts (λ t i k e.
      let time : b.tick - t.release ≡ k * t.period = omega arith in
      o.served t i ∙ ap (λ d. d * weight b.scale t) time ∙ shares b.scale k t (o.tasks t i).divides)

  holds_resting : Holds (resting b m h)
  holds_resting = record {
    clock_is_total = o.clock;
    served_at_release = served_at_release;
    tasks_fit = listed_fit b m.tasks o.listed o.tasks;
    segments_hold = segments_hold b.processors h o.good;
  }

holds : (w : World) → Inv w → Holds w
holds (resting b m h) o = holds_resting b m h o
holds (running p m h) o = holds_running p m h o

pub first_world : (m q : ℕ) (b : Rest) (memory : Memory) → opened m q ≡ Ok b → Inv (resting b memory [])
first_world m q b memory e =
    let k = opened_ok m q b e in
    subst (λ b. Resting b (take b.count memory.tasks) []) k.is (record {
      board = record { some = k.some; few = k.few; scaled = k.scaled; fine = k.fine; bound = omega arith };
      listed = record { there = refl; tagged = refl; sum = refl };
      tasks = λ t i. elim i [ ];
      served = λ t i. elim i [ ];
      clock = omega arith;
      good = tt;
    })

pub runs_sound : (m q : ℕ) → RunsSound m q
runs_sound m q b memory w e run = holds w (always (resting b memory []) w (first_world m q b memory e) run)
