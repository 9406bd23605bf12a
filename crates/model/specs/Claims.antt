-- What holds after every run of a board just opened.
use Rattle.std.specs.Prelude.{◌≡◌, ℕ, ◌+◌, ◌-◌, ◌*◌, ◌<◌, ◌≤◌, true, List, [], ◌∷◌, length, take, Ok, sum_by}
use Rattle.std.specs.List.{AllByRecursion}
use Rattle.rows.specs.declared.memory.Task.{Task}
use Rattle.rows.specs.declared.memory.Token.{Token}
use Rattle.rows.specs.Tests.{distinct}
use Rattle.plan_file.specs.Records.{Segment}
use Rattle.plan_file.specs.RoundTrip.{Writable}
use Rattle.model.specs.State.{Rest, Open, opened}
use Rattle.model.specs.Tables.{weight, tasks_fit}
use Rattle.model.specs.Planes.{tokens_fit}
use Rattle.model.specs.Histories.{Event, ran_in, since_start, since_admission, total, run_by}
use Rattle.model.specs.Runs.{Memory, World, resting, running, Run}
use Rattle.model.specs.Members.{In, Each}
use Rattle.model.specs.Fitting.{FinishEnds}

-- Of an open plane.

-- A plane ends at the first release of its tasks after the tick at which it started.
pub record FirstRelease (tick end : ℕ) (ts : List Task) : Type 0 where
  pub later : tick < end
  pub none_between : (t : Task) → In t ts → (k : ℕ) → tick < t.release + k * t.period → end ≤ t.release + k * t.period
  pub one_then : (t : Task) × In t ts × ((k : ℕ) × (end ≡ t.release + k * t.period))

abbrev pub EndsAtRelease : Open → List Task → Type 0
EndsAtRelease p tasks = FirstRelease p.board.tick p.end (take p.board.count tasks)

-- No token has more time left than the plane, and all together have at most `processors` times that.
abbrev pub WithinSpan : Open → List Token → Type 0
WithinSpan p tokens =
    let rows = take p.board.count tokens in
    AllByRecursion (λ x. x.left ≤ p.span) rows × (sum_by (λ x. x.left) rows ≤ p.board.processors * p.span)

-- A plane of n tasks is over at its step n + 1 or before; once it is over, every token stands at 0.
abbrev pub OverInTime : Open → List Token → List Event → Type 0
OverInTime p tokens h =
    let n = p.board.count in
    let made = length (since_start h) in
    (made ≤ n + 1) × (made ≡ n + 1 → p.span ≡ 0) × (p.span ≡ 0 → AllByRecursion (λ x. x.left ≡ 0) (take n tokens))

-- A task's token has fallen from the share of so many ticks by the segments with its tag.
abbrev pub Paid : ℕ → ℕ → List Segment → Task → Token → Type 0
Paid scale ticks ss t x = (x.tag ≡ t.tag) × (x.left + run_by t.tag ss ≡ ticks * weight scale t)

-- The span has fallen by the segments since the start, and each token by those with its tag.
abbrev pub FallenBySegments : Open → Memory → List Event → Type 0
FallenBySegments p m h =
    let n = p.board.count in
    let ticks = p.end - p.board.tick in
    let ss = since_start h in
    (p.span + total ss ≡ ticks * p.board.scale)
    × Each (Paid p.board.scale ticks ss) (take n m.tasks) (take n m.tokens)

-- Of a board at rest.

-- At a task's release, its segments since admission add up to its execution time for each period gone.
abbrev pub ServedAtRelease : Rest → List Task → List Event → Type 0
ServedAtRelease b tasks h =
    AllByRecursion (λ t. (k : ℕ) → b.tick ≡ t.release + k * t.period
    → run_by t.tag (since_admission t.tag h) ≡ k * t.execution * b.scale)
    (take b.count tasks)

-- The board stands where its segments have brought it.
abbrev pub ClockIsTotal : Rest → List Event → Type 0
ClockIsTotal b h = b.tick * b.scale ≡ total (ran_in h)

-- Of all segments so far.

-- No segment has a task on two processors.
abbrev pub OneProcessorEach : List Event → Type 0
OneProcessorEach h = AllByRecursion (λ s. distinct s.row ≡ true) (ran_in h)

-- Each is one that a plan file can hold: a length of 1 to 2 ^ 54, a kind of 1 to 4, and no tag past the last processor.
abbrev pub FitsARecord : ℕ → List Event → Type 0
FitsARecord m h = AllByRecursion (Writable m) (ran_in h)

-- A segment starts where the one before it ended, the first at 0. Each starts later than the one before.
abbrev pub StartsLater : List Segment → Type 0
StartsLater [] = Unit {0}
StartsLater (s ∷ []) = Unit {0}
StartsLater (s ∷ (r ∷ ss)) = (total ss < total (r ∷ ss)) × StartsLater (r ∷ ss)

pub record SegmentsHold (m : ℕ) (h : List Event) : Type 0 where
  pub one_processor_each : OneProcessorEach h
  pub fits_a_record : FitsARecord m h
  pub starts_later : StartsLater (ran_in h)

-- What holds of a board at rest. Its memory fits, so that no call is refused for it but a start with too few token rows.
pub record RestHolds (b : Rest) (m : Memory) (h : List Event) : Type 0 where
  pub clock_is_total : ClockIsTotal b h
  pub served_at_release : ServedAtRelease b m.tasks h
  pub tasks_fit : tasks_fit b m.tasks ≡ true
  pub segments_hold : SegmentsHold b.processors h

-- What holds of an open plane. All its memory fits.
pub record PlaneHolds (p : Open) (m : Memory) (h : List Event) : Type 0 where
  pub ends_at_release : EndsAtRelease p m.tasks
  pub within_span : WithinSpan p m.tokens
  pub over_in_time : OverInTime p m.tokens h
  pub finish_ends : FinishEnds p m.tokens
  pub fallen_by_segments : FallenBySegments p m h
  pub tasks_fit : tasks_fit p.board m.tasks ≡ true
  pub tokens_fit : tokens_fit p m.tokens ≡ true
  pub segments_hold : SegmentsHold p.board.processors h

abbrev pub Holds : World → Type 0
Holds (resting b m h) = RestHolds b m h
Holds (running p m h) = PlaneHolds p m h

-- After every run of a board just opened, over any memory, each call of it accepted or refused.
abbrev pub RunsSound : ℕ → ℕ → Type 0
RunsSound m q =
    (b : Rest) (memory : Memory) (w : World) → opened m q ≡ Ok b → Run (resting b memory []) w → Holds w
