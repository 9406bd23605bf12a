-- The releases after a tick, in order of tick and then of tag.
use Rattle.std.specs.Prelude.{◌≡◌, ℕ, zero, suc, ◌+◌, ◌*◌, ◌<◌, Bool, true, false, ◌&&◌, ◌||◌, List, length, Some, None, Ok, Option, Result, ◌==◌, nat_le, nat_lt, slice_index_or}
use Rattle.rows.specs.declared.memory.Task.{Task}
use Rattle.rows.specs.declared.refusal.Refusal.{Refusal}
use Rattle.rows.specs.declared.refusal.Refusal.TheVariants.{Memory, NoTask, Places}
use Rattle.rows.specs.Tests.{rising, all}
use Rattle.model.specs.Members.{In}
use Rattle.model.specs.State.{unless}
use Rattle.model.specs.Tables.{tags}
use Rattle.ahead.specs.declared.release.Release.{Release}
pub use Rattle.rows.specs.Releases.{timely}

-- places of a list at the most
abbrev pub most_places : ℕ
most_places = 65536

-- whether so many places and so much queue memory serve
abbrev pub answer_ahead : List Task → ℕ → ℕ → ℕ → Result (Unit {0}) Refusal
answer_ahead ts tick memory places =
    unless (rising (tags ts) && all (timely tick) ts) Memory
    (unless (nat_lt 0 (length ts)) NoTask
    (unless (nat_le places most_places && nat_le (length ts) memory) Places
    (Ok tt)))

-- a task's release after so many periods
abbrev pub release_of : Task → ℕ → Release
release_of t turns = record { tick = t.release + turns * t.period; tag = t.tag }

-- x is a release of one of the tasks
abbrev pub Released : List Task → Release → Type 0
Released ts x = (t : Task) × (turns : ℕ) × In t ts × (x ≡ release_of t turns)

-- x comes before y: by tick, and then by tag
abbrev pub sooner : Release → Release → Bool
sooner x y = nat_lt x.tick y.tick || (x.tick == y.tick && nat_lt x.tag y.tag)

-- x comes after the release p, or after the tick where there is none
abbrev pub past : ℕ → Option Release → Release → Bool
past tick None x = nat_lt tick x.tick
past tick (Some p) x = sooner p x

-- x is the first release past p
pub record Next (ts : List Task) (tick : ℕ) (p : Option Release) (x : Release) : Type 0 where
  pub released : Released ts x
  pub after : past tick p x ≡ true
  pub first : (y : Release) → Released ts y → past tick p y ≡ true → sooner y x ≡ false

abbrev pub blank : Release
blank = record { tick = 0; tag = 0 }

-- what is listed before place k
abbrev pub previous : List Release → ℕ → Option Release
previous ls zero = None
previous ls (suc k) = Some (slice_index_or ls k blank)

-- each place has the first release past the one before it
abbrev pub Ahead : List Task → ℕ → List Release → Type 0
Ahead ts tick ls = (k : ℕ) → k < length ls → Next ts tick (previous ls k) (slice_index_or ls k blank)
