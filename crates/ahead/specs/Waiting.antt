-- The releases that wait in the queue: for each task the first one past what is listed.
use Rattle.std.specs.Prelude.{◌≡◌, ℕ, ◌+◌, ◌*◌, ◌<◌, ◌≤◌, Bool, true, List, count_by, Option, nat_eq}
use Rattle.std.specs.declared.cmp.Ordering.{Ordering}
use Rattle.std.specs.Cmp.{IsTotalOrder, nat_cmp_total, on_total, then_total}
use Rattle.std.specs.Ordering.{nat_cmp, ordering_then}
use Rattle.std.specs.List.{AllByRecursion}
use Rattle.rows.specs.declared.memory.Task.{Task}
use Rattle.rows.specs.Tests.{rising}
use Rattle.model.specs.Members.{In}
use Rattle.model.specs.Tables.{tags, next_release}
use Rattle.ahead.specs.declared.release.Release.{Release}
use Rattle.ahead.specs.declared.release.Due.{Due}
use Rattle.ahead.specs.Ahead.{release_of, past}

-- what `cmp` answers for two of them: by tick, then by tag, and then by period
abbrev pub compared : Due → Due → Ordering
compared x y = ordering_then (nat_cmp x.tick y.tick) (ordering_then (nat_cmp x.tag y.tag) (nat_cmp x.period y.period))

-- it is an order
abbrev pub by_tick : IsTotalOrder compared
by_tick =
    then_total (on_total (λ (d : Due). d.tick) nat_cmp_total)
    (then_total (on_total (λ (d : Due). d.tag) nat_cmp_total) (on_total (λ (d : Due). d.period) nat_cmp_total))

-- a task's first release after a tick
abbrev pub first_due : ℕ → Task → Due
first_due tick t = record { tick = next_release tick t; tag = t.tag; period = t.period }

-- the release that waits
abbrev pub release : Due → Release
release d = record { tick = d.tick; tag = d.tag }

-- the task's next one
abbrev pub later : Due → Due
later d = record { tick = d.tick + d.period; tag = d.tag; period = d.period }

-- d is the task's first release past p
pub record FirstDue (tick : ℕ) (p : Option Release) (t : Task) (d : Due) : Type 0 where
  pub tag : d.tag ≡ t.tag
  pub period : d.period ≡ t.period
  pub turns : ℕ
  pub at : d.tick ≡ t.release + turns * t.period
  pub after : past tick p (release d) ≡ true
  pub first : (k : ℕ) → past tick p (release_of t k) ≡ true → d.tick ≤ t.release + k * t.period

-- tasks of different tags, each with a period
pub record Table (ts : List Task) : Type 0 where
  pub apart : rising (tags ts) ≡ true
  pub periods : AllByRecursion (λ t. 0 < t.period) ts

-- each that waits is the first one of a task, each task has one that waits, and no tag waits twice
pub record Waiting (ts : List Task) (tick : ℕ) (p : Option Release) (hs : List Due) : Type 0 where
  pub each : AllByRecursion (λ d. (t : Task) × In t ts × FirstDue tick p t d) hs
  pub some : (t : Task) → In t ts → (P : Due → Bool) → AllByRecursion (λ d. P d ≡ true) hs → (d : Due) × FirstDue tick p t d × (P d ≡ true)
  pub once : (g : ℕ) → count_by (λ d. nat_eq d.tag g) hs ≤ 1
