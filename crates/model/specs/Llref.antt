-- LLREF in its own words: those with the most time left run, until the first of them is used up or one that waits meets the ceiling.
use Rattle.std.specs.Prelude.{◌≡◌, ℕ, ◌+◌, ◌-◌, ◌<◌, ◌≤◌, min, Bool, true, false, ◌⊎◌, List, map, take, Ok, count_by, slice_index}
use Rattle.rows.specs.declared.kind.Kind.TheVariants.{Bottom, Ceiling, Both, PlaneEnd}
use Rattle.rows.specs.declared.memory.Token.{Token}
use Rattle.rows.specs.Kinds.{kind_number}
use Rattle.rows.specs.Tests.{has, distinct}
use Rattle.rules.specs.Keys.{largest_first}
use Rattle.plan_file.specs.Records.{Segment}
use Rattle.model.specs.State.{Open}
use Rattle.model.specs.Steps.{active}
use Rattle.model.specs.Planes.{AfterStep, stepped, segment_of}
use Rattle.model.specs.Members.{In, Each}
use Rattle.model.specs.Fitting.{Widths}

-- a token runs in a segment if the row has its tag, and waits otherwise
abbrev pub runs : Segment → Token → Bool
runs s x = has x.tag s.row

-- Who runs: as many active tokens as there are processors, or all; none with less time left than an active one that waits, ties to the lower tag.
pub record LargestRun (m : ℕ) (s : Segment) (ts : List Token) : Type 0 where
  pub only_active : (x : Token) → In x ts → runs s x ≡ true → active x ≡ true
  pub as_many : count_by (runs s) ts ≡ min m (count_by active ts)
  pub largest : (x y : Token) → In x ts → In y ts → runs s x ≡ true → runs s y ≡ false → active y ≡ true
      → (y.left < x.left) ⊎ ((y.left ≡ x.left) × (x.tag < y.tag))

-- one that runs is used up just when the segment ends
abbrev pub UsedUp : Segment → List Token → Type 0
UsedUp s ts = (x : Token) × In x ts × (runs s x ≡ true) × (x.left ≡ s.units)

-- one that waits has just then as much time left as the plane
abbrev pub MeetsCeiling : ℕ → Segment → List Token → Type 0
MeetsCeiling span s ts = (x : Token) × In x ts × (runs s x ≡ false) × (x.left + s.units ≡ span)

-- How long: until the first event.
pub record FirstEvent (span : ℕ) (s : Segment) (ts : List Token) : Type 0 where
  pub some_time : 0 < s.units
  pub none_sooner : (x : Token) → In x ts → (runs s x ≡ true → s.units ≤ x.left) × (runs s x ≡ false → x.left + s.units ≤ span)
  pub one_then : (s.units ≡ span) ⊎ (UsedUp s ts ⊎ MeetsCeiling span s ts)

-- What it is called: one of these four applies.
pub record EventNamed (span : ℕ) (s : Segment) (ts : List Token) : Type 0 where
  pub plane_end : s.units ≡ span → s.kind ≡ kind_number PlaneEnd
  pub bottom : s.units < span → UsedUp s ts → (MeetsCeiling span s ts → ⊥) → s.kind ≡ kind_number Bottom
  pub ceiling : s.units < span → (UsedUp s ts → ⊥) → MeetsCeiling span s ts → s.kind ≡ kind_number Ceiling
  pub both : s.units < span → UsedUp s ts → MeetsCeiling span s ts → s.kind ≡ kind_number Both

-- A token x after the segment, u: one that waited has the same time left and no processor. One that ran has fallen by the length
-- and stands where the row has it: on the processor that it had, or else on the lowest that is not kept and that no lower tag takes.
pub record AfterSegment (m : ℕ) (ts : List Token) (s : Segment) (x u : Token) : Type 0 where
  pub same_tag : u.tag ≡ x.tag
  pub waited : runs s x ≡ false → (u.left ≡ x.left) × (u.processor ≡ 0)
  pub fell : runs s x ≡ true → u.left + s.units ≡ x.left
  pub in_row : runs s x ≡ true → (1 ≤ u.processor) × (u.processor ≤ m) × (slice_index s.row (u.processor - 1) ≡ x.tag)
  pub stayed : runs s x ≡ true → 0 < x.processor → u.processor ≡ x.processor
  pub lowest : runs s x ≡ true → x.processor ≡ 0 → (q : ℕ) → 1 ≤ q → q < u.processor
      → (y : Token) × In y ts × (slice_index s.row (q - 1) ≡ y.tag) × ((y.processor ≡ q) ⊎ ((y.processor ≡ 0) × (y.tag < x.tag)))

-- LLREF's step, from a span and tokens over a segment to tokens.
pub record LlrefStep (m span : ℕ) (ts : List Token) (s : Segment) (us : List Token) : Type 0 where
  pub who : LargestRun m s ts
  pub how_long : FirstEvent span s ts
  pub event : EventNamed span s ts
  pub after : Each (AfterSegment m ts s) ts us
  pub own_processors : distinct (map (λ u. u.processor) us) ≡ true

-- Every step that is accepted under "largest first" is LLREF's.
abbrev pub LargestFirstIsLlref : Type 0
LargestFirstIsLlref =
    (p : Open) (memory : List Token) → Widths p memory → (r : AfterStep) → stepped p memory largest_first ≡ Ok r
    → let n = p.board.count in
    LlrefStep p.board.processors p.span (take n memory) (segment_of r) (take n r.0.1)
    × (r.0.0.span + r.1.0 ≡ p.span)
