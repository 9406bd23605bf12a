-- What stands before the tags in a record.
use Rattle.std.specs.Prelude.{ℕ, List, None, Option, slice_index}
use Rattle.rows.specs.declared.refusal.Refusal.{Refusal}
use Rattle.rows.specs.declared.refusal.Refusal.TheVariants.{Length, Kind}
use Rattle.rows.specs.declared.event.Event.{Event}
use Rattle.rows.specs.Kinds.{kind_number}
use Rattle.rows.specs.Limits.{longest_span}
use Rattle.rows.specs.Tests.{within}
use Rattle.plan_file.specs.declared.record.RecordHead.{RecordHead}
use Rattle.plan_file.specs.Bytes.{first64}
use Rattle.plan_file.specs.Records.{Segment}
use Rattle.plan_file.specs.Faults.{unless}

-- the segment of a head and the places of a row
abbrev pub segment : RecordHead → List ℕ → Segment
segment head places = record { units = head.length; kind = head.kind; row = places }

abbrev pub head_of : Segment → RecordHead
head_of s = record { length = s.units; kind = s.kind }

-- the head with which bytes begin
abbrev pub head_at : List ℕ → RecordHead
head_at bs = record { length = first64 bs; kind = slice_index bs 8 }

-- what is wrong with a length or a kind
abbrev pub head_fault : RecordHead → Option Refusal
head_fault head = unless (within 1 longest_span head.length) Length (unless (within 1 4 head.kind) Kind None)

-- the head with which an event is written
abbrev pub event_head : Event → RecordHead
event_head event = record { length = event.length; kind = kind_number event.kind }
