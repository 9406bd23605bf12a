-- Segments of steps, and their records in a plan buffer.
use Rattle.std.specs.Prelude.{ℕ, List, ◌++◌, length, drop}
use Rattle.rows.specs.declared.row.Row.{Row}
use Rattle.rows.specs.Kinds.{kind_number}
use Rattle.plan_file.specs.Records.{Segment, records_bytes}
use Rattle.rows.specs.declared.event.Event.{Event}

-- from a step's answer and the row that it filled
abbrev pub segment_of : Event → Row → Segment
segment_of e row = record { units = e.length; kind = kind_number e.kind; row = row.places }

-- their records in front of a buffer, and the rest of it
abbrev pub written : ℕ → List Segment → List ℕ → List ℕ
written m ss buffer = records_bytes m ss ++ drop (length (records_bytes m ss)) buffer
