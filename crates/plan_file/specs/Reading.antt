-- Reading the record with which the bytes that are left begin.
use Rattle.std.specs.Prelude.{ℕ, Bool, cond, not, ◌&&◌, List, length, is_some, Some, None, Ok, Option, Result, ◌==◌, nat_le}
use Rattle.std.specs.Option.{option_map}
use Rattle.rows.specs.declared.event.Event.{Event}
use Rattle.rows.specs.declared.refusal.Refusal.{Refusal}
use Rattle.rows.specs.declared.refusal.Refusal.TheVariants.{Processors, RecordShort, TagTwice}
use Rattle.rows.specs.Limits.{most_processors}
use Rattle.rows.specs.Tests.{within, distinct}
use Rattle.plan_file.specs.declared.record.RecordHead.{RecordHead}
use Rattle.plan_file.specs.Records.{record_size, segment_at}
use Rattle.plan_file.specs.Faults.{unless, or_else, answered, answer_map}
use Rattle.plan_file.specs.Heads.{head_at, head_fault, event_head}

-- why no record can be read from the front of bytes
abbrev pub read_fault : ℕ → List ℕ → Option Refusal
read_fault m bs =
    unless (within 1 most_processors m) Processors
    (unless (nat_le (record_size m) (length bs)) RecordShort
    (or_else (head_fault (head_at bs)) (unless (distinct (segment_at m bs).row) TagTwice None)))

-- what reading the next record answers where these bytes are left: none where there is no byte
abbrev pub next_answer : ℕ → List ℕ → Result (Option RecordHead) Refusal
next_answer m bs = cond (length bs == 0) (Ok None) (answered (read_fault m bs) (Some (head_at bs)))

-- what the reader answers, with the heads of its events
abbrev pub in_heads : Result (Option Event) Refusal → Result (Option RecordHead) Refusal
in_heads = answer_map (option_map event_head)

-- whether it takes a record
abbrev pub takes : ℕ → List ℕ → Bool
takes m bs = not (length bs == 0) && not (is_some (read_fault m bs))

-- the places of the caller's row after it
abbrev pub row_after : ℕ → List ℕ → List ℕ → List ℕ
row_after m bs before = cond (takes m bs) (segment_at m bs).row before

-- by how much the reader moves on
abbrev pub taken_size : ℕ → List ℕ → ℕ
taken_size m bs = cond (takes m bs) (record_size m) 0
