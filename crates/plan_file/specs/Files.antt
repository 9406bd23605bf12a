-- Whole plan files, read to their end.
use Rattle.std.specs.Prelude.{ℕ, zero, suc, ◌/◌, cond, List, ◌++◌, length, drop, None, Option, ◌==◌, nat_le}
use Rattle.rows.specs.declared.refusal.Refusal.{Refusal}
use Rattle.rows.specs.declared.refusal.Refusal.TheVariants.{BufferShort}
use Rattle.plan_file.specs.Records.{Segment, record_size, records_bytes, segments_at}
use Rattle.plan_file.specs.Faults.{unless, or_else}
use Rattle.plan_file.specs.Writing.{header_size, header_bytes}
use Rattle.plan_file.specs.Reading.{read_fault}
use Rattle.plan_file.specs.Opening.{open_fault, file_processors}

-- a file of these segments
abbrev pub file_bytes : ℕ → ℕ → List Segment → List ℕ
file_bytes m scale ss = header_bytes m scale ++ records_bytes m ss

-- how many whole records fit into bytes
abbrev pub records_in : ℕ → List ℕ → ℕ
records_in m bs = length bs / record_size m

-- the first fault when records are read k times
abbrev pub reads_fault : ℕ → ℕ → List ℕ → Option Refusal
reads_fault m zero bs = None
reads_fault m (suc k) bs =
    cond (length bs == 0) None (or_else (read_fault m bs) (reads_fault m k (drop (record_size m) bs)))

-- the first fault when records are read to the end: one read more than there are whole records
abbrev pub records_fault : ℕ → List ℕ → Option Refusal
records_fault m bs = reads_fault m (suc (records_in m bs)) bs

-- the first fault of a file that is opened and read to its end
abbrev pub file_fault : List ℕ → Option Refusal
file_fault file = or_else (open_fault file) (records_fault (file_processors file) (drop header_size file))

-- how many records a file has
abbrev pub file_records : List ℕ → ℕ
file_records file = records_in (file_processors file) (drop header_size file)

-- the segments of a file
abbrev pub file_segments : List ℕ → List Segment
file_segments file = segments_at (file_processors file) (file_records file) (drop header_size file)

-- why a file cannot be read to its end and written again into so many bytes
abbrev pub rewrite_fault : List ℕ → ℕ → Option Refusal
rewrite_fault file room = or_else (file_fault file) (unless (nat_le (length file) room) BufferShort None)
