-- Writing and reading undo each other, for a record and for a whole file.
use Rattle.std.specs.Prelude.{◌≡◌, ℕ, ◌<◌, true, List, [], ◌∷◌, ◌++◌, length, take, Some, None, Ok, slice_index}
use Rattle.rows.specs.Tests.{distinct}
use Rattle.plan_file.specs.Records.{Segment, record_size, record_bytes, segment_at}
use Rattle.plan_file.specs.Heads.{head_of}
use Rattle.plan_file.specs.Writing.{header_size, header_fault, write_fault}
use Rattle.plan_file.specs.Reading.{next_answer, takes}
use Rattle.plan_file.specs.Opening.{file_processors, file_scale}
use Rattle.plan_file.specs.Files.{file_bytes, file_fault, file_segments}

-- each number is below a limit
abbrev pub Below : ℕ → List ℕ → Type 0
Below limit ns = (i : ℕ) → slice_index ns i < limit

-- a segment that may be written: 16 tags of 16 bits, none but 0 twice, and no fault where there is room
pub record Writable (m : ℕ) (s : Segment) : Type 0 where
  pub places : length s.row ≡ 16
  pub tags : Below 65536 s.row
  pub apart : distinct s.row ≡ true
  pub faultless : write_fault m s (record_size m) ≡ None

-- the next record reads as a segment
abbrev pub ReadsAs : ℕ → List ℕ → Segment → Type 0
ReadsAs m bs s = (next_answer m bs ≡ Ok (Some (head_of s))) × (segment_at m bs ≡ s)

-- a record that may be written reads back the same, whatever bytes follow it
abbrev pub WrittenReads : Type 0
WrittenReads = (m : ℕ) (s : Segment) (behind : List ℕ) → Writable m s → ReadsAs m (record_bytes m s ++ behind) s

-- a record that reads may be written, and gives the bytes that it was read from
abbrev pub ReadWrites : Type 0
ReadWrites = (m : ℕ) (bs : List ℕ) → Below 256 bs → takes m bs ≡ true →
    Writable m (segment_at m bs) × (record_bytes m (segment_at m bs) ≡ take (record_size m) bs)

-- each segment may be written
abbrev pub EachWritable : ℕ → List Segment → Type 0
EachWritable m [] = Unit {0}
EachWritable m (s ∷ ss) = Writable m s × EachWritable m ss

-- a file of a header and records that may be written reads to its end, and gives exactly its numbers and its segments
abbrev pub WrittenFileReads : Type 0
WrittenFileReads = (m scale : ℕ) (ss : List Segment) → header_fault m scale header_size ≡ None → EachWritable m ss →
    (file_fault (file_bytes m scale ss) ≡ None)
    × (file_processors (file_bytes m scale ss) ≡ m)
    × (file_scale (file_bytes m scale ss) ≡ scale)
    × (file_segments (file_bytes m scale ss) ≡ ss)

-- a file that reads to its end has segments that may be written, and is the file of them
abbrev pub ReadFileWrites : Type 0
ReadFileWrites = (file : List ℕ) → Below 256 file → file_fault file ≡ None →
    EachWritable (file_processors file) (file_segments file)
    × (file_bytes (file_processors file) (file_scale file) (file_segments file) ≡ file)
