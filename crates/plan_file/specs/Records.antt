-- A segment and its record in a plan file: length (8 bytes), kind (1), and a tag (2) for each of m processors.
use Rattle.std.specs.Prelude.{ℕ, zero, suc, ◌+◌, ◌-◌, ◌*◌, List, [], ◌∷◌, ◌++◌, take, drop, replicate, slice_index}
use Rattle.plan_file.specs.Bytes.{be16, be64, at16, first64}

-- the tags of 16 processors, with how long they ran and the kind of the event that ended it
pub record Segment : Type 0 where
  pub units : ℕ
  pub kind : ℕ
  pub row : List ℕ

abbrev pub record_size : ℕ → ℕ
record_size m = 9 + 2 * m

abbrev pub tag_bytes : List ℕ → List ℕ
tag_bytes [] = []
tag_bytes (t ∷ ts) = be16 t ++ tag_bytes ts

abbrev pub record_bytes : ℕ → Segment → List ℕ
record_bytes m s = be64 s.units ++ s.kind ∷ tag_bytes (take m s.row)

-- records one directly behind the other
abbrev pub records_bytes : ℕ → List Segment → List ℕ
records_bytes m [] = []
records_bytes m (s ∷ ss) = record_bytes m s ++ records_bytes m ss

-- the m tags with which bytes begin
abbrev pub tags_at : ℕ → List ℕ → List ℕ
tags_at zero bs = []
tags_at (suc m) bs = at16 bs 0 ∷ tags_at m (drop 2 bs)

-- the segment whose record stands at the front of bytes
abbrev pub segment_at : ℕ → List ℕ → Segment
segment_at m bs = record { units = first64 bs; kind = slice_index bs 8; row = tags_at m (drop 9 bs) ++ replicate (16 - m) 0 }

-- the segments of the first k records
abbrev pub segments_at : ℕ → ℕ → List ℕ → List Segment
segments_at m zero bs = []
segments_at m (suc k) bs = segment_at m bs ∷ segments_at m k (drop (record_size m) bs)
