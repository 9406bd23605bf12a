-- Writing the header and the records of a plan file.
use Rattle.std.specs.Prelude.{ℕ, List, ◌∷◌, drop, None, Option, nat_eq, nat_le}
use Rattle.rows.specs.declared.refusal.Refusal.{Refusal}
use Rattle.rows.specs.declared.refusal.Refusal.TheVariants.{Processors, Scale, BufferShort, TagPastProcessors}
use Rattle.rows.specs.Limits.{most_processors, largest_scale}
use Rattle.rows.specs.Tests.{within, all}
use Rattle.plan_file.specs.Bytes.{be32}
use Rattle.plan_file.specs.Records.{Segment, record_size}
use Rattle.plan_file.specs.Faults.{unless, or_else}
use Rattle.plan_file.specs.Heads.{head_of, head_fault}

abbrev pub header_size : ℕ
header_size = 10

-- the letters KPL, version 1, the processors and the scale
abbrev pub header_bytes : ℕ → ℕ → List ℕ
header_bytes m scale = 75 ∷ 80 ∷ 76 ∷ 0 ∷ 1 ∷ m ∷ be32 scale

-- why a header cannot be written into so many bytes
abbrev pub header_fault : ℕ → ℕ → ℕ → Option Refusal
header_fault m scale room =
    unless (within 1 most_processors m) Processors
    (unless (within 1 largest_scale scale) Scale
    (unless (nat_le header_size room) BufferShort None))

-- why a segment's record cannot be written into so many bytes
abbrev pub write_fault : ℕ → Segment → ℕ → Option Refusal
write_fault m s room =
    unless (within 1 most_processors m) Processors
    (or_else (head_fault (head_of s))
    (unless (all (λ t. nat_eq t 0) (drop m s.row)) TagPastProcessors
    (unless (nat_le (record_size m) room) BufferShort None)))
