-- Opening a plan file: the letters KPL, the version (2 bytes), the processors (1) and the scale (4).
use Rattle.std.specs.Prelude.{ℕ, Bool, ◌&&◌, List, length, None, Option, ◌==◌, nat_le, slice_index}
use Rattle.rows.specs.declared.refusal.Refusal.{Refusal}
use Rattle.rows.specs.declared.refusal.Refusal.TheVariants.{PlanShort, Mark, Version, Processors, Scale}
use Rattle.rows.specs.Limits.{most_processors, largest_scale}
use Rattle.rows.specs.Tests.{within}
use Rattle.plan_file.specs.declared.header.Header.{Header}
use Rattle.plan_file.specs.Bytes.{at16, at32}
use Rattle.plan_file.specs.Faults.{unless}
use Rattle.plan_file.specs.Writing.{header_size}

-- the letters KPL
abbrev pub plan_marked : List ℕ → Bool
plan_marked bs = slice_index bs 0 == 75 && (slice_index bs 1 == 80 && slice_index bs 2 == 76)

abbrev pub file_processors : List ℕ → ℕ
file_processors bs = slice_index bs 5

abbrev pub file_scale : List ℕ → ℕ
file_scale bs = at32 bs 6

-- the numbers of a file's header
abbrev pub header_at : List ℕ → Header
header_at bs = record { processors = file_processors bs; scale = file_scale bs }

-- why bytes cannot be opened as a plan file
abbrev pub open_fault : List ℕ → Option Refusal
open_fault bs =
    unless (nat_le header_size (length bs)) PlanShort
    (unless (plan_marked bs) Mark
    (unless (at16 bs 3 == 1) Version
    (unless (within 1 most_processors (file_processors bs)) Processors
    (unless (within 1 largest_scale (file_scale bs)) Scale None))))
