use Rattle.std.proofs.Common.{◌≡◌, ◌+◌, ◌-◌, length, drop, None}
use Rattle.plan_file.specs.Opening.{open_fault, header_at, file_processors}
use Rattle.plan_file.specs.Files.{records_in, records_fault}
use Rattle.plan_file.proofs.whole.count_records.Given as goal

-- what is left has the faults of the file, and with the count its records
abbrev pub invariant-loop-count : goal.invariant-loop-count
invariant-loop-count l =
    (open_fault l.file ≡ None)
    × (l.reader.bytes.now ≡ l.file)
    × (l.reader.header ≡ header_at l.file)
    × (records_fault (file_processors l.file) (drop l.reader.place l.file) ≡ records_fault (file_processors l.file) (drop 10 l.file))
    × (l.count + records_in (file_processors l.file) (drop l.reader.place l.file) ≡ records_in (file_processors l.file) (drop 10 l.file))

abbrev pub decreases-loop-count : goal.decreases-loop-count
decreases-loop-count l = length l.file - l.reader.place
