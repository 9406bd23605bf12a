use Rattle.std.proofs.Common.{◌≡◌, ◌-◌, ◌≤◌, ◌++◌, length, take, drop, None}
use Rattle.plan_file.specs.Opening.{header_at, file_processors}
use Rattle.plan_file.specs.Files.{records_fault}
use Rattle.plan_file.proofs.whole.write_again.Given as goal

-- what was read is written, and what is left has no fault
abbrev pub invariant-loop-event : goal.invariant-loop-event
invariant-loop-event l =
    (l.reader.bytes.now ≡ l.file)
    × (l.reader.header ≡ header_at l.file)
    × (l.processors ≡ file_processors l.file)
    × (l.at ≡ l.reader.place)
    × (l.at ≤ length l.file)
    × (records_fault (file_processors l.file) (drop l.at l.file) ≡ None)
    × (l.out ≡ take l.at l.file ++ drop l.at l.initial.out)

abbrev pub decreases-loop-event : goal.decreases-loop-event
decreases-loop-event l = length l.file - l.reader.place
