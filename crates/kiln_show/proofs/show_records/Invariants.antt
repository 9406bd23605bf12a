use Rattle.std.proofs.Common.{◌-◌, length}
use Rattle.kiln_show.proofs.show_records.Given as goal

abbrev pub decreases-loop-event : goal.decreases-loop-event
decreases-loop-event l = length l.reader.bytes.now - l.reader.place
