-- The number of each refusal.
use Rattle.std.specs.Prelude.{ℕ}
use Rattle.rows.specs.declared.refusal.Refusal.{Refusal}
use Rattle.rows.specs.declared.refusal.Refusal.TheVariants.{Processors, Scale, Memory, TagZero, Execution, Period, TagPresent, TasksFull, Overload, TagAbsent, NotReleased, NoTask, PastLastTick, PlaneOver, BufferShort, PlaneOpen, Places, QueueFull, TableShort, Mark, Version, TableLength, NoPlanes, TaskCount, PlanBuffer, PlanShort, RecordShort, Length, Kind, TagTwice, TagPastProcessors}

abbrev pub refusal_number : Refusal → ℕ
refusal_number Processors = 1
refusal_number Scale = 2
refusal_number Memory = 3
refusal_number TagZero = 4
refusal_number Execution = 5
refusal_number Period = 6
refusal_number TagPresent = 7
refusal_number TasksFull = 8
refusal_number Overload = 9
refusal_number TagAbsent = 10
refusal_number NotReleased = 11
refusal_number NoTask = 12
refusal_number PastLastTick = 13
refusal_number PlaneOver = 15
refusal_number BufferShort = 16
refusal_number PlaneOpen = 17
refusal_number Places = 18
refusal_number QueueFull = 19
refusal_number TableShort = 20
refusal_number Mark = 21
refusal_number Version = 22
refusal_number TableLength = 23
refusal_number NoPlanes = 24
refusal_number TaskCount = 25
refusal_number PlanBuffer = 26
refusal_number PlanShort = 30
refusal_number RecordShort = 31
refusal_number Length = 32
refusal_number Kind = 33
refusal_number TagTwice = 34
refusal_number TagPastProcessors = 35
