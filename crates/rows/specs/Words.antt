-- The words for each refusal and each kind of event.
use Rattle.std.specs.Prelude.{ℕ, List, codes}
use Rattle.rows.specs.declared.refusal.Refusal.{Refusal}
use Rattle.rows.specs.declared.refusal.Refusal.TheVariants.{Processors, Scale, Memory, TagZero, Execution, Period, TagPresent, TasksFull, Overload, TagAbsent, NotReleased, NoTask, PastLastTick, PlaneOver, BufferShort, PlaneOpen, Places, QueueFull, TableShort, Mark, Version, TableLength, NoPlanes, TaskCount, PlanBuffer, PlanShort, RecordShort, Length, Kind as KindRefused, TagTwice, TagPastProcessors}
use Rattle.rows.specs.declared.kind.Kind.{Kind}
use Rattle.rows.specs.declared.kind.Kind.TheVariants.{Bottom, Ceiling, Both, PlaneEnd}

abbrev pub refusal_words : Refusal → List ℕ
refusal_words Processors = codes "the number of processors is not 1 to 16"
refusal_words Scale = codes "the scale is not 1 to 134217728"
refusal_words Memory = codes "the lent rows do not fit"
refusal_words TagZero = codes "the tag is 0"
refusal_words Execution = codes "the execution time is 0 or above the period"
refusal_words Period = codes "the period does not divide the scale"
refusal_words TagPresent = codes "the tag is on the board already"
refusal_words TasksFull = codes "there is no room for a further task"
refusal_words Overload = codes "the load would pass what the processors can do"
refusal_words TagAbsent = codes "the tag is not on the board"
refusal_words NotReleased = codes "the present tick is no release of the task"
refusal_words NoTask = codes "the board has no task"
refusal_words PastLastTick = codes "the plane would end past the last tick"
refusal_words PlaneOver = codes "the plane is over"
refusal_words BufferShort = codes "the buffer is too short for the records"
refusal_words PlaneOpen = codes "the plane is not over"
refusal_words Places = codes "too many places are asked for, or the memory of the queue is too short"
refusal_words QueueFull = codes "the queue is full"
refusal_words TableShort = codes "the file is shorter than the header of a table"
refusal_words Mark = codes "the file does not begin with its three letters"
refusal_words Version = codes "the file has another version"
refusal_words TableLength = codes "the length of the table is not that of its rows"
refusal_words NoPlanes = codes "the table asks for no plane"
refusal_words TaskCount = codes "the table has no row or more than 256"
refusal_words PlanBuffer = codes "the buffer is too short for the whole plan"
refusal_words PlanShort = codes "the file is shorter than the header of a plan"
refusal_words RecordShort = codes "the bytes left are fewer than a record"
refusal_words Length = codes "the length of the record is 0 or above 2^54"
refusal_words KindRefused = codes "the kind of the record is not 1 to 4"
refusal_words TagTwice = codes "a tag stands twice in the row"
refusal_words TagPastProcessors = codes "a tag stands past the last processor"

abbrev pub kind_words : Kind → List ℕ
kind_words Bottom = codes "a running task is done for this plane"
kind_words Ceiling = codes "a waiting task must run from here on"
kind_words Both = codes "a running task is done for this plane and a waiting one must run from here on"
kind_words PlaneEnd = codes "the plane is over"
