use Rattle.std.proofs.Common.{sym, ap}
use Rattle.rows.specs.Words.{refusal_words}
use Rattle.rows.proofs.refusal.Refusal.words.Goals as goal

pub returns-in-Processors : goal.returns-in-Processors
returns-in-Processors c = sym (ap refusal_words c.in-Processors.is)

pub returns-in-Scale : goal.returns-in-Scale
returns-in-Scale c = sym (ap refusal_words c.in-Scale.is)

pub returns-in-TasksFull : goal.returns-in-TasksFull
returns-in-TasksFull c = sym (ap refusal_words c.in-TasksFull.is)

pub returns-in-PastLastTick : goal.returns-in-PastLastTick
returns-in-PastLastTick c = sym (ap refusal_words c.in-PastLastTick.is)

pub returns-in-PlaneOver : goal.returns-in-PlaneOver
returns-in-PlaneOver c = sym (ap refusal_words c.in-PlaneOver.is)

pub returns-in-PlaneOpen : goal.returns-in-PlaneOpen
returns-in-PlaneOpen c = sym (ap refusal_words c.in-PlaneOpen.is)

pub returns-in-Places : goal.returns-in-Places
returns-in-Places c = sym (ap refusal_words c.in-Places.is)

pub returns-in-QueueFull : goal.returns-in-QueueFull
returns-in-QueueFull c = sym (ap refusal_words c.in-QueueFull.is)

pub returns-in-TableShort : goal.returns-in-TableShort
returns-in-TableShort c = sym (ap refusal_words c.in-TableShort.is)

pub returns-in-Version : goal.returns-in-Version
returns-in-Version c = sym (ap refusal_words c.in-Version.is)

pub returns-in-PlanBuffer : goal.returns-in-PlanBuffer
returns-in-PlanBuffer c = sym (ap refusal_words c.in-PlanBuffer.is)

pub returns-in-PlanShort : goal.returns-in-PlanShort
returns-in-PlanShort c = sym (ap refusal_words c.in-PlanShort.is)

pub returns-in-RecordShort : goal.returns-in-RecordShort
returns-in-RecordShort c = sym (ap refusal_words c.in-RecordShort.is)

pub returns-in-Kind : goal.returns-in-Kind
returns-in-Kind c = sym (ap refusal_words c.in-Kind.is)

pub returns-in-TagTwice : goal.returns-in-TagTwice
returns-in-TagTwice c = sym (ap refusal_words c.in-TagTwice.is)

pub returns-in-TagPastProcessors : goal.returns-in-TagPastProcessors
returns-in-TagPastProcessors c = sym (ap refusal_words c.in-TagPastProcessors.is)
