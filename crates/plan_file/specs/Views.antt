-- What a reader still has before it.
use Rattle.std.specs.Prelude.{ℕ, List, drop}
use Rattle.plan_file.specs.declared.reader.PlanReader.{PlanReader}

-- the bytes from the reader's place on
abbrev pub left : PlanReader → List ℕ
left reader = drop reader.place reader.bytes.now
