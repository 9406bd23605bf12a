use Rattle.std.proofs.Common.{sym, ap}
use Rattle.rows.specs.Words.{kind_words}
use Rattle.rows.proofs.kind.Kind.words.Goals as goal

pub returns-in-Bottom : goal.returns-in-Bottom
returns-in-Bottom c = sym (ap kind_words c.in-Bottom.is)

pub returns-in-Ceiling : goal.returns-in-Ceiling
returns-in-Ceiling c = sym (ap kind_words c.in-Ceiling.is)

pub returns-in-Both : goal.returns-in-Both
returns-in-Both c = sym (ap kind_words c.in-Both.is)

pub returns-in-PlaneEnd : goal.returns-in-PlaneEnd
returns-in-PlaneEnd c = sym (ap kind_words c.in-PlaneEnd.is)
