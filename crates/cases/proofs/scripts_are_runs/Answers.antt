use Rattle.std.proofs.Common.{refl}
use Rattle.cases.proofs.Played.{scripts_are_runs}
use Rattle.cases.proofs.scripts_are_runs.Goals as goal

pub returns : goal.returns
returns c = record { scripts = scripts_are_runs; worked = refl }
