use Rattle.std.proofs.Common.{refl}
use Rattle.cases.proofs.Releases.{releases_are_ahead}
use Rattle.cases.proofs.worked_cases_come_out.Goals as goal

-- by computing the definitions
pub returns : goal.returns
returns c = record { cases = refl; ahead = releases_are_ahead }
