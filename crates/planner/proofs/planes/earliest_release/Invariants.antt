use Rattle.std.proofs.Common.{◌≡◌, drop}
use Rattle.rows.specs.Releases.{timely}
use Rattle.rows.specs.Tests.{all}
use Rattle.model.specs.Tables.{earliest}
use Rattle.planner.proofs.Releases.{least}
use Rattle.planner.proofs.planes.earliest_release.Given as goal

abbrev pub invariant-loop-task : goal.invariant-loop-task
invariant-loop-task l =
    (all (timely l.tick) (drop l.task-index l.others) ≡ all (timely l.tick) l.tasks)
    × (least l.tick l.«end» (drop l.task-index l.others) ≡ earliest l.tick l.tasks)
