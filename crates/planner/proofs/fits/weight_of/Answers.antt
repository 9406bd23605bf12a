use Rattle.planner.proofs.Weights.{divide_first}
use Rattle.planner.proofs.fits.weight_of.Goals as goal

pub returns : goal.returns
returns c = divide_first c.args.task.now.execution c.args.scale c.args.task.now.period c.requires.1
