use Rattle.model.proofs.Theorem.{runs_sound}
use Rattle.model.proofs.every_run_is_sound.Goals as goal

pub returns : goal.returns
returns c = runs_sound c.args.processors c.args.scale
