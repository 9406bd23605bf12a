use Rattle.model.proofs.Finishes.{finish_over}
use Rattle.model.proofs.finish_ends_every_plane.Goals as goal

pub returns : goal.returns
returns c = finish_over
