use Rattle.model.proofs.Largest.{largest_first_is_llref}
use Rattle.model.proofs.largest_first_is_llref.Goals as goal

pub returns : goal.returns
returns c = largest_first_is_llref
