use Rattle.std.proofs.Common.{rules}
use Rattle.std.proofs.iter.runs.Made.{chains}
use Rattle.whole_plan.proofs.ends.shortest.Goals as goal

pub returns : goal.returns
returns c = search (rules, chains)
