use Rattle.std.proofs.Common.{arith}
use Rattle.std.proofs.lemmas.List.{places}
use Rattle.std.proofs.lemmas.Bool.Decides.{nat_tests}
use Rattle.table_file.proofs.table.Table.row.Goals as goal

pub returns : goal.returns
returns c = grind (arith, nat_tests, places)
