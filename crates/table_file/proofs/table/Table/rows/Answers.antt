use Rattle.std.proofs.Common.{ap, ◌∙◌}
use Rattle.std.proofs.lemmas.List.{take_rest}
use Rattle.table_file.specs.Left.{rows_in}
use Rattle.table_file.proofs.TableRows.{rows_behind}
use Rattle.table_file.proofs.table.Table.rows.Goals as goal

pub returns : goal.returns
returns c = ap rows_in (take_rest c.args.self.now.bytes.now 14) ∙ rows_behind c.args.self.now.bytes.now c.args.self.now.whole
