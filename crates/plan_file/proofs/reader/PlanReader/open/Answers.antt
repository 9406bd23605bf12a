use Rattle.plan_file.proofs.Undo.{written_reads, read_writes}
use Rattle.plan_file.proofs.WholeFile.{written_file_reads, read_file_writes}
use Rattle.plan_file.proofs.reader.PlanReader.open.Goals as goal

pub returns-in_err-header-clause-records : goal.returns-in_err-header-clause-records
returns-in_err-header-clause-records c = (written_reads, read_writes)

pub returns-in_err-header-clause-files : goal.returns-in_err-header-clause-files
returns-in_err-header-clause-files c = (written_file_reads, read_file_writes)

pub returns-clause-records : goal.returns-clause-records
returns-clause-records c = (written_reads, read_writes)

pub returns-clause-files : goal.returns-clause-files
returns-clause-files c = (written_file_reads, read_file_writes)
