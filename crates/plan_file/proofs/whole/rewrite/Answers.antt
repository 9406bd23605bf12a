use Rattle.std.proofs.Common.{◌≡◌, length, None, arith}
use Rattle.plan_file.specs.Files.{file_fault, file_records}
use Rattle.plan_file.proofs.Fault.{fault_none}
use Rattle.plan_file.proofs.Copied.{rewrite_short, rewrite_fine}
use Rattle.plan_file.proofs.whole.rewrite.Goals as goal
use Rattle.plan_file.proofs.whole.rewrite.Goals.{In_ok-count_records}

faultless : (c : In_ok-count_records) → file_fault c.args.file.now ≡ None
faultless c = fault_none _ c.in_ok-count_records.field-0 (file_records c.args.file.now) c.in_ok-count_records.ensures

pub returns-then-out-file-clause-answer : goal.returns-then-out-file-clause-answer
returns-then-out-file-clause-answer c =
    rewrite_short c.args.file.now (length c.args.out.now) (faultless (goal.at.returns-then-out-file-clause-answer c).In_ok-count_records) (omega arith)

pub write_again-requires-clause-faultless : goal.write_again-requires-clause-faultless
write_again-requires-clause-faultless c = faultless (goal.at.write_again-requires-clause-faultless c).In_ok-count_records

pub returns-clause-answer : goal.returns-clause-answer
returns-clause-answer c =
    let w = c.write_again.ensures in
    rw w.answer (rewrite_fine c.args.file.now (length c.args.out.now) (faultless (goal.at.returns-clause-answer c).In_ok-count_records) (omega arith))
