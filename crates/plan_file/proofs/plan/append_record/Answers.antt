use Rattle.std.proofs.Common.{◌≡◌, ◌+◌, ◌-◌, length, ap, ◌∙◌, arith}
use Rattle.std.proofs.lemmas.Result.{err_from_is_err_and}
use Rattle.plan_file.specs.Records.{record_size}
use Rattle.plan_file.specs.Faults.{answered}
use Rattle.plan_file.specs.Heads.{segment}
use Rattle.plan_file.specs.Writing.{write_fault}
use Rattle.plan_file.proofs.Lent.{length_rest}
use Rattle.plan_file.proofs.Fault.{fault_same}
use Rattle.plan_file.proofs.plan.append_record.Goals as goal

pub returns-in_err-size-clause-answer : goal.returns-in_err-size-clause-answer
returns-in_err-size-clause-answer c =
    let m = c.args.processors in
    let s = segment c.args.head c.args.row.now.places in
    let plan = c.args.plan.now in
    let p = err_from_is_err_and c.from_residual.result c.from_residual.ensures.1 in
    let e = c.in_err-size.ensures in
    let k : length plan - c.min-from.result ≡ length plan - c.args.at = omega arith in
    let a = e.answer ∙ ap (λ n. answered (write_fault m s n) (record_size m)) (length_rest plan c.min-from.result ∙ k) in
    rw (p.1, p.2) (fault_same (write_fault m s (length plan - c.args.at)) (record_size m) (c.args.at + record_size m) c.in_err-size.field-0.0 a)
