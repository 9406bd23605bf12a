use Rattle.std.proofs.Common.{◌-◌, arith}
use Rattle.whole_plan.proofs.Lines.{copied}
use Rattle.whole_plan.proofs.answer.put.Goals as goal

pub returns : goal.returns
returns c =
    let k = copied c.args.out.now c.args.text.now c.copy_from_slice.new.self c.min-n.result (c.min-n.result - 0) (omega arith) c.min-n.ensures c.copy_from_slice.ensures.after in
    record { answer = k.0; bytes = k.1 }
