use Rattle.std.proofs.Common.{length, ap, ◌∙◌}
use Rattle.whole_plan.specs.Planning.{in_front}
use Rattle.whole_plan.specs.Answering.{fitted}
use Rattle.whole_plan.proofs.Lines.{one_digit_line, two_digit_line}
use Rattle.whole_plan.proofs.answer.put_refusal.Goals as goal

pub returns-then-number-lt10 : goal.returns-then-number-lt10
returns-then-number-lt10 c =
    let out = c.args.out.now in
    let e = one_digit_line c.args.refusal c.from-number.result c.from-number.ensures c.if-number-lt10.true in
    record { answer = c.put.ensures.answer ∙ ap (λ l. length (fitted out l)) e; bytes = c.put.ensures.bytes ∙ ap (λ l. in_front (fitted out l) out) e }

pub returns-else-number-lt10 : goal.returns-else-number-lt10
returns-else-number-lt10 c =
    let out = c.args.out.now in
    let e = two_digit_line c.args.refusal c.from-number.result c.from-number.ensures c.if-number-lt10.false in
    record { answer = c.put-else-number-lt10.ensures.answer ∙ ap (λ l. length (fitted out l)) e; bytes = c.put-else-number-lt10.ensures.bytes ∙ ap (λ l. in_front (fitted out l) out) e }
