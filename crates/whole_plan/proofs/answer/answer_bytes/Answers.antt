use Rattle.std.proofs.Common.{◌≡◌, length, sym, ap, ◌∙◌, arith}
use Rattle.std.proofs.lemmas.List.{length-take}
use Rattle.whole_plan.specs.Planning.{in_front, whole_plan, with_plan}
use Rattle.whole_plan.specs.Answering.{refused_line, plan_or_line, fitted}
use Rattle.whole_plan.proofs.Lines.{plan_made, refused_is}
use Rattle.whole_plan.proofs.answer.answer_bytes.Goals as goal

pub returns-in-Ok : goal.returns-in-Ok
returns-in-Ok c =
    let out = c.args.out.now in
    let e = c.in-Ok.ensures in
    let k = plan_made (whole_plan c.args.table.now (length out)) c.in-Ok.length out c.whole_plan.new.plan e.answer e.bytes e.short.0 in
    record { answer = k.0; bytes = k.1; short = e.short.0 }

pub returns-in-Err : goal.returns-in-Err
returns-in-Err c =
    let out = c.args.out.now in
    let e = c.in-Err.ensures in
    let d = refused_is (whole_plan c.args.table.now (length out)) c.in-Err.refusal e.answer in
    let same : c.whole_plan.new.plan ≡ out = e.bytes ∙ ap (λ d. with_plan d out) d in
    let answer = c.put_refusal.ensures.answer ∙ ap (λ x. length (fitted x (refused_line c.in-Err.refusal))) same in
    record {
      answer = answer ∙ ap (λ d. length (fitted out (plan_or_line d))) (sym d);
      bytes = c.put_refusal.ensures.bytes ∙ ap (λ x. in_front (fitted x (refused_line c.in-Err.refusal)) x) same ∙ ap (λ d. in_front (fitted out (plan_or_line d)) out) (sym d);
      short = omega (arith, answer, length-take (length out) (refused_line c.in-Err.refusal));
    }
