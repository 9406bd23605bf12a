use Rattle.std.proofs.Common.{◌≡◌, take, sym, ap, ◌∙◌, arith, w64, SFits, to_z, of_z, rules}
use Rattle.std.proofs.lemmas.Result.{IfOk-at_ok, IfOk-weaker}
use Rattle.std.proofs.lemmas.Int.{to_z-of_z}
use Rattle.whole_plan.specs.Serving.{PlanServesEveryPeriod}
use Rattle.whole_plan.specs.Answering.{length_or_minus}
use Rattle.whole_plan.proofs.Lines.{length_is}
use Rattle.whole_plan.proofs.export.kiln_whole_plan.Goals as goal

pub signed-requires : goal.signed-requires
signed-requires c = IfOk-weaker c.whole_plan.result _ _ (λ n h. omega (arith, h.1)) c.whole_plan.ensures.short

pub returns : goal.returns
returns c =
    let fits : SFits w64 c.signed.result = search rules in
    let back : to_z w64 (of_z w64 c.signed.result) ≡ length_or_minus c.whole_plan.result = to_z-of_z w64 c.signed.result fits ∙ c.signed.ensures in
    record {
      answer = back ∙ ap length_or_minus c.whole_plan.ensures.answer;
      bytes = c.whole_plan.ensures.bytes;
      serves = λ n h. IfOk-at_ok (λ n. PlanServesEveryPeriod c.args.table.now (take n c.whole_plan.new.plan))
          (length_is c.whole_plan.result n (sym back ∙ h)) c.whole_plan.ensures.serves;
    }
