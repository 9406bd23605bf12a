use Rattle.std.proofs.Common.{◌≡◌, ◌-◌, ◌++◌, length, take, drop, None, Ok, ap, ◌∙◌, arith}
use Rattle.plan_file.specs.Writing.{header_bytes, header_fault}
use Rattle.plan_file.proofs.Fault.{answer_is}
use Rattle.plan_file.proofs.Copied.{no_fault}
use Rattle.plan_file.proofs.Lent.{length_rest}
use Rattle.planner.specs.Views.{rest}
use Rattle.whole_plan.specs.Planning.{planes_planned, no_tokens, records}
use Rattle.whole_plan.proofs.Words.{value}
use Rattle.whole_plan.proofs.Headed.{header_fine, written_fits, behind_header}
use Rattle.whole_plan.proofs.planes.write_plan.Goals as goal

pub returns-in_err-at : goal.returns-in_err-at
returns-in_err-at c =
    let n = length c.args.plan.now in
    let f : header_fault c.processors.result c.scale.result n ≡ None =
    header_fine c.processors.result c.scale.result n (omega (arith, c.processors.ensures)) (omega (arith, c.processors.ensures)) (omega (arith, c.scale.ensures)) (omega (arith, c.scale.ensures)) (omega (arith, c.requires.room)) in
    absurd (no_fault (header_fault c.processors.result c.scale.result n) 10 c.in_err-at.field-0.0 f c.in_err-at.ensures.answer)

pub overflow_add-result : goal.overflow_add-result
overflow_add-result c =
    let n = length c.args.plan.now in
    let a : c.in_ok-at.at ≡ 10 = answer_is (header_fault c.processors.result c.scale.result n) c.in_ok-at.at 10 c.in_ok-at.ensures.answer in
    let r = records (planes_planned c.args.planes (rest c.args.board) c.args.tasks.now no_tokens) in
    let b : c.in_ok-bytes.bytes ≡ length r = value _ _ c.in_ok-bytes.ensures.answer in
    let f = written_fits r c.run_planes.new.plan (take (length c.write_header.new.plan - c.in_ok-at.at) (drop c.in_ok-at.at c.write_header.new.plan)) c.in_ok-bytes.ensures.bytes c.run_planes.auto.plan in
    let l = length_rest c.write_header.new.plan c.in_ok-at.at in
    omega (arith, f, l, a, b, c.write_header.auto.plan, c.requires.room)

pub returns : goal.returns
returns c =
    let n = length c.args.plan.now in
    let p = c.processors.result in
    let q = c.scale.result in
    let a : c.in_ok-at.at ≡ 10 = answer_is (header_fault p q n) c.in_ok-at.at 10 c.in_ok-at.ensures.answer in
    let r = records (planes_planned c.args.planes (rest c.args.board) c.args.tasks.now no_tokens) in
    let b : c.in_ok-bytes.bytes ≡ length r = value _ _ c.in_ok-bytes.ensures.answer in
    let h : c.write_header.new.plan ≡ header_bytes c.args.board.processors c.args.board.scale ++ drop 10 c.args.plan.now =
    c.in_ok-at.ensures.bytes ∙ ap (λ m. header_bytes m q ++ drop 10 c.args.plan.now) c.processors.ensures
    ∙ ap (λ q. header_bytes c.args.board.processors q ++ drop 10 c.args.plan.now) c.scale.ensures in
    record {
      answer = ap Ok (omega (arith, a, b));
      bytes = behind_header c.args.board.processors c.args.board.scale c.args.plan.now c.write_header.new.plan c.run_planes.new.plan r c.in_ok-at.at a h c.in_ok-bytes.ensures.bytes;
    }
