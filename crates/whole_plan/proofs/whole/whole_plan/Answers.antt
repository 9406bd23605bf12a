use Rattle.std.proofs.Common.{◌≡◌, ℕ, ◌≤◌, ◌++◌, length, take, drop, IfOk, Ok, sym, refl, ap, ◌∙◌, subst, arith}
use Rattle.std.proofs.lemmas.List.{take_at}
use Rattle.std.proofs.lemmas.Result.{err_from_is_err_and}
use Rattle.plan_file.specs.Writing.{header_bytes}
use Rattle.table_file.specs.Tables.{table_planes}
use Rattle.planner.specs.Views.{rest}
use Rattle.whole_plan.specs.Planning.{table_admitted, no_tokens, planes_planned, records, plan_length, with_plan}
use Rattle.whole_plan.specs.Serving.{PlanServesEveryPeriod}
use Rattle.whole_plan.proofs.Outcome.{Passed, few, rows, ready, refused, passes}
use Rattle.whole_plan.proofs.whole.whole_plan.Goals as goal
use Rattle.whole_plan.proofs.whole.whole_plan.Goals.{In_ok-board, In_ok-check_planes}

-- the board and the tasks of the table
set : (c : In_ok-board) → table_admitted c.args.table.now ≡ Ok (rest c.in_ok-board.board, c.set_up.new.tasks)
set c = ap (λ x. table_admitted x.now) (sym c.in_ok-table.ensures.1) ∙ c.in_ok-board.ensures

pub check_planes-requires : goal.check_planes-requires
check_planes-requires c =
    let bytes = λ (i : ℕ). (c.type_inv.table i).fits in
    let whole = c.in_ok-table.ensures.0 in
    let s = set (goal.at.check_planes-requires c).In_ok-board in
    record {
      there = omega (arith, few _ bytes whole _ _ s, c.set_up.auto.tasks);
      some = rows _ bytes whole _ _ s;
      ready = ready _ bytes whole _ _ s;
    }

pub returns-in_err-check_planes : goal.returns-in_err-check_planes
returns-in_err-check_planes c =
    let plan = c.args.plan.now in
    let w = refused c.args.table.now (λ i. (c.type_inv.table i).fits) c.in_ok-table.ensures.0 _ _ (set (goal.at.returns-in_err-check_planes c).In_ok-board) c.planes-planes.result (c.planes-planes.ensures ∙ ap (λ x. table_planes x.now) c.in_ok-table.ensures.1) (length plan) _ c.in_err-check_planes.ensures in
    let p = err_from_is_err_and c.from_residual-in_err-check_planes.result c.from_residual-in_err-check_planes.ensures.1 in
    rw (p.1, p.2) (record { answer = sym (ap plan_length w); bytes = sym (ap (λ d. with_plan d plan) w); short = tt; serves = tt })

-- what the check of the planes tells
passed : (c : In_ok-check_planes) → Passed c.args.table.now (λ i. (c.type_inv.table i).fits) c.in_ok-table.ensures.0 (rest c.in_ok-board.board) c.set_up.new.tasks (ap (λ x. table_admitted x.now) (sym c.in_ok-table.ensures.1) ∙ c.in_ok-board.ensures) c.planes-planes.result (length c.args.plan.now)
passed c = passes _ _ _ _ _ _ _ (c.planes-planes.ensures ∙ ap (λ x. table_planes x.now) c.in_ok-table.ensures.1) _ c.in_ok-check_planes.ensures

pub write_plan-requires : goal.write_plan-requires
write_plan-requires c =
    let k = passed (goal.at.write_plan-requires c).In_ok-check_planes in
    record { fine = k.fine; room = k.room }

pub returns : goal.returns
returns c =
    let table = c.args.table.now in
    let plan = c.args.plan.now in
    let b = rest c.in_ok-board.board in
    let w = passed (goal.at.returns c).In_ok-check_planes in
    let file = header_bytes b.processors b.scale ++ records (planes_planned c.planes-planes.result b c.set_up.new.tasks no_tokens) in
    let answer : c.write_plan.result ≡ Ok (length file) = c.write_plan.ensures.answer in
    let bytes : c.write_plan.new.plan ≡ file ++ drop (length file) plan = c.write_plan.ensures.bytes in
    let front : take (length file) c.write_plan.new.plan ≡ file = ap (take (length file)) bytes ∙ take_at file (drop (length file) plan) (length file) refl in
    record {
      answer = answer ∙ ap plan_length (sym w.is);
      bytes = bytes ∙ ap (λ d. with_plan d plan) (sym w.is);
      short = subst (λ r. IfOk r (λ n. (n ≤ length plan) × (n ≤ 690542305))) (sym answer) (w.short, w.bounded);
      serves = subst (λ r. IfOk r (λ n. PlanServesEveryPeriod table (take n c.write_plan.new.plan))) (sym answer)
          (subst (PlanServesEveryPeriod table) (sym front) w.serves);
    }
