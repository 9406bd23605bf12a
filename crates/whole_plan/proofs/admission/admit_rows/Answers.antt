use Rattle.std.proofs.Common.{◌≡◌, ◌∷◌, sym, ap, ◌∙◌}
use Rattle.std.proofs.lemmas.Result.{err_from_is_err_and}
use Rattle.table_file.specs.Left.{rows_left}
use Rattle.table_file.specs.Tables.{table_rows}
use Rattle.model.specs.Tables.{admitted}
use Rattle.planner.specs.Views.{rest}
use Rattle.whole_plan.specs.Planning.{rows_admitted}
use Rattle.whole_plan.proofs.Words.{changes_ok, changes_err, then_on, then_err}
use Rattle.whole_plan.proofs.admission.admit_rows.Goals as goal
use Rattle.whole_plan.proofs.admission.admit_rows.Goals.{In-Some}

-- the row that comes, with those that are left
turn : (c : In-Some) → rows_admitted (rest c.loop-row.board) c.loop-row.tasks (c.in-Some.row ∷ rows_left c.next.new.self) ≡ rows_admitted (rest c.args.board.now) c.args.tasks.now (table_rows c.args.table.now.bytes.now)
turn c = sym (ap (rows_admitted (rest c.loop-row.board) c.loop-row.tasks) c.in-Some.ensures.steps) ∙ c.loop-row.invariant.2

pub returns-in_err-admit : goal.returns-in_err-admit
returns-in_err-admit c =
    let row = c.in-Some.row in
    let b = rest c.loop-row.board in
    let ts = c.loop-row.tasks in
    let e = changes_err (b, ts) (admitted b ts row.tag row.execution row.period) c.in_err-admit.field-0.0 _ c.in_err-admit.ensures in
    let p = err_from_is_err_and c.from_residual.result c.from_residual.ensures.1 in
    rw (p.1, p.2) (sym (turn (goal.at.returns-in_err-admit c).In-Some) ∙ then_err _ e)

pub loop-row-preserved : goal.loop-row-preserved
loop-row-preserved c =
    let row = c.in-Some.row in
    let b = rest c.loop-row.board in
    let ts = c.loop-row.tasks in
    let e = changes_ok (b, ts) (admitted b ts row.tag row.execution row.period) tt _ c.in_ok-admit.ensures in
    (tt, tt, sym (then_on _ e) ∙ turn (goal.at.loop-row-preserved c).In-Some)
