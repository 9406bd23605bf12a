use Rattle.std.proofs.Common.{◌∙◌}
use Rattle.std.proofs.lemmas.Result.{err_from_is_err_and}
use Rattle.rules.specs.Keys.{largest_first}
use Rattle.model.specs.Tables.{started}
use Rattle.model.specs.Planes.{finished}
use Rattle.planner.specs.Views.{rest, plane}
use Rattle.whole_plan.proofs.Words.{moves_over_ok, moves_over_err, answering_err, then_on, then_err}
use Rattle.whole_plan.proofs.planes.run_plane.Goals as goal

pub returns-in_err-plane : goal.returns-in_err-plane
returns-in_err-plane c =
    let a = c.args in
    let s = moves_over_err rest plane a.board a.tokens.now (started (rest a.board) a.tasks.now a.tokens.now) c.in_err-plane.field-0.0 _ c.in_err-plane.ensures in
    let p = err_from_is_err_and c.from_residual.result c.from_residual.ensures.1 in
    rw (p.1, p.2) (then_err _ s)

pub returns-in_err-finished : goal.returns-in_err-finished
returns-in_err-finished c =
    let a = c.args in
    let s = moves_over_ok rest plane a.board a.tokens.now (started (rest a.board) a.tasks.now a.tokens.now) c.in_ok-plane.plane _ c.in_ok-plane.ensures in
    let f = answering_err (λ f. (f.steps, f.bytes)) _ (finished (plane c.in_ok-plane.plane) c.start.new.tokens largest_first a.plan.now) c.in_err-finished.field-0.0 _ c.in_err-finished.ensures in
    let p = err_from_is_err_and c.from_residual-in_err-finished.result c.from_residual-in_err-finished.ensures.1 in
    rw (p.1, p.2) (then_on _ s ∙ then_err _ f)
