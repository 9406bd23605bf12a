use Rattle.std.proofs.Common.{◌≡◌, true, ◌∷◌, sym, ap, ◌∙◌, arith}
use Rattle.std.proofs.lemmas.Bool.Decides.{nat_tests}
use Rattle.std.proofs.lemmas.Option.{cond_some}
use Rattle.rows.specs.Releases.{timely, next_release}
use Rattle.rows.specs.Tests.{all}
use Rattle.model.specs.Tables.{earliest}
use Rattle.planner.proofs.Releases.{least, least_first}
use Rattle.planner.proofs.planes.earliest_release.Goals as goal

pub loop-task-init : goal.loop-task-init
loop-task-init c =
    let tick = c.args.tick in
    let t = c.in_ok-first.first.now in
    let ts = c.in_ok-first.others.now in
    let split : c.args.tasks.now ≡ t ∷ ts = c.in_ok-first.ensures.cases.0 in
    let told = cond_some (timely tick t) (next_release tick t) c.in_ok-end.end (sym c.in_ok-end.ensures) in
    let first : timely tick t ≡ true = told.0 in
    let same : all (timely tick) ts ≡ all (timely tick) (t ∷ ts) = grind (arith, nat_tests) in
    (same ∙ ap (all (timely tick)) (sym split), ap (λ e. least tick e ts) (sym told.1) ∙ least_first tick t ts ∙ ap (earliest tick) (sym split))
