use Rattle.std.proofs.Common.{◌≡◌, ◌∙◌, sym, ap, cond, Some, None, arith}
use Rattle.rows.specs.Releases.{next_release}
use Rattle.ahead.proofs.Firsts.{first_near}
use Rattle.ahead.proofs.release.Due.first.Goals as goal

pub returns-clause-near : goal.returns-clause-near
returns-clause-near c =
    let tick = c.args.tick in
    let t = c.args.task.now in
    let is : c.unwrap.result ≡ next_release tick t = cc (sym c.unwrap.ensures ∙ c.next_release.ensures ∙ ap (λ b. cond b (Some (next_release tick t)) None) c.requires) in
    omega (arith, is, first_near tick t c.requires)
