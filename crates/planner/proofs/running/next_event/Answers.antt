use Rattle.std.proofs.Common.{◌≡◌, ◌∙◌, rules}
use Rattle.planner.specs.Looking.{nearest_kind}
use Rattle.planner.specs.Lining.{least_in, most_in}
use Rattle.planner.proofs.running.next_event.Goals as goal

pub returns-clause-kind : goal.returns-clause-kind
returns-clause-kind c =
    let least : c.map_or-least.result ≡ least_in c.args.rows.now c.args.line.now c.args.running c.args.span = search rules in
    let most : c.map_or-most.result ≡ most_in c.args.rows.now c.args.line.now c.args.running = search rules in
    c.nearest.ensures.kind ∙ (λ j. nearest_kind (least j) (most j) c.args.span)
