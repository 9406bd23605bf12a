use Rattle.std.proofs.Common.{◌<◌, ◌≤◌, length, get_or, sym, ◌∙◌, arith}
use Rattle.std.proofs.ByRecursion.{All-get_or}
use Rattle.planner.specs.Lining.{no_token}
use Rattle.planner.proofs.Looks.{seen_is, seen_none, seen_chosen, seen_other}
use Rattle.planner.proofs.stepping.look_over.Goals as goal
use Rattle.planner.proofs.stepping.look_over.Goals.{then-is_chosen, else-is_chosen}

pub loop-token-init : goal.loop-token-init
loop-token-init g c = seen_none

pub loop-token-preserved : goal.loop-token-preserved
loop-token-preserved g c =
    let l = c.loop-token in
    let rows = c.args.rows.now in
    let inside : l.token-index < length rows = omega arith in
    let on : (get_or rows l.token-index no_token).processor < 17 = omega (arith, All-get_or (λ x. x.processor ≤ 16) rows l.token-index no_token inside c.requires) in
    elim c.if-is_chosen.branch [
      | then-is_chosen w ↦ seen_is w.taken-is (w.least-is ∙ w.min-least.ensures) w.most-is (seen_chosen l.invariant inside (sym w.if-is_chosen.ensures) on)
      | else-is_chosen w ↦ seen_is w.taken-is w.least-is (w.most-is ∙ w.max-most.ensures) (seen_other l.invariant inside (sym w.if-is_chosen.ensures))
    ]
