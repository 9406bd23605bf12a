use Rattle.std.proofs.Common.{◌-◌, ◌<◌, ◌≤◌, length, set, sym, ap, ◌∙◌, arith}
use Rattle.std.proofs.lemmas.List.{length-set}
use Rattle.rows.specs.declared.memory.Token.{Token}
use Rattle.planner.proofs.Moves.{moving_is, room, on_board, spare_number, move_on, move_off, move_not}
use Rattle.planner.proofs.stepping.run.Given as given
use Rattle.planner.proofs.stepping.run.Goals as goal
use Rattle.planner.proofs.stepping.run.Goals.{then-is_chosen, then-token-eq0, else-token-eq0, else-is_chosen, Joined-token-eq0}

pub bounds-choice-turn : goal.bounds-choice-turn
bounds-choice-turn g c = room c.requires c.loop-token.invariant.1 (omega arith) (sym c.if-is_chosen.ensures) c.if-token-eq0.true

-- the processor that a chosen token runs on
number : (g : given.Over) (c : goal.Joined-token-eq0 g) → (1 ≤ c.if-token-eq0.token.processor) × (c.if-token-eq0.token.processor ≤ 16)
number g c =
    let inside : c.loop-token.token-index < length c.args.rows.now = omega arith in
    let was = c.loop-token.invariant.1 in
    let chosen = sym c.if-is_chosen.ensures in
    elim c.if-token-eq0.branch [
      | then-token-eq0 v ↦ let n = spare_number c.requires was inside chosen v.if-token-eq0.true in let e = ap (λ (t : Token). t.processor) v.token-is in (omega arith, omega arith)
      | else-token-eq0 v ↦ let n = on_board c.requires was inside chosen v.if-token-eq0.false in let e = ap (λ (t : Token). t.processor) v.token-is in (omega (arith, v.if-token-eq0.false), omega arith)
    ]

pub overflow_sub-places : goal.overflow_sub-places
overflow_sub-places g c = (number g (goal.at.overflow_sub-places g c).Joined-token-eq0).0

pub bounds-places-token : goal.bounds-places-token
bounds-places-token g c = omega (arith, number g (goal.at.bounds-places-token g c).Joined-token-eq0)

pub loop-token-preserved : goal.loop-token-preserved
loop-token-preserved g c =
    let l = c.loop-token in
    let d = c.args.choice.now.event.length in
    let inside : l.token-index < length c.args.rows.now = omega arith in
    elim c.if-is_chosen.branch [
      | then-is_chosen w ↦ (
        ap length w.places-is ∙ length-set l.places (w.if-token-eq0.token.processor - 1) w.if-token-eq0.token.tag ∙ l.invariant.0,
        elim w.if-token-eq0.branch [
          | then-token-eq0 v ↦ moving_is
              (w.rows-is ∙ ap (λ (t : Token). set l.rows l.token-index (record { tag = t.tag; left = t.left - d; processor = t.processor })) v.token-is)
              (w.turn-is ∙ v.turn-is)
              (w.places-is ∙ ap (λ (t : Token). set l.places (t.processor - 1) t.tag) v.token-is)
              (move_off c.requires l.invariant.1 inside (sym w.if-is_chosen.ensures) v.if-token-eq0.true)
          | else-token-eq0 v ↦ moving_is
              (w.rows-is ∙ ap (λ (t : Token). set l.rows l.token-index (record { tag = t.tag; left = t.left - d; processor = t.processor })) v.token-is)
              (w.turn-is ∙ v.turn-is)
              (w.places-is ∙ ap (λ (t : Token). set l.places (t.processor - 1) t.tag) v.token-is)
              (move_on c.requires l.invariant.1 inside (sym w.if-is_chosen.ensures) v.if-token-eq0.false)
        ],
      )
      | else-is_chosen w ↦ (
        ap length w.places-is ∙ l.invariant.0,
        moving_is w.rows-is w.turn-is w.places-is (move_not c.requires l.invariant.1 inside (sym w.if-is_chosen.ensures)),
      )
    ]
