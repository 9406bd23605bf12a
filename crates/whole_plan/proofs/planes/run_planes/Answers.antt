use Rattle.std.proofs.Common.{Ok, ap, ◌∙◌, arith}
use Rattle.planner.specs.Views.{rest}
use Rattle.whole_plan.proofs.Through.{no_refusal, in_room, turned, all_run}
use Rattle.whole_plan.proofs.planes.run_planes.Goals as goal

pub returns-in_err-after : goal.returns-in_err-after
returns-in_err-after c =
    let l = c.loop-plane in
    absurd (no_refusal l.invariant.0 c.args.planes c.loop-plane-test.true c.requires.fine (omega (arith, c.requires.room, l.auto.plan)) c.in_err-after.field-0.0 c.in_err-after.ensures)

pub overflow_add-at : goal.overflow_add-at
overflow_add-at c =
    let l = c.loop-plane in
    let o = c.in_ok-after in
    omega (arith, in_room l.invariant.0 c.args.planes c.loop-plane-test.true c.requires.fine (omega (arith, c.requires.room, l.auto.plan)) (rest o.after) c.run_plane.new.tokens c.run_plane.new.plan o.bytes o.ensures)

pub loop-plane-preserved : goal.loop-plane-preserved
loop-plane-preserved c =
    let l = c.loop-plane in
    let o = c.in_ok-after in (
      turned l.invariant.0 c.args.planes c.loop-plane-test.true c.requires.fine (omega (arith, c.requires.room, l.auto.plan)) (rest o.after) c.run_plane.new.tokens c.run_plane.new.plan o.bytes o.ensures,
      c.run_plane.auto.tokens ∙ l.invariant.1,
    )

pub returns : goal.returns
returns c =
    let r = all_run c.loop-plane.invariant.0 c.args.planes (omega arith) in
    record { answer = ap Ok r.0; bytes = r.1 }
