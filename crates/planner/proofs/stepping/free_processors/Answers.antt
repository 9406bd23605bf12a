use Rattle.std.proofs.Common.{◌≡◌, ℕ, ◌<◌, Bool, false, not, get_or, ap, subst, arith}
use Rattle.planner.proofs.Free.{Filled, filled_more, filled_same, filled_at}
use Rattle.planner.proofs.stepping.free_processors.Goals as goal
use Rattle.planner.proofs.stepping.free_processors.Goals.{then-not-taken-i, else-not-taken-i}

pub loop-i-preserved : goal.loop-i-preserved
loop-i-preserved c =
    let test : ℕ → Bool = λ p. not (get_or c.args.taken.now p false) in
    let i = c.loop-i.i in
    let low : i < 16 = omega (arith, c.requires) in
    elim c.if-not-taken-i.branch [
      | then-not-taken-i w ↦
          rw (w.free-is, w.count-is) (filled_more test i c.loop-i.count c.loop-i.free low (ap not w.if-not-taken-i.true) c.loop-i.invariant)
      | else-not-taken-i w ↦
          rw (w.free-is, w.count-is) (filled_same test i c.loop-i.count c.loop-i.free (ap not w.if-not-taken-i.false) c.loop-i.invariant)
    ]

pub returns : goal.returns
returns c =
    let test : ℕ → Bool = λ p. not (get_or c.args.taken.now p false) in
    let e : c.loop-i.i ≡ c.args.processors = omega arith in
    filled_at test c.args.processors c.loop-i.count c.loop-i.free (subst (λ i. Filled test i c.loop-i.free c.loop-i.count) e c.loop-i.invariant)
