use Rattle.std.proofs.Common.{◌≡◌, ◌≤◌}
use Rattle.rows.specs.Limits.{last_tick}
use Rattle.whole_plan.specs.Ends.{tick_after}
use Rattle.whole_plan.proofs.ends.end_in_time.Given as goal

abbrev pub invariant-loop-plane : goal.invariant-loop-plane
invariant-loop-plane l = (l.tick ≡ tick_after l._plane l.rows) × (l.tick ≤ last_tick)
