use Rattle.std.proofs.Common.{◌≡◌, ◌+◌, ◌*◌, ◌^◌, ◌<◌, ◌≤◌, take, drop, sum_by}
use Rattle.std.specs.List.{AllByRecursion}
use Rattle.rows.specs.Tests.{all}
use Rattle.planner.proofs.fits.add_up.Given as goal

abbrev pub invariant-loop-row : goal.invariant-loop-row
invariant-loop-row g l = record {
  sound : all (g.J.Judge.is_sound l.judge) (drop l.row-index l.rows) ≡ all (g.J.Judge.is_sound l.judge) l.rows;
  sum_is : l.sum + sum_by (g.J.Judge.amount l.judge) (drop l.row-index l.rows) ≡ sum_by (g.J.Judge.amount l.judge) l.rows;
  low : l.sum ≤ l.row-index * 2 ^ 54;
  tags : AllByRecursion (λ x. g.J.Row.Keyed.ordinal x < 2 ^ 16) (take l.row-index l.rows);
}
