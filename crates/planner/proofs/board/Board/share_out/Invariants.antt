use Rattle.std.proofs.Common.{◌≡◌, ◌++◌, map, take, drop}
use Rattle.model.specs.Tables.{token}
use Rattle.planner.proofs.board.Board.share_out.Given as goal

abbrev pub invariant-loop-i : goal.invariant-loop-i
invariant-loop-i l = l.tokens ≡ map (token l.self.scale l.ticks) (take l.i l.rows) ++ drop l.i l.initial.tokens
