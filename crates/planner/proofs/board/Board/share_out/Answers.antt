use Rattle.std.proofs.Common.{◌*◌, get_or, set, ◌∙◌, arith}
use Rattle.model.specs.Tables.{token, zeros}
use Rattle.planner.proofs.Writes.{map_more}
use Rattle.planner.proofs.board.Board.share_out.Goals as goal

pub loop-i-preserved : goal.loop-i-preserved
loop-i-preserved c =
    let rows = c.args.rows.now in
    let i = c.loop-i.i in
    let f = token c.args.self.now.scale c.args.ticks in
    (λ j. set (c.loop-i.invariant j) i (record { tag = (get_or rows i zeros).tag; left = c.args.ticks * c.weight_of.ensures j; processor = 0 }))
    ∙ map_more f rows c.args.tokens.now i zeros (omega arith) c.requires.room
