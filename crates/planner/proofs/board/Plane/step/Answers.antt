use Rattle.std.proofs.Common.{sym, refl, arith}
use Rattle.planner.specs.Views.{plane}
use Rattle.planner.proofs.Fitting.{sound_rows}
use Rattle.planner.proofs.board.Plane.step.Goals as goal

pub advance-event-requires : goal.advance-event-requires
advance-event-requires g c =
    let p = c.args.self.now in
    let told = c.if-not-tokens_fit.ensures in
    record {
      sound = sound_rows (plane p) c.args.tokens.now p.board.count refl p.board.some p.board.few (told.tags refl) (sym told.fits);
      some = omega arith;
      short = p.short;
    }
