use Rattle.std.proofs.Common.{◌≡◌, ℕ, ◌+◌, ◌*◌, List, ◌++◌, length, take, drop, sym, refl, ap, ◌∙◌, arith}
use Rattle.rows.specs.declared.memory.Token.{Token}
use Rattle.plan_file.specs.Records.{Segment, records_bytes, record_size}
use Rattle.model.specs.Planes.{with_span, steps, finished}
use Rattle.model.proofs.Finishes.{span_out}
use Rattle.planner.specs.Segments.{written}
use Rattle.planner.specs.Views.{plane}
use Rattle.planner.proofs.Fitting.{sound_rows, rows_there, answered_as, finish_accepted}
use Rattle.planner.proofs.board.Plane.finish.Goals as goal

pub run_out-finished-requires : goal.run_out-finished-requires
run_out-finished-requires g c =
    let p = c.args.self.now in
    let told = c.if-not-tokens_fit.ensures in
    let there = rows_there (plane p) c.args.tokens.now p.board.count refl (sym told.fits) in
    record {
      sound = sound_rows (plane p) c.args.tokens.now p.board.count refl p.board.some p.board.few (told.tags refl) (sym told.fits);
      short = p.short;
      room = omega (arith, ap (λ n. (n + 1) * record_size p.board.processors) there, ap (λ k. (p.board.count + 1) * k) c.record_size.ensures);
    }

pub returns : goal.returns
returns g c =
    let p = plane c.args.self.now in
    let ks = c.args.tokens.now in
    let buffer = c.args.plan.now in
    let n = c.args.self.now.board.count in
    let m = c.args.self.now.board.processors in
    let key = g.R.Rule.ranks c.args.rule.now in
    let law = g.met.R.Rule.lawful c.args.rule.now in
    let fit = c.if-not-tokens_fit.ensures in
    let there = rows_there p ks n refl (sym fit.fits) in
    let sound = sound_rows p ks n refl c.args.self.now.board.some c.args.self.now.board.few (fit.tags refl) (sym fit.fits) in
    let over = span_out m n p.span (take n ks) there sound c.args.self.now.short key law in
    let told = c.run_out-finished.ensures in
    let done : List Segment × ℕ × List Token = steps (n + 1) m key p.span (take n ks) in
    let same : steps (length (take n ks) + 1) m key p.span (take n ks) ≡ done = λ j. steps (there j + 1) m key p.span (take n ks) in
    answered_as (λ f. (f.steps, f.bytes)) _ _ (finished p ks key buffer) _ _ c.run_out-finished.result
    (finish_accepted p ks key buffer (omega arith) (sym fit.fits) (omega (arith, ap (λ k. (n + 1) * k) c.record_size.ensures)))
    (λ j. (with_span p (sym over j), (told.rows ∙ ap (λ (d : List Segment × ℕ × List Token). d.2) same) j ++ drop n ks, (told.plan_is ∙ ap (λ (d : List Segment × ℕ × List Token). written m d.0 buffer) same) j))
    (λ j. ((told.steps_are ∙ ap (λ (d : List Segment × ℕ × List Token). length d.0) same) j, (told.bytes_are ∙ ap (λ (d : List Segment × ℕ × List Token). length (records_bytes m d.0)) same) j))
