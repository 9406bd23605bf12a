use Rattle.std.proofs.Common.{◌≡◌, ◌-◌, Bool, true, cond, map, sym, ap, ◌∙◌, arith}
use mathlib.Core.Path.{transport}
use Rattle.rows.specs.declared.memory.Token.{Token}
use Rattle.rows.specs.Tests.{distinct}
use Rattle.model.specs.Steps.{chosen, distance, moved, event, row_of}
use Rattle.model.proofs.Bounds.{reach}
use Rattle.model.proofs.Chosen.{fair}
use Rattle.model.proofs.Distances.{at_most}
use Rattle.model.proofs.Stepping.{row_distinct}
use Rattle.planner.specs.Looking.{picked, Runnable}
use Rattle.planner.proofs.stepping.advance.Goals as goal

pub run-places-requires : goal.run-places-requires
run-places-requires g c =
    let told = c.choose-choice.ensures in
    let r = c.choose-choice.result in
    let same : chosen c.args.processors (g.R.Rule.ranks c.args.rule.now) c.args.span c.args.rows.now ≡ picked (g.R.Rule.ranks c.args.rule.now) c.args.span r.last = λ j x. told.picks x j in
    transport (λ j. Runnable (sym told.same j) (same j) r.event.length r.spare c.args.rows.now) told.runnable

pub returns : goal.returns
returns g c =
    let m = c.args.processors in
    let key = g.R.Rule.ranks c.args.rule.now in
    let law = g.met.R.Rule.lawful c.args.rule.now in
    let span = c.args.span in
    let ts = c.args.rows.now in
    let told = c.choose-choice.ensures in
    let r = c.choose-choice.result in
    let picks : Token → Bool = chosen m key span ts in
    let same : picks ≡ picked key span r.last = λ j x. told.picks x j in
    let far = distance picks span ts in
    let after : map (moved r.processors (picked key span r.last) ts r.event.length) ts ≡ map (moved m picks ts far) ts =
    λ j. map (moved (told.same j) (sym same j) ts (told.length j)) ts in
    let places : c.run-places.result ≡ row_of (map (moved m picks ts far) ts) = c.run-places.ensures.places ∙ ap row_of after in
    let apart : distinct c.run-places.result ≡ true =
    ap distinct places ∙ row_distinct m span ts c.requires.sound picks (fair m key law span ts c.requires.sound c.requires.some c.requires.short) far (reach picks span ts) in
    let filled : c.fill.new.self.places ≡ row_of (map (moved m picks ts far) ts) =
    c.fill.ensures.places ∙ (λ j. cond (apart j) c.run-places.result c.args.row.now.places) ∙ places in
    record {
      rows = c.run-places.ensures.rows ∙ after;
      segment = λ j. record { units = told.length j; kind = (told.kind ∙ ap (λ k. event picks k (span - k) ts) told.length) j; row = filled j };
      within = omega (arith, told.length, at_most picks span ts);
    }
