use Rattle.std.proofs.Common.{◌&&◌, refl, ◌∙◌, rules, tests}
use Rattle.std.specs.List.{list_all}
use Rattle.std.proofs.lemmas.Iterator.{YieldsList-from_slice}
use Rattle.std.proofs.lemmas.Iterator.Search.{all_from_yields_List}
use Rattle.std.proofs.lemmas.List.Recursion.{same_from_clauses}
use Rattle.rows.specs.Releases.{timely}
use Rattle.rows.specs.Tests.{all}
use Rattle.ahead.proofs.are_timely.Goals as goal

pub returns : goal.returns
returns c =
    all_from_yields_List (timely c.args.tick) _ _ c.all.result c.all.ensures.ran (YieldsList-from_slice c.args.rows.now (cc)) (λ x b q k. search (rules, tests))
    ∙ same_from_clauses (list_all (timely c.args.tick)) (all (timely c.args.tick)) (λ t b. timely c.args.tick t && b) refl (λ _ _. refl) (λ _ _. refl) c.args.rows.now
