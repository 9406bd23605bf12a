use Rattle.std.proofs.Common.{nat_eq, ◌&&◌, refl, rules, tests, ◌∙◌}
use Rattle.std.specs.List.{list_all}
use Rattle.std.proofs.lemmas.Iterator.{YieldsList-from_slice}
use Rattle.std.proofs.lemmas.Iterator.Search.{all_from_yields_List}
use Rattle.std.proofs.lemmas.List.Recursion.{same_from_clauses}
use Rattle.rows.specs.Tests.{all}
use Rattle.plan_file.proofs.record.all_zero.Goals as goal

pub returns : goal.returns
returns c =
    all_from_yields_List (λ t. nat_eq t 0) _ _ c.all.result c.all.ensures.ran (YieldsList-from_slice c.args.tags.now (cc)) (λ x b q k. search (rules, tests))
    ∙ same_from_clauses (list_all (λ t. nat_eq t 0)) (all (λ t. nat_eq t 0)) (λ t b. nat_eq t 0 && b) refl (λ _ _. refl) (λ _ _. refl) c.args.tags.now
