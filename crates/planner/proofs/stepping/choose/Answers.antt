use Rattle.std.proofs.Common.{◌≡◌, ℕ, ◌-◌, ◌<◌, ◌≤◌, min, Bool, List, get_or, Option, sym, refl, ap, ◌∙◌, subst, arith}
use Rattle.rows.specs.declared.memory.Token.{Token}
use Rattle.rules.specs.Keys.{Key}
use Rattle.model.specs.Steps.{chosen, distance, event, free}
use Rattle.choosing.specs.declared.entry.Entry.{Entry}
use Rattle.choosing.specs.Keeping.{Picks}
use Rattle.planner.specs.Looking.{picked, least_left, most_left, Runnable}
use Rattle.planner.proofs.Chooses.{on_processors, runnable, most_low, far_is, nearest_is, unmarked}
use Rattle.planner.proofs.stepping.choose.Given as given
use Rattle.planner.proofs.stepping.choose.Goals as goal
use Rattle.planner.proofs.stepping.choose.Goals.{After-look_over-look}

-- the choice by the last one chosen is the choice by rank
same_choice : (m : ℕ) (key : Key) (span : ℕ) (ts : List Token) (last : Option Entry) → 1 ≤ m → m ≤ 16
    → (0 < m → Picks (min m 16) key span ts last) → chosen m key span ts ≡ picked key span last
same_choice m key span ts last some few told =
    let m-is : min m 16 ≡ m = omega arith in
    let e : Picks m key span ts last = subst (λ k. Picks k key span ts last) m-is (told some) in
    λ j x. e x j

pub look_over-look-requires : goal.look_over-look-requires
look_over-look-requires g c = on_processors c.args.processors c.args.ranking.now.span c.args.rows.now c.requires.sound

module _ (g : given.Over) (c : goal.After-look_over-look g) where
  abbrev picks : Token → Bool
  picks = chosen c.args.processors (g.R.Rule.ranks c.args.ranking.now.rule.now) c.args.ranking.now.span c.args.rows.now

  same : picks ≡ picked (g.R.Rule.ranks c.args.ranking.now.rule.now) c.args.ranking.now.span c.last_chosen-last.result
  same = same_choice c.args.processors (g.R.Rule.ranks c.args.ranking.now.rule.now) c.args.ranking.now.span c.args.rows.now c.last_chosen-last.result c.requires.sound.some c.requires.sound.few c.last_chosen-last.ensures

  least_is : c.look_over-look.result.least ≡ least_left picks c.args.ranking.now.span c.args.rows.now
  least_is = c.look_over-look.ensures.least ∙ ap (λ f. least_left f c.args.ranking.now.span c.args.rows.now) (sym same)

  most_is : c.look_over-look.result.most ≡ most_left picks c.args.rows.now
  most_is = c.look_over-look.ensures.most ∙ ap (λ f. most_left f c.args.rows.now) (sym same)

pub nearest-requires : goal.nearest-requires
nearest-requires g c =
    let look = (goal.at.nearest-requires g c).After-look_over-look in
    most_low (g.R.Rule.ranks c.args.ranking.now.rule.now) (g.met.R.Rule.lawful c.args.ranking.now.rule.now) c.requires (least_is g look) (most_is g look)

pub returns : goal.returns
returns g c =
    let m = c.args.processors in
    let key = g.R.Rule.ranks c.args.ranking.now.rule.now in
    let law = g.met.R.Rule.lawful c.args.ranking.now.rule.now in
    let span = c.args.ranking.now.span in
    let ts = c.args.rows.now in
    let look = (goal.at.returns g c).After-look_over-look in
    let chooses : Token → Bool = chosen m key span ts in
    let d-is : c.nearest.result.length ≡ distance chooses span ts = c.nearest.ensures.length ∙ far_is key law c.requires (least_is g look) (most_is g look) in
    let spare_is : (k : ℕ) → get_or c.free_processors.result k 0 ≡ get_or (free m chooses ts) k 0 =
    λ k. c.free_processors.ensures k ∙ ap (λ l. get_or l k 0) (unmarked m (picked key span c.last_chosen-last.result) ts c.look_over-look.result.taken c.requires.sound.few c.look_over-look.ensures.taken ∙ ap (λ f. free m f ts) (sym (same g look))) in
    record {
      runnable = subst (λ k. Runnable m chooses k c.free_processors.result ts) (sym d-is) (runnable key law c.requires c.free_processors.result spare_is);
      same = refl;
      picks = λ x. ap (λ f. f x) (same g look);
      length = d-is;
      kind = c.nearest.ensures.kind ∙ nearest_is key law c.requires (least_is g look) (most_is g look) ∙ ap (λ k. event chooses k (span - k) ts) (sym d-is);
    }
