use Rattle.std.proofs.Common.{false, not, get_or, sym, ap, ◌∙◌}
use Rattle.planner.specs.Lining.{settled, those}
use Rattle.planner.proofs.Onward.{all_seated}
use Rattle.planner.proofs.RunOn.{same_places, settled_on, spare_low, unmarked_all}
use Rattle.planner.proofs.running.run_on.Goals as goal

pub seat-requires : goal.seat-requires
seat-requires c =
    let rows = c.args.rows.now in
    let run = c.args.run.now in
    let told = c.settle-settled.ensures in
    record {
      run = same_places (settled c.args.places.now c.args.units) run rows c.settle-settled.new.rows told.rows run c.requires.run;
      few = c.requires.few;
      low = spare_low (λ p. not (get_or c.settle-settled.result.taken p false)) c.args.processors c.free_processors-spare.result c.requires.within c.free_processors-spare.ensures;
      on = settled_on c.args.places.now c.args.units rows c.settle-settled.new.rows run c.requires.run told.rows;
    }

pub returns-then-settled-eq0 : goal.returns-then-settled-eq0
returns-then-settled-eq0 c =
    let rows = c.args.rows.now in
    let run = c.args.run.now in
    let mid = c.settle-settled.new.rows in
    let told = c.settle-settled.ensures in
    record {
      ran = record {
        mid = mid;
        settles = told.rows;
        seats = all_seated c.args.processors mid run (same_places (settled c.args.places.now c.args.units) run rows mid told.rows run c.requires.run) (sym told.fresh ∙ c.if-settled-eq0.true);
        next_is = told.places;
        left_is = told.kept;
      };
      places = told.ran;
    }

pub returns-else-settled-eq0 : goal.returns-else-settled-eq0
returns-else-settled-eq0 c =
    let run = c.args.run.now in
    let mid = c.settle-settled.new.rows in
    let told = c.settle-settled.ensures in
    let m = c.args.processors in
    record {
      ran = record {
        mid = mid;
        settles = told.rows;
        seats = c.seat.ensures.rows m
            (λ j. c.free_processors-spare.ensures j ∙ ap (λ l. get_or l j 0) (unmarked_all m (those mid run) c.settle-settled.result.taken c.requires.within told.taken));
        next_is = c.seat.ensures.places;
        left_is = told.kept;
      };
      places = told.ran;
    }
