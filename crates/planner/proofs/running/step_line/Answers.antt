use Rattle.std.proofs.Common.{◌≡◌, ◌-◌, ◌++◌, length, take, drop, sym, ap, ◌∙◌, subst, arith}
use mathlib.Core.Path.{transport}
use Rattle.std.proofs.lemmas.List.{length-take}
use Rattle.rows.specs.Kinds.{kind_number}
use Rattle.rules.specs.Keys.{largest_first}
use Rattle.model.proofs.Largest.{lawful}
use Rattle.planner.specs.Lining.{Lined, Alike, those}
use Rattle.planner.proofs.Standing.{places_of}
use Rattle.planner.proofs.Striding.{by_largest, front_places, most_fits, Went, few_left, after_places, copy_front, copy_long, front_lined, back_lined, strides}
use Rattle.planner.proofs.running.step_line.Goals as goal
use Rattle.planner.proofs.running.step_line.Goals.{After-run_on-settled}

pub next_event-event-requires : goal.next_event-event-requires
next_event-event-requires c =
    let rows = c.args.rows.now in
    let line = c.args.line.now in
    record {
      inside = (places_of rows line c.requires.kept.lines).inside;
      within = omega (arith, c.min-running.ensures);
      low = most_fits c.requires.ready c.requires.kept c.min-running.ensures;
    }

pub run_on-settled-requires : goal.run_on-settled-requires
run_on-settled-requires c =
    let rows = c.args.rows.now in
    let line = c.args.line.now in
    let r = c.min-running.result in
    record {
      run = front_places rows r line (places_of rows line c.requires.kept.lines);
      few = omega (arith, length-take r line, c.min-running.ensures, c.requires.ready.sound.few);
      within = c.requires.ready.sound.few;
    }

-- those at the front have run
went : (c : goal.After-run_on-settled) → Went c.args.processors c.args.span c.args.rows.now c.args.line.now c.args.places.now c.min-running.result c.next_event-event.result.length
    c.run_on-settled.result.kept c.run_on-settled.new.rows c.run_on-settled.new.places
went c = record { ready = c.requires.ready; was = c.requires.kept; running = c.min-running.ensures; units = c.next_event-event.ensures.length; ran = c.run_on-settled.ensures.ran }

-- and the copy begins with those of them that have time left
front_is : (c : goal.After-run_on-settled) → take c.run_on-settled.result.kept c.run_on-settled.result.ran ≡ take c.run_on-settled.result.kept c.args.line.now
front_is c = copy_front c.args.line.now c.run_on-settled.result.ran c.min-running.result c.run_on-settled.result.kept c.run_on-settled.ensures.places (omega (arith, c.min-running.ensures)) (few_left (went c))

front_long : (c : goal.After-run_on-settled) → length (take c.run_on-settled.result.kept c.run_on-settled.result.ran) ≡ c.run_on-settled.result.kept
front_long c = copy_long c.args.line.now c.run_on-settled.result.ran c.min-running.result c.run_on-settled.result.kept (front_is c) (omega (arith, c.min-running.ensures)) (few_left (went c))

pub rejoin-requires : goal.rejoin-requires
rejoin-requires c =
    let ran = (goal.at.rejoin-requires c).After-run_on-settled in
    let it = went ran in
    let long = front_long ran in
    record {
      same = front_is ran ∙ ap (λ k. take k c.args.line.now) (sym long);
      within = omega (arith, c.min-running.ensures);
      left = omega (arith, long, few_left it);
      inside = (after_places it).inside;
      ran = subst (λ l. Lined (those c.run_on-settled.new.rows l)) (sym (front_is ran)) (front_lined it largest_first lawful by_largest);
      rest = back_lined it largest_first lawful by_largest;
    }

pub returns : goal.returns
returns c =
    let ran = (goal.at.returns c).After-run_on-settled in
    let r = c.min-running.result in
    let left = c.run_on-settled.result.kept in
    let now = c.rejoin.new.line in
    let few = few_left (went ran) in
    let long = front_long ran in
    record {
      freed = omega (arith, c.min-running.ensures, c.rejoin.auto.line);
      within = omega (arith, c.next_event-event.ensures.length);
      step = λ key law by. strides (went ran) key law by (kind_number c.next_event-event.result.kind) (drop (r - left) now) c.next_event-event.ensures.kind
          (transport (λ j. Alike (front_is ran j ++ drop r c.args.line.now) (drop (r - long j) now)) c.rejoin.ensures.same)
          (subst (λ k. Lined (those c.run_on-settled.new.rows (drop (r - k) now))) long c.rejoin.ensures.lined);
    }
