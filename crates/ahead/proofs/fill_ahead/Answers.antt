use Rattle.std.proofs.Common.{◌≡◌, ◌<◌, true, length, sym, arith, false-eqb}
use Rattle.std.proofs.lemmas.List.{length-map}
use Rattle.std.proofs.lemmas.List.Sorted.{length_permutation}
use Rattle.std.proofs.lemmas.Bool.{and_from, lt-ltb, le-leb}
use Rattle.rows.specs.Tests.{rising, all}
use Rattle.queue.specs.Held.{held}
use Rattle.model.specs.Tables.{tags}
use Rattle.ahead.specs.Ahead.{timely}
use Rattle.ahead.specs.Waiting.{first_due}
use Rattle.ahead.proofs.Gathering.{none_refused}
use Rattle.ahead.proofs.Listing.{table_from, waiting_first}
use Rattle.ahead.proofs.fill_ahead.Goals as goal

pub fill-requires-clause-some : goal.fill-requires-clause-some
fill-requires-clause-some c =
    let rows = c.args.rows.now in
    omega (arith, length_permutation _ _ c.gather.ensures.items, length-map rows (first_due c.args.tick), false-eqb (length rows) 0 c.if-is_empty.ensures)

pub returns : goal.returns
returns c =
    let rows = c.args.rows.now in
    let tick = c.args.tick in
    let up : rising (tags rows) ≡ true = sym c.if-not-is_rising.ensures in
    let ok : all (timely tick) rows ≡ true = sym c.if-not-are_timely.ensures in
    let some : 0 < length rows = omega (arith, false-eqb (length rows) 0 c.if-is_empty.ensures) in
    record {
      answer = sym (none_refused _ _ _ _ _ _ _ (and_from _ _ up ok) (lt-ltb 0 (length rows) some) (and_from _ _ (le-leb (length c.args.places.now) 65536 (omega arith)) (le-leb (length rows) (length c.args.memory.now) (omega arith))));
      list = c.fill.ensures rows tick (table_from tick rows up ok) c.gather.ensures.order (waiting_first tick rows (held c.gather.new.queue) up ok c.gather.ensures.items);
    }
