use Rattle.std.proofs.Common.{map, length, refl, ◌∙◌, subst, arith, ne_eqb}
use Rattle.std.specs.List.Sorted.{IsPermutation}
use Rattle.std.proofs.lemmas.List.{take_all}
use Rattle.std.proofs.lemmas.Bool.{cond-false}
use Rattle.std.proofs.lemmas.Result.{MatchResult-at_ok}
use Rattle.std.proofs.ByRecursion.{all_shuffled}
use Rattle.std.proofs.lemmas.List.Recursion.{and_at}
use Rattle.rows.specs.declared.memory.Task.{Task}
use Rattle.rows.specs.Tests.{all}
use Rattle.queue.specs.Held.{held, Inserted}
use Rattle.ahead.specs.Ahead.{timely}
use Rattle.ahead.specs.Waiting.{compared, by_tick, first_due}
use Rattle.ahead.proofs.Gathering.{none_held, held_long, gathered}
use Rattle.ahead.proofs.gather.Goals as goal

abbrev none : Task
none = record { tag = 0; execution = 0; period = 0; release = 0 }

pub loop-task-init : goal.loop-task-init
loop-task-init c = let r = none_held (held c.args.queue.now) c.requires.empty in (refl, r.0, r.1, r.2)

pub first-requires : goal.first-requires
first-requires c = and_at (all (timely c.args.tick)) (timely c.args.tick) refl (λ _ _. refl) c.args.rows.now c.loop-task.task-index none (omega arith) c.requires.timely

pub loop-task-preserved : goal.loop-task-preserved
loop-task-preserved c =
    let l = c.loop-task in
    let i = l.task-index in
    let q = l.queue in
    let q' = c.insert.new.self in
    let f = first_due c.args.tick in
    let rows = c.args.rows.now in
    let long = held_long f rows i none (omega arith) q q' l.invariant.1 in
    let room = ne_eqb (length (held q)) (length q.memory.now) (omega (arith, long, l.invariant.0, c.requires.room)) in
    let put = MatchResult-at_ok _ _ tt (c.insert.ensures.answer ∙ cond-false _ _ _ room) c.insert.ensures.after in
    let put' = subst (λ d. Inserted compared q d q') c.first.ensures.value put in (
      put.size ∙ l.invariant.0,
      gathered f rows i none (omega arith) q q' l.invariant.1 put',
      put.order by_tick l.invariant.2,
      all_shuffled _ _ (held q') put.items (omega arith, l.invariant.3),
    )

pub returns-clause-items : goal.returns-clause-items
returns-clause-items c =
    let l = c.loop-task in
    subst (λ ts. IsPermutation (map (first_due c.args.tick) ts) (held l.queue)) (take_all l.task-index c.args.rows.now (omega arith)) l.invariant.1
