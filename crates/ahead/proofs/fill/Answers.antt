use Rattle.std.proofs.Common.{sym, ◌∙◌, subst, arith}
use Rattle.std.proofs.lemmas.Option.{MatchOption-at_some}
use Rattle.std.proofs.lemmas.List.Sorted.{length_permutation}
use Rattle.queue.specs.Held.{held, Replaced}
use Rattle.ahead.specs.Waiting.{compared, by_tick}
use Rattle.ahead.proofs.Places.{waits, lists, stays_near}
use Rattle.ahead.proofs.fill.Goals as goal

pub loop-place-preserved : goal.loop-place-preserved
loop-place-preserved c =
    let l = c.loop-place in
    let i = l.place-index in
    let hs = held l.queue in
    let hs' = held c.replace_first.new.self in
    let x = c.in-Some.first in
    let told = c.in-Some.ensures in
    let put = subst (λ d. Replaced compared l.queue x d c.replace_first.new.self) c.later.ensures (MatchOption-at_some _ _ x (c.replace_first.ensures.answer ∙ sym told.answer) c.replace_first.ensures.after) in (
      omega (arith, length_permutation _ _ put.items, l.invariant.0),
      stays_near i hs hs' x (omega arith) (sym told.answer) put.items l.invariant.1,
      λ ts tick table heap waiting.
          let was = l.invariant.2 ts tick table heap waiting in
          let on_top = told.leads by_tick was.0 in
          rw c.into.ensures (
            put.order by_tick was.0,
            waits ts table tick l.places i (omega arith) hs hs' x (sym told.answer) on_top put.items was.1 was.2,
            lists ts table tick l.places i (omega arith) hs hs' x (sym told.answer) on_top put.items was.1 was.2,
          ),
    )

pub returns : goal.returns
returns c = λ ts tick table heap waiting k lt. (c.loop-place.invariant.2 ts tick table heap waiting).2 k (omega arith)
