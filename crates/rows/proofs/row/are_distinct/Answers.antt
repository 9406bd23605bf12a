use Rattle.std.proofs.Common.{◌+◌, ◌-◌, length, take, drop, slice_index, nat_eq, rules, tests, arith}
use Rattle.std.proofs.lemmas.Iterator.{YieldsList-from_slice}
use Rattle.std.proofs.lemmas.Iterator.Search.{any_from_yields_List}
use Rattle.std.proofs.lemmas.List.{at_drop_more, at_drop_all, take_rest}
use Rattle.std.proofs.lemmas.Bool.Decides.{nat_tests}
use Rattle.rows.specs.Tests.{distinct}
use Rattle.rows.proofs.Has.{has_any}
use Rattle.rows.proofs.row.are_distinct.Goals as goal
use Rattle.rows.proofs.row.are_distinct.Goals.{else-tag-ne0-via-then-tag-ne0+else-any, else-tag-ne0-via-else-tag-ne0}

pub returns-then-any : goal.returns-then-any
returns-then-any c =
    let e = at_drop_more distinct c.args.tags.now c.loop-i.i 0 (omega arith) in
    let k = has_any (slice_index c.args.tags.now c.loop-i.i) (drop (c.loop-i.i + 1) c.args.tags.now) in
    let a = any_from_yields_List {all = take (length c.args.tags.now - (c.loop-i.i + 1)) (drop (c.loop-i.i + 1) c.args.tags.now)} (λ t. nat_eq t (slice_index c.args.tags.now c.loop-i.i)) _ _ c.any.result c.any.ensures.ran (YieldsList-from_slice _ (cc)) (λ x b q k. search (rules, tests)) in
    let h = rw (take_rest c.args.tags.now (c.loop-i.i + 1)) at a
    in grind (arith, nat_tests)

pub loop-i-preserved : goal.loop-i-preserved
loop-i-preserved c =
    let e = at_drop_more distinct c.args.tags.now c.loop-i.i 0 (omega arith) in
    elim c.else-tag-ne0.branch [
      | else-tag-ne0-via-then-tag-ne0+else-any w ↦
          let k = has_any (slice_index c.args.tags.now c.loop-i.i) (drop (c.loop-i.i + 1) c.args.tags.now) in
          let a = any_from_yields_List {all = take (length c.args.tags.now - (c.loop-i.i + 1)) (drop (c.loop-i.i + 1) c.args.tags.now)} (λ t. nat_eq t (slice_index c.args.tags.now c.loop-i.i)) _ _ w.any.result w.any.ensures.ran (YieldsList-from_slice _ (cc)) (λ x b q k. search (rules, tests)) in
          let h = rw (take_rest c.args.tags.now (c.loop-i.i + 1)) at a in grind (arith, nat_tests)
      | else-tag-ne0-via-else-tag-ne0 w ↦ grind (arith, nat_tests)
    ]

pub returns : goal.returns
returns c =
    let e = at_drop_all distinct c.args.tags.now c.loop-i.i (omega arith)
    in grind (arith, nat_tests)
