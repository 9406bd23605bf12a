use Rattle.std.proofs.Common.{◌≡◌, ◌+◌, List, [], ◌∷◌, ◌++◌, length, get_or, take, sym, ap, ◌∙◌, subst, append_assoc, arith}
use Rattle.std.specs.List.Sorted.{IsPermutation}
use Rattle.std.specs.Option.{unwrap_or}
use Rattle.std.proofs.lemmas.Option.{MatchOption-at_some}
use Rattle.std.proofs.lemmas.List.{take_more, take_all}
use Rattle.std.proofs.lemmas.List.Sorted.{length_permutation}
use Rattle.std.specs.declared.cmp.Reverse.{Reverse}
use Rattle.rows.specs.declared.memory.Token.{Token}
use Rattle.queue.specs.Held.{held}
use Rattle.choosing.specs.declared.entry.Entry.{Entry}
use Rattle.choosing.specs.Keeping.{last_first, KeepsFirst}
use Rattle.choosing.proofs.Firsts.{blank, comes, stays, some_full, last_of_full, top_there}
use Rattle.choosing.proofs.ranking.Ranking.improve.Goals as goal
use Rattle.choosing.proofs.ranking.Ranking.improve.Goals.{then-is_up_to, else-is_up_to}

pub loop-token-preserved : goal.loop-token-preserved
loop-token-preserved g c =
    let l = c.loop-token in
    let i = l.token-index in
    let m = length c.args.best.now.memory.now in
    let key = g.R.Rule.ranks c.args.self.now.rule.now in
    let span = c.args.self.now.span in
    let ts = c.args.tokens.now in
    let t = get_or ts i blank in
    let hs = held l.best in
    let heap = l.invariant.0 in
    let is_last = l.invariant.1 in
    let full = some_full m hs l.last is_last in
    let one_more : (seen : List Token) → (seen ++ take i ts) ++ t ∷ [] ≡ seen ++ take (i + 1) ts = λ seen. append_assoc seen (take i ts) (t ∷ []) ∙ ap (λ ss. seen ++ ss) (sym (take_more ts i blank (omega arith))) in elim c.if-is_up_to.branch [
      | then-is_up_to w ↦
          let hs' = held w.replace_first.new.self in
          let old : Reverse Entry = record { 0 = l.last } in
          let is-top = top_there m hs l.last is_last in
          let put = MatchOption-at_some _ _ old (w.replace_first.ensures.answer ∙ is-top) w.replace_first.ensures.after in
          let moved = subst (λ e. IsPermutation (record { 0 = e } ∷ hs) (old ∷ hs')) w.entry.ensures put.items in
          rw (w.best-is, w.last-is) (
            put.order last_first heap,
            last_of_full m hs' _ l.last (omega (arith, length_permutation _ _ moved, full.0)) full.1 (w.unwrap_or-last.ensures ∙ ap (λ t. unwrap_or t l.last) w.top.ensures),
            λ seen kept. subst (λ ss. KeepsFirst m key span ss hs') (one_more seen) (comes m key span (seen ++ take i ts) t hs (l.invariant.2 seen kept) l.last old hs' heap is_last is-top (sym w.if-is_up_to.ensures) moved),
          )
      | else-is_up_to w ↦
          rw (w.best-is, w.last-is) (heap, is_last, λ seen kept. subst (λ ss. KeepsFirst m key span ss hs) (one_more seen) (stays m key span (seen ++ take i ts) t hs (l.invariant.2 seen kept) l.last heap is_last (sym w.if-is_up_to.ensures)))
    ]

pub returns-clause-kept : goal.returns-clause-kept
returns-clause-kept g c = λ seen kept.
    let l = c.loop-token in
    let me = c.args.self.now in
    subst (λ ss. KeepsFirst (length c.args.best.now.memory.now) (g.R.Rule.ranks me.rule.now) me.span (seen ++ ss) (held l.best)) (take_all l.token-index c.args.tokens.now (omega arith)) (l.invariant.2 seen kept)
