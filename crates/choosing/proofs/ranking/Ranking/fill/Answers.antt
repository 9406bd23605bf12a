use Rattle.std.proofs.Common.{◌≡◌, ◌<◌, true, false, ◌∷◌, length, get_or, take, sym, refl, ◌∙◌, subst, arith, le-ltb, lt-ltb}
use Rattle.std.proofs.lemmas.Bool.{eqb-false}
use Rattle.std.specs.List.Sorted.{IsPermutation}
use Rattle.std.proofs.lemmas.List.{nil_from_length, take_more}
use Rattle.queue.specs.Held.{held}
use Rattle.queue.proofs.Heap.{heap_none}
use Rattle.model.specs.Steps.{active}
use Rattle.choosing.specs.Keeping.{last_first, KeepsFirst}
use Rattle.choosing.proofs.Firsts.{blank, keeps_none, passed, entered}
use Rattle.choosing.proofs.Taking.{accepted}
use Rattle.choosing.proofs.ranking.Ranking.fill.Goals as goal
use Rattle.choosing.proofs.ranking.Ranking.fill.Goals.{else-token-gt0-via-then-token-gt0+else-is_err, else-token-gt0-via-else-token-gt0}

pub loop-i-init : goal.loop-i-init
loop-i-init g c =
    let hs = held c.args.best.now in
    (refl, heap_none last_first hs (nil_from_length hs c.requires), keeps_none _ _ _ hs c.requires)

pub loop-i-preserved : goal.loop-i-preserved
loop-i-preserved g c =
    let l = c.loop-i in
    let i = l.i in
    let m = length c.args.best.now.memory.now in
    let key = g.R.Rule.ranks c.args.self.now.rule.now in
    let span = c.args.self.now.span in
    let ts = c.args.tokens.now in
    let t = get_or ts i blank in
    let hs = held l.best in
    let was = l.invariant.2 in
    let one_more = sym (take_more ts i blank (omega arith)) in elim c.else-token-gt0.branch [
      | else-token-gt0-via-then-token-gt0+else-is_err w ↦
          let hs' = held w.insert.new.self in
          let put = accepted _ _ _ _ w.insert.ensures.answer (sym w.if-is_err.ensures.value) w.insert.ensures.after in
          let room : length hs < m = omega (arith, eqb-false (length hs) (length l.best.memory.now) put.0, was.size, l.invariant.0) in
          let moved = subst (λ e. IsPermutation (record { 0 = e } ∷ hs) hs') w.entry.ensures put.1.items in
          let on : active t ≡ true = lt-ltb 0 t.left w.if-token-gt0.true in
          rw w.best-is (put.1.size ∙ l.invariant.0, put.1.order last_first l.invariant.1, subst (λ ss. KeepsFirst m key span ss hs') one_more (entered m key span (take i ts) t hs was on hs' room moved))
      | else-token-gt0-via-else-token-gt0 w ↦
          let off : active t ≡ false = le-ltb 0 t.left w.if-token-gt0.false in
          rw w.best-is (l.invariant.0, l.invariant.1, subst (λ ss. KeepsFirst m key span ss hs) one_more (passed m key span (take i ts) t hs was off))
    ]
