use Rattle.std.proofs.Common.{◌≡◌, ℕ, suc, sym, refl, ap, ◌∙◌, add-one, subst, arith}
use Rattle.std.specs.Option.{IsSome}
use Rattle.std.proofs.lemmas.Bool.{lt-leb, le-leb}
use Rattle.rows.specs.Limits.{last_tick}
use Rattle.model.specs.Tables.{earliest}
use Rattle.whole_plan.specs.Ends.{tick_after}
use Rattle.whole_plan.proofs.Earliest.{ready_at, found_at, earliest_within, ends_later, ends_within}
use Rattle.whole_plan.proofs.ends.end_in_time.Goals as goal
use Rattle.whole_plan.proofs.ends.end_in_time.Goals.{After-unwrap-end}

pub returns-then-planes-shortest : goal.returns-then-planes-shortest
returns-then-planes-shortest c =
    let rows = c.args.rows.now in
    let near = λ (tick : ℕ). earliest_within tick c.shortest.result rows (ready_at rows c.requires.some c.requires.ready tick) c.shortest.ensures in
    let l = ends_within rows c.shortest.result near c.args.planes in
    sym (le-leb (tick_after c.args.planes rows) last_tick (omega arith))

pub unwrap-end-requires : goal.unwrap-end-requires
unwrap-end-requires c =
    let found = c.earliest_release.ensures ∙ found_at c.args.rows.now c.requires.some c.requires.ready c.loop-plane.tick in
    subst IsSome (sym found) refl

-- one plane more has ended where the definition says
ends : (c : After-unwrap-end) → c.unwrap-end.result ≡ tick_after (suc c.loop-plane._plane) c.args.rows.now
ends c =
    let rows = c.args.rows.now in
    let found = c.earliest_release.ensures ∙ found_at rows c.requires.some c.requires.ready c.loop-plane.tick in
    let value : c.unwrap-end.result ≡ earliest c.loop-plane.tick rows = cc in
    value ∙ ap (λ t. earliest t rows) c.loop-plane.invariant.0

pub returns-then-end : goal.returns-then-end
returns-then-end c =
    let rows = c.args.rows.now in
    let l = ends_later rows c.requires.some c.requires.ready (suc c.loop-plane._plane) c.args.planes (omega arith) in
    sym (lt-leb (tick_after c.args.planes rows) last_tick (omega (arith, ends (goal.at.returns-then-end c).After-unwrap-end)))

pub loop-plane-preserved : goal.loop-plane-preserved
loop-plane-preserved c =
    (ends (goal.at.loop-plane-preserved c).After-unwrap-end ∙ ap (λ n. tick_after n c.args.rows.now) (sym (add-one c.loop-plane._plane)), omega arith)
