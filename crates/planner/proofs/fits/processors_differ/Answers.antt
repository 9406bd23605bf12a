use Rattle.std.proofs.Common.{◌≡◌, ℕ, ◌+◌, ◌<◌, true, false, not, ◌||◌, eqb, List, [], ◌∷◌, ◌++◌, length, get_or, take, drop, set, sym, refl, ap, ◌∙◌, subst, arith, rules}
use Rattle.std.proofs.lemmas.List.{take_more, take_all, take-append-drop, map-append, length-set}
use Rattle.std.proofs.lemmas.Bool.Decides.{nat_tests}
use Rattle.rows.specs.declared.memory.Token.{Token}
use Rattle.rows.specs.Tests.{has, distinct}
use Rattle.planner.specs.Lining.{no_token}
use Rattle.planner.proofs.Looks.{processors}
use Rattle.planner.proofs.Marks.{Marks, distinct_push, distinct_not, marks_none, marks_push}
use Rattle.planner.proofs.fits.processors_differ.Goals as goal
use Rattle.planner.proofs.fits.processors_differ.Goals.{else-processor-gt0-via-then-processor-gt0+else-taken-processor, else-processor-gt0-via-else-processor-gt0}

-- the processors with one row more
more : (rows : List Token) (i : ℕ) → i < length rows → processors (take (i + 1) rows) ≡ processors (take i rows) ++ (get_or rows i no_token).processor ∷ []
more rows i h = ap processors (take_more rows i no_token h) ∙ map-append (λ (x : Token). x.processor) (take i rows) (get_or rows i no_token ∷ [])

pub loop-token-init : goal.loop-token-init
loop-token-init c = (refl, refl, marks_none 256)

pub returns-then-taken-processor : goal.returns-then-taken-processor
returns-then-taken-processor c =
    let rows = c.args.rows.now in
    let i = c.loop-token.token-index in
    let q = (get_or rows i no_token).processor in
    let small : q < length c.loop-token.taken = search rules in
    let was : true ≡ has q (processors (take i rows)) = sym c.if-taken-processor.true ∙ c.loop-token.invariant.2 q small in
    let push = distinct_push q (processors (take i rows)) in
    let twice : distinct (processors (take (i + 1) rows)) ≡ false = ap distinct (more rows i (omega arith)) ∙ grind (arith, nat_tests) in
    let whole : processors (take (i + 1) rows) ++ processors (drop (i + 1) rows) ≡ processors rows = sym (map-append (λ (x : Token). x.processor) (take (i + 1) rows) (drop (i + 1) rows)) ∙ ap processors (take-append-drop (i + 1) rows) in
    sym (distinct_not (processors (take (i + 1) rows)) (processors (drop (i + 1) rows)) twice) ∙ ap distinct whole

-- a row whose processor is 0, or was not marked, is apart from those before
apart : (rows : List Token) (i : ℕ) → i < length rows → distinct (processors (take i rows)) ≡ true
    → (eqb (get_or rows i no_token).processor 0 || not (has (get_or rows i no_token).processor (processors (take i rows)))) ≡ true
    → distinct (processors (take (i + 1) rows)) ≡ true
apart rows i h was new = let push = distinct_push (get_or rows i no_token).processor (processors (take i rows)) in ap distinct (more rows i h) ∙ grind (arith, nat_tests)

pub loop-token-preserved : goal.loop-token-preserved
loop-token-preserved c =
    let rows = c.args.rows.now in
    let i = c.loop-token.token-index in
    let q = (get_or rows i no_token).processor in
    let inv = c.loop-token.invariant in
    let small : q < length c.loop-token.taken = search rules in
    let mark = inv.2 q small in (
      length-set c.loop-token.taken q true ∙ inv.0,
      elim c.else-processor-gt0.branch [
        | else-processor-gt0-via-then-processor-gt0+else-taken-processor w ↦ let clear = w.if-taken-processor.false in apart rows i (omega arith) inv.1 (grind (arith, nat_tests))
        | else-processor-gt0-via-else-processor-gt0 w ↦ let none = w.if-processor-gt0.false in apart rows i (omega arith) inv.1 (grind (arith, nat_tests))
      ],
      subst (Marks (set c.loop-token.taken q true)) (sym (more rows i (omega arith))) (marks_push c.loop-token.taken (processors (take i rows)) q small inv.2),
    )

pub returns : goal.returns
returns c = sym (ap (λ l. distinct (processors l)) (sym (take_all c.loop-token.token-index c.args.rows.now (omega arith))) ∙ c.loop-token.invariant.1)
