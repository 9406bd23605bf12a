-- The last token that runs has the least time left of those that run, and the first that waits the most of the others.
use Rattle.std.proofs.Common.{◌≡◌, ℕ, ◌-◌, ◌<◌, ◌≤◌, min, Bool, true, false, cond, not, ◌&&◌, eqb, ltb, List, length, get_or, take, drop, count_by, sym, refl, ap, ◌∙◌, ⊎_elim, arith}
use Rattle.std.proofs.lemmas.List.{length-map, length-take, length-drop, get_or-map}
use Rattle.std.proofs.lemmas.List.Sums.{count_by-le-length}
use Rattle.std.proofs.lemmas.Bool.{and_parts, and_from, not-true, not_from_false, lt-ltb, le-ltb, eq-eqb, eqb-true, cases_lt, cond-true, cond-false}
use Rattle.rows.specs.declared.memory.Token.{Token}
use Rattle.rules.specs.Keys.{Key, ByLeft}
use Rattle.model.specs.Steps.{active, chosen}
use Rattle.model.specs.Members.{In}
use Rattle.model.proofs.Counts.{count_none}
use Rattle.planner.specs.Runs.{Ready}
use Rattle.planner.specs.Lining.{Kept, everyone, no_token, at, those, seated}
use Rattle.planner.specs.Looking.{least_left, most_left}
use Rattle.planner.proofs.Tallies.{in_count, count_in}
use Rattle.planner.proofs.Members.{in_take_getD, in_drop_getD}
use Rattle.planner.proofs.Extremes.{least_span, least_le, least_ge, most_ge, most_le, last_least, first_most}
use Rattle.planner.proofs.Standing.{stands}
use Rattle.planner.proofs.Ranked.{runs, waits}

module _ (key : Key) (by : ByLeft key) {m span : ℕ} {ts rows : List Token} {line places : List ℕ} (ready : Ready m span ts) (is : Kept ts rows line places) where
  abbrev picks : Token → Bool
  picks = chosen m key span ts

  abbrev us : List Token
  us = those rows line

  -- counting those that run, in the line
  ran : (p : Token → Bool) → count_by (λ x. picks x && p x) ts ≡ count_by (λ x. p (seated places x)) (take m us)
  ran = runs m key by span ts us places ready.sound ready.short (stands ts rows line places is)

  -- and those that wait
  waiting : (p : Token → Bool) → count_by (λ x. not (picks x) && (active x && p x)) ts ≡ count_by (λ x. p (seated places x)) (drop m us)
  waiting = waits m key by span ts us places ready.sound ready.short (stands ts rows line places is)

  -- the last of the first m has the least time left of those that run
  least_some : (r : ℕ) → r ≡ min m (length us) → 0 < r → (get_or us (r - 1) no_token).left ≡ least_left picks span ts
  least_some r r-is pos =
      let w : ℕ = (get_or us (r - 1) no_token).left in
      let some = in_count (λ x. eqb x.left w) (take m us) (in_take_getD us m (r - 1) no_token (omega arith) (omega arith)) (eq-eqb w w refl) in
      let s = count_in (λ x. picks x && eqb x.left w) ts (omega (arith, ran (λ x. eqb x.left w))) in
      let p = and_parts (picks s.0) (eqb s.0.left w) s.2 in
      let e = eqb-true s.0.left w p.1 in
      let top = ready.sound.low s.0 s.1 in
      let le = least_le picks span ts s.0 s.1 p.0 in
      let ge = least_ge picks span ts w (omega arith) each in
      omega arith
    where
      each : (x : Token) → In x ts → picks x ≡ true → (get_or us (r - 1) no_token).left ≤ x.left
      each x i h = ⊎_elim
          (λ l. let w : ℕ = (get_or us (r - 1) no_token).left in
          let one = in_count (λ x. picks x && ltb x.left w) ts i (and_from _ _ h (lt-ltb x.left w l)) in
          let none = count_none (λ x. ltb x.left w) (take m us) (λ y j. le-ltb y.left w (last_least us is.lines.order m r r-is pos no_token y j)) in
          absurd (omega (arith, ran (λ x. ltb x.left w))))
          (λ ge. ge)
          (cases_lt x.left (get_or us (r - 1) no_token).left)

  -- where none runs it is the span
  least_none : length us ≡ 0 → span ≡ least_left picks span ts
  least_none empty =
      omega (arith, least_span picks span ts, least_ge picks span ts span (omega arith) (λ x i h. absurd (never x i h)))
    where
      never : (x : Token) → In x ts → picks x ≡ true → ⊥
      never x i h =
          omega (arith, ran everyone, in_count (λ x. picks x && true) ts i (and_from _ _ h refl), count_by-le-length everyone (take m us), length-take m us)

  -- the least time left of those that run
  pub least_is : {r : ℕ} → r ≡ min m (length line) → cond (ltb 0 r) (at rows (get_or line (r - 1) 0)).left span ≡ least_left (chosen m key span ts) span ts
  least_is {r} r-is = ⊎_elim
      (λ pos. cond-true (ltb 0 r) _ span (lt-ltb 0 r pos)
      ∙ ap (λ x. x.left) (sym (get_or-map (at rows) line (r - 1) 0 no_token (omega arith)))
      ∙ least_some r (omega (arith, length-map line (at rows))) pos)
      (λ none. cond-false (ltb 0 r) _ span (le-ltb 0 r none) ∙ least_none (omega (arith, length-map line (at rows), ready.sound.some)))
      (cases_lt 0 r)

  -- the first that waits has the most time left of those that do not run
  most_some : m < length us → (get_or us m no_token).left ≡ most_left picks ts
  most_some more =
      let w : ℕ = (get_or us m no_token).left in
      let some = in_count (λ x. eqb x.left w) (drop m us) (in_drop_getD us m no_token more) (eq-eqb w w refl) in
      let s = count_in (λ x. not (picks x) && (active x && eqb x.left w)) ts (omega (arith, waiting (λ x. eqb x.left w))) in
      let p = and_parts (not (picks s.0)) (active s.0 && eqb s.0.left w) s.2 in
      let e = eqb-true s.0.left w (and_parts (active s.0) (eqb s.0.left w) p.1).1 in
      let ge = most_ge picks ts s.0 s.1 (not-true (picks s.0) p.0) in
      let le = most_le picks ts w each in
      omega arith
    where
      each : (x : Token) → In x ts → picks x ≡ false → x.left ≤ (get_or us m no_token).left
      each x i h = ⊎_elim
          (λ l. let w : ℕ = (get_or us m no_token).left in
          let one = in_count (λ x. not (picks x) && (active x && ltb w x.left)) ts i
          (and_from _ _ (not_from_false (picks x) h) (and_from _ _ (lt-ltb 0 x.left (omega arith)) (lt-ltb w x.left l))) in
          let none = count_none (λ x. ltb w x.left) (drop m us) (λ y j. le-ltb w y.left (first_most us is.lines.order m more no_token y j)) in
          absurd (omega (arith, waiting (λ x. ltb w x.left))))
          (λ ge. ge)
          (cases_lt (get_or us m no_token).left x.left)

  -- where none waits it is 0
  most_none : length us ≤ m → 0 ≡ most_left picks ts
  most_none few = omega (arith, most_le picks ts 0 each)
    where
      each : (x : Token) → In x ts → picks x ≡ false → x.left ≤ 0
      each x i h = ⊎_elim
          (λ l. absurd (omega (
            arith,
            waiting everyone,
            count_by-le-length everyone (drop m us),
            length-drop m us,
            in_count (λ x. not (picks x) && (active x && true)) ts i (and_from _ _ (not_from_false (picks x) h) (and_from _ _ (lt-ltb 0 x.left l) refl)),
          )))
          (λ ge. ge)
          (cases_lt 0 x.left)

  -- the most time left of the others
  pub most_is : {r : ℕ} → r ≡ min m (length line) → cond (ltb r (length line)) (at rows (get_or line r 0)).left 0 ≡ most_left (chosen m key span ts) ts
  most_is {r} r-is = ⊎_elim
      (λ more. let e : r ≡ m = omega arith in
      cond-true (ltb r (length line)) _ 0 (lt-ltb r (length line) more)
      ∙ ap (λ x. x.left) (sym (get_or-map (at rows) line r 0 no_token more))
      ∙ ap (λ k. (get_or us k no_token).left) e
      ∙ most_some (omega (arith, length-map line (at rows))))
      (λ none. cond-false (ltb r (length line)) _ 0 (le-ltb r (length line) none) ∙ most_none (omega (arith, length-map line (at rows))))
      (cases_lt r (length line))
