-- The first tokens of the line are those that are chosen.
use Rattle.std.proofs.Common.{◌≡◌, ℕ, ◌^◌, ◌<◌, ◌≤◌, Bool, true, false, not, ◌&&◌, eqb, ltb, ◌⊎◌, List, map, length, take, drop, count_by, sym, refl, ap, ◌∙◌, subst, inl, inr, arith}
use mathlib.Core.Bool.{and_assoc}
use Rattle.std.proofs.lemmas.List.{take-map}
use Rattle.std.proofs.lemmas.Bool.{and_parts, and_from, cases_order, eq-eqb, eqb-true}
use Rattle.std.proofs.lemmas.Bool.Decides.{nat_tests, same_from_decides}
use Rattle.rows.specs.declared.memory.Token.{Token}
use Rattle.rows.specs.Tests.{has}
use Rattle.rules.specs.Keys.{Key, ByLeft}
use Rattle.model.specs.Steps.{key_of, before, active, chosen}
use Rattle.model.specs.Members.{In}
use Rattle.model.proofs.Tags.{increasing}
use Rattle.model.proofs.Counts.{count_le, in_all}
use Rattle.model.proofs.Order.{same_token}
use Rattle.model.proofs.Bounds.{Sound}
use Rattle.model.proofs.Stepping.{map_map, map_in}
use Rattle.planner.specs.Lining.{Kept, sooner, no_token, at, those, seated}
use Rattle.planner.proofs.Tallies.{count_same, count_map, in_count, count_in}
use Rattle.planner.proofs.Members.{in_take, in_getD, in_has, has_in, same_place}
use Rattle.planner.proofs.Firsts.{Apart, Strict, rising_apart, strict, first_of, last_of}
use Rattle.planner.proofs.Standing.{StandsFor, stands, places_of}

-- where a is sure, only b is left to fail
and_late : (a b c : Bool) → (not (a && b) && (a && c)) ≡ (a && (not b && c))
and_late true b c = refl
and_late false b c = refl

module _ (m : ℕ) (key : Key) (by : ByLeft key) (span : ℕ) (ts line : List Token) (places : List ℕ) (ok : Sound m span ts) (short : span ≤ 2 ^ 54) (is : StandsFor ts line places) where
  -- how many in the line are chosen before a token
  abbrev ahead : Token → ℕ
  ahead x = count_by (λ y. sooner y x) line

  -- nothing but the time left counts, and then the tag
  same_order : (x y : Token) → In x ts → In y ts → before key span y x ≡ sooner y x
  same_order x y i j =
      let k = by span y.left x.left y.processor x.processor y.tag x.tag short (ok.low y j) (ok.low x i)
      (omega (arith, ok.on y j, ok.few)) (omega (arith, ok.on x i, ok.few)) (ok.short_tags y j) (ok.short_tags x i) in
      let l = by span x.left y.left x.processor y.processor x.tag y.tag short (ok.low x i) (ok.low y j)
      (omega (arith, ok.on x i, ok.few)) (omega (arith, ok.on y j, ok.few)) (ok.short_tags x i) (ok.short_tags y j) in
      go (cases_order x.left y.left) k.0 k.1 l.0
    where
      go : (x.left ≡ y.left) ⊎ ((x.left < y.left) ⊎ (y.left < x.left))
          → (x.left < y.left → key_of key span y < key_of key span x) → (y.left ≡ x.left → key_of key span y ≡ key_of key span x)
          → (y.left < x.left → key_of key span x < key_of key span y) → before key span y x ≡ sooner y x
      go (inl e) more same less = let s = same (sym e) in grind (arith, nat_tests)
      go (inr (inl a)) more same less = let s = more a in grind (arith, nat_tests)
      go (inr (inr a)) more same less = let s = less a in grind (arith, nat_tests)

  -- so as many are before it among the tokens as in the line
  ahead_is : (x : Token) → In x ts → count_by (λ y. active y && before key span y x) ts ≡ ahead x
  ahead_is x i =
      count_same (λ y. active y && before key span y x) (λ y. active y && sooner y x) ts (λ y j. ap (λ b. active y && b) (same_order x y i j))
      ∙ is.all (λ y. sooner y x)

  -- who is chosen, by the line
  chosen_is : (x : Token) → In x ts → chosen m key span ts x ≡ (active x && ltb (ahead x) m)
  chosen_is x i = ap (λ n. active x && ltb n m) (ahead_is x i)

  -- tags in the line are different, so each is chosen before those behind it
  line_strict : Strict line
  line_strict = strict line apart is.order
    where
      apart : Apart line
      apart t = omega (
        arith,
        is.all (λ y. eqb y.tag t),
        rising_apart 0 ts ok.tagged t,
        count_le (λ y. active y && eqb y.tag t) (λ y. eqb y.tag t) ts (λ y i h. (and_parts (active y) (eqb y.tag t) h).1),
      )

  -- the first m run
  pub runs : (p : Token → Bool) → count_by (λ x. chosen m key span ts x && p x) ts ≡ count_by (λ x. p (seated places x)) (take m line)
  runs p =
      count_same (λ x. chosen m key span ts x && p x) (λ x. active x && (ltb (ahead x) m && p x)) ts
      (λ x i. ap (λ b. b && p x) (chosen_is x i) ∙ and_assoc (active x) (ltb (ahead x) m) (p x))
      ∙ is.all (λ x. ltb (ahead x) m && p x)
      ∙ first_of (λ x. ltb (ahead x) m) (λ x. p (seated places x)) m line line_strict (λ x i. refl)

  -- and the others wait
  pub waits : (p : Token → Bool) → count_by (λ x. not (chosen m key span ts x) && (active x && p x)) ts ≡ count_by (λ x. p (seated places x)) (drop m line)
  waits p =
      count_same (λ x. not (chosen m key span ts x) && (active x && p x)) (λ x. active x && (not (ltb (ahead x) m) && p x)) ts
      (λ x i. ap (λ b. not b && (active x && p x)) (chosen_is x i) ∙ and_late (active x) (ltb (ahead x) m) (p x))
      ∙ is.all (λ x. not (ltb (ahead x) m) && p x)
      ∙ last_of (λ x. ltb (ahead x) m) (λ x. p (seated places x)) m line line_strict (λ x i. refl)

-- those that are chosen are counted by their places
pub runs_at : (m : ℕ) (key : Key) (by : ByLeft key) (span : ℕ) (ts rows : List Token) (line places : List ℕ) (ok : Sound m span ts) (short : span ≤ 2 ^ 54) (is : Kept ts rows line places)
    → (p : Token → Bool) → count_by (λ x. chosen m key span ts x && p x) ts ≡ count_by (λ i. p (seated places (at rows i))) (take m line)
runs_at m key by span ts rows line places ok short is p =
    runs m key by span ts (those rows line) places ok short (stands ts rows line places is) p
    ∙ ap (count_by (λ x. p (seated places x))) (take-map (at rows) m line)
    ∙ count_map (λ x. p (seated places x)) (at rows) (take m line)

-- who is chosen, by their places
pub chosen_place : (m : ℕ) (key : Key) (by : ByLeft key) (span : ℕ) (ts rows : List Token) (line places : List ℕ) (ok : Sound m span ts) (short : span ≤ 2 ^ 54) (is : Kept ts rows line places)
    → (i : ℕ) → i < length rows → chosen m key span ts (seated places (at rows i)) ≡ has i (take m line)
chosen_place m key by span ts rows line places ok short is i inside =
    same_from_decides {P = has i (take m line) ≡ true} (chosen m key span ts (seated places (at rows i))) (has i (take m line)) (found, back) (λ h. h, λ h. h)
  where
    counts : count_by (λ x. chosen m key span ts x && eqb x.tag (at rows i).tag) ts ≡ count_by (λ j. eqb (at rows j).tag (at rows i).tag) (take m line)
    counts = runs_at m key by span ts rows line places ok short is (λ x. eqb x.tag (at rows i).tag)

    member : In (seated places (at rows i)) ts
    member = subst (λ us. In (seated places (at rows i)) us) (sym is.same) (map_in (seated places) rows (in_getD rows i no_token inside))

    rise : increasing 0 (map (λ x. x.tag) rows) ≡ true
    rise = ap (increasing 0) (sym (ap (map (λ x. x.tag)) is.same ∙ map_map (λ x. x.tag) (seated places) rows)) ∙ ok.tagged

    found : chosen m key span ts (seated places (at rows i)) ≡ true → has i (take m line) ≡ true
    found h =
        let some = in_count (λ x. chosen m key span ts x && eqb x.tag (at rows i).tag) ts member (and_from _ _ h (eq-eqb (at rows i).tag (at rows i).tag refl)) in
        let s = count_in (λ j. eqb (at rows j).tag (at rows i).tag) (take m line) (omega (arith, counts)) in
        let j = s.0 in
        let within = in_all (λ j. j < length rows) (places_of rows line is.lines).inside (in_take m line s.1) in
        let e : j ≡ i = same_place (λ x. x.tag) no_token 0 rows rise j i within inside (eqb-true (at rows j).tag (at rows i).tag s.2) in
        in_has i (take m line) (subst (λ k. In k (take m line)) e s.1)

    back : has i (take m line) ≡ true → chosen m key span ts (seated places (at rows i)) ≡ true
    back h =
        let some = in_count (λ j. eqb (at rows j).tag (at rows i).tag) (take m line) (has_in i (take m line) h) (eq-eqb (at rows i).tag (at rows i).tag refl) in
        let s = count_in (λ x. chosen m key span ts x && eqb x.tag (at rows i).tag) ts (omega (arith, counts)) in
        let p = and_parts (chosen m key span ts s.0) (eqb s.0.tag (at rows i).tag) s.2 in
        let e = same_token 0 ts ok.tagged s.0 (seated places (at rows i)) s.1 member (eqb-true s.0.tag (at rows i).tag p.1) in
        subst (λ x. chosen m key span ts x ≡ true) e p.0
