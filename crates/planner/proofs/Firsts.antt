-- The first of a line: those that are active, and, where tags are different, those with the fewest chosen before them.
use Rattle.std.proofs.Common.{◌≡◌, ℕ, zero, suc, ◌+◌, ◌≤◌, Bool, true, false, not, ◌&&◌, eqb, ltb, List, [], ◌∷◌, map, take, drop, count_by, sym, refl, ap, ◌∙◌, arith}
use Rattle.std.specs.List.{AllByRecursion}
use Rattle.std.proofs.lemmas.List.Sums.{sum_by-take-drop}
use Rattle.std.proofs.lemmas.Bool.{and_parts, and_left, ltb-false, eq-eqb, lt-ltb, le-ltb}
use Rattle.std.proofs.lemmas.Bool.Decides.{nat_tests}
use Rattle.rows.specs.declared.memory.Token.{Token}
use Rattle.model.specs.Steps.{active}
use Rattle.model.specs.Members.{In, here, there}
use Rattle.model.proofs.Tags.{increasing}
use Rattle.model.proofs.Order.{above}
use Rattle.model.proofs.Counts.{bit, count_cons, count_none, all_in, in_all}
use Rattle.model.proofs.Stepping.{map_in}
use Rattle.planner.specs.Lining.{Lined, sooner}
use Rattle.planner.proofs.Tallies.{count_split, count_map, in_count, once_more}
use Rattle.planner.proofs.InLine.{Before, asym, sooner_self, sooner_other, no_sooner}

-- behind one that is used up all are
used_up : (x : Token) (f : ℕ → Token) (ks : List ℕ) → active x ≡ false → Before (map f ks) x → (i : ℕ) → In i ks → active (f i) ≡ false
used_up x f ks none all i k =
    le-ltb 0 (f i).left (omega (arith, ltb-false 0 x.left none, no_sooner x (f i) (in_all (λ y. sooner y x ≡ false) all (map_in f ks k))))

-- the active ones of a line are the first of it
pub active_first : (f : ℕ → Token) (line : List ℕ) (q : ℕ → Bool) → Lined (map f line)
    → count_by (λ i. active (f i) && q i) line ≡ count_by q (take (count_by active (map f line)) line)
active_first f [] q h = refl
active_first f (i ∷ line) q h =
    count_cons (λ i. active (f i) && q i) i line
    ∙ go (active (f i)) refl (count_by active (map f (i ∷ line))) (count_cons active (f i) (map f line)) (active_first f line q h.1)
  where
    go : (b : Bool) → active (f i) ≡ b → (n : ℕ) → n ≡ bit b + count_by active (map f line)
        → count_by (λ i. active (f i) && q i) line ≡ count_by q (take (count_by active (map f line)) line)
        → bit (b && q i) + count_by (λ i. active (f i) && q i) line ≡ count_by q (take n (i ∷ line))
    go true e n is again =
        let s : n ≡ suc (count_by active (map f line)) = omega arith in
        sym (ap (λ n. count_by q (take n (i ∷ line))) s ∙ count_cons q i (take (count_by active (map f line)) line) ∙ ap (λ n. bit (q i) + n) (sym again))
    go false e n is again =
        let none = used_up (f i) f line e h.0 in
        let c : count_by active (map f line) ≡ 0 = count_map active f line ∙ count_none (λ i. active (f i)) line none in
        let s : n ≡ 0 = omega arith in
        let l = count_none (λ i. active (f i) && q i) line (λ i k. and_left (active (f i)) (q i) (none i k)) in
        sym (ap (λ n. count_by q (take n (i ∷ line))) s ∙ omega arith)

-- no tag stands twice
abbrev pub Apart : List Token → Type 0
Apart ts = (t : ℕ) → count_by (λ y. eqb y.tag t) ts ≤ 1

-- each is chosen before those behind it
abbrev pub Strict : List Token → Type 0
Strict [] = Unit {0}
Strict (x ∷ xs) = AllByRecursion (λ y. sooner x y ≡ true) xs × Strict xs

-- rising tags are different
pub rising_apart : (low : ℕ) (ts : List Token) → increasing low (map (λ t. t.tag) ts) ≡ true → Apart ts
rising_apart low [] up t = omega arith
rising_apart low (x ∷ xs) up t =
    let p = and_parts (ltb low x.tag) (increasing x.tag (map (λ t. t.tag) xs)) up in
    once_more (λ y. y.tag) t x xs (above x.tag xs p.1) (rising_apart x.tag xs p.1 t)

-- a line of different tags is strict
pub strict : (line : List Token) → Apart line → Lined line → Strict line
strict [] apart order = tt
strict (x ∷ xs) apart order = (all_in (λ y. sooner x y ≡ true) xs first, strict xs rest order.1)
  where
    first : (y : Token) → In y xs → sooner x y ≡ true
    first y i = sooner_other x y
        (λ e. omega (
          arith,
          apart x.tag,
          count_cons (λ y. eqb y.tag x.tag) x xs,
          ap bit (eq-eqb x.tag x.tag refl),
          in_count (λ y. eqb y.tag x.tag) xs i (eq-eqb y.tag x.tag e),
        ))
        (in_all (λ y. sooner y x ≡ false) order.0 i)

    rest : Apart xs
    rest t = omega (arith, apart t, count_cons (λ y. eqb y.tag t) x xs)

-- one more on both sides
ltb_suc : (a b : ℕ) → ltb (suc a) (suc b) ≡ ltb a b
ltb_suc a b = grind (arith, nat_tests)

-- those with fewer than b before them are the first b
pub first_of : (test q : Token → Bool) (b : ℕ) (line : List Token) → Strict line
    → ((x : Token) → In x line → test x ≡ ltb (count_by (λ y. sooner y x) line) b) → count_by (λ x. test x && q x) line ≡ count_by q (take b line)
first_of test q zero line order is = count_none (λ x. test x && q x) line (λ x i. and_left _ _ (is x i ∙ le-ltb _ 0 (omega arith)))
first_of test q (suc b) [] order is = refl
first_of test q (suc b) (x ∷ xs) order is =
    let none : count_by (λ y. sooner y x) (x ∷ xs) ≡ 0 =
    omega (arith, ap bit (sooner_self x), count_cons (λ y. sooner y x) x xs, count_none (λ y. sooner y x) xs (λ y i. asym x y (in_all (λ y. sooner x y ≡ true) order.0 i))) in
    let t : test x ≡ true = is x here ∙ lt-ltb _ (suc b) (omega arith) in
    omega (
      arith,
      ap (λ c. bit (c && q x)) t,
      count_cons (λ x. test x && q x) x xs,
      count_cons q x (take b xs),
      first_of test q b xs order.1 next,
    )
  where
    next : (y : Token) → In y xs → test y ≡ ltb (count_by (λ z. sooner z y) xs) b
    next y i =
        let one = ap bit (in_all (λ y. sooner x y ≡ true) order.0 i) in
        let n : count_by (λ z. sooner z y) (x ∷ xs) ≡ suc (count_by (λ z. sooner z y) xs) = omega (arith, one, count_cons (λ z. sooner z y) x xs) in
        is y (there i) ∙ ap (λ k. ltb k (suc b)) n ∙ ltb_suc (count_by (λ z. sooner z y) xs) b

-- and the others are the rest
pub last_of : (test q : Token → Bool) (b : ℕ) (line : List Token) → Strict line
    → ((x : Token) → In x line → test x ≡ ltb (count_by (λ y. sooner y x) line) b) → count_by (λ x. not (test x) && q x) line ≡ count_by q (drop b line)
last_of test q b line order is =
    omega (arith, first_of test q b line order is, count_split test q line, sum_by-take-drop (λ x. bit (q x)) line b)
