-- Running the chosen tokens row by row.
use Rattle.std.proofs.Common.{◌≡◌, ℕ, zero, suc, ◌+◌, ◌-◌, ◌<◌, ◌≤◌, Bool, true, false, cond, not, ◌&&◌, eqb, ltb, List, [], ◌∷◌, ◌++◌, map, length, get_or, take, drop, set, count_by, filter, sym, refl, ap, ◌∙◌, subst, ⊎_elim, arith, le-ltb, lt-ltb, eq-eqb, ne_eqb}
use mathlib.Core.Path.{transport}
use Rattle.std.specs.List.{range_with_len}
use Rattle.std.proofs.Permutation.{which}
use Rattle.std.proofs.lemmas.List.FromFn.{length-range_with_len}
use Rattle.std.proofs.ByRecursion.{All-get_or}
use Rattle.std.proofs.lemmas.List.{take_more, drop_more, get_or_at, length-map, length-take-le, map-append, length-set, get_or-set_same, get_or-set_other, get_or_past, same_lists, take-append-drop}
use Rattle.std.proofs.lemmas.List.Sums.{length-filter, count_by-le-length, count_by_more_yes, count_by_more_no}
use Rattle.std.proofs.lemmas.Bool.{cases_lt}
use Rattle.std.proofs.lemmas.Bool.Decides.{nat_tests}
use Rattle.rows.specs.declared.memory.Token.{Token}
use Rattle.rows.specs.Tests.{has, distinct, rising}
use Rattle.rows.proofs.Rising.{rising_rest, above_first}
use Rattle.model.proofs.Counts.{bit, count_cons}
use Rattle.model.proofs.Stepping.{map_map}
use Rattle.model.specs.Steps.{free, turn, assigned, moved, runner, row_of}
use Rattle.planner.specs.Looking.{Runnable}
use Rattle.planner.specs.Lining.{no_token}
use Rattle.planner.proofs.Looks.{processors}
use Rattle.planner.proofs.Seats.{row_length, row_place}
use Rattle.planner.proofs.Marks.{distinct_push, distinct_not}
use Rattle.planner.proofs.Writes.{map_more}

-- The row of tags.

runner_push : (us : List Token) (u : Token) (q : ℕ) → runner (us ++ u ∷ []) q ≡ cond (has q (processors us)) (runner us q) (cond (eqb u.processor q) u.tag 0)
runner_push [] u q = refl
runner_push (x ∷ us) u q =
    ⊎_elim
    (λ (e : x.processor ≡ q). let here = eq-eqb x.processor q e in let back = eq-eqb q x.processor (sym e) in grind (arith, nat_tests))
    (λ (e : x.processor ≡ q → ⊥). let here = ne_eqb x.processor q e in let back = ne_eqb q x.processor (λ f. e (sym f)) in let more = runner_push us u q in grind (arith, nat_tests))
    (which x.processor q)

runner_none : (us : List Token) (q : ℕ) → has q (processors us) ≡ false → runner us q ≡ 0
runner_none [] q h = refl
runner_none (x ∷ us) q h =
    let other : has q (processors us) ≡ false = grind (arith, nat_tests) in
    let apart : eqb x.processor q ≡ false = grind (arith, nat_tests) in
    ap (λ b. cond b x.tag (runner us q)) apart ∙ runner_none us q other

runner_kept : (us : List Token) (u : Token) (q : ℕ) → eqb u.processor q ≡ false → runner (us ++ u ∷ []) q ≡ runner us q
runner_kept us u q other =
    runner_push us u q ∙ ap (λ b. cond (has q (processors us)) (runner us q) (cond b u.tag 0)) other ∙ by (has q (processors us)) refl
  where
    by : (b : Bool) → has q (processors us) ≡ b → cond b (runner us q) 0 ≡ runner us q
    by true e = refl
    by false e = sym (runner_none us q e)

-- one more token, on a processor that none before it has
pub row_more : (us : List Token) (u : Token) (p : ℕ) → u.processor ≡ p → 1 ≤ p → p ≤ 16 → has p (processors us) ≡ false
    → set (row_of us) (p - 1) u.tag ≡ row_of (us ++ u ∷ [])
row_more us u p is some few new = same_lists _ _ (length-set (row_of us) (p - 1) u.tag ∙ row_length us ∙ sym (row_length (us ++ u ∷ [])))
    (λ k d h.
    let low : k < 16 = omega (arith, length-set (row_of us) (p - 1) u.tag, row_length us) in
    let push = runner_push us u (1 + k) in
    ⊎_elim
    (λ (e : k ≡ p - 1).
    let q : 1 + k ≡ p = omega arith in
    let gone : has (1 + k) (processors us) ≡ false = ap (λ n. has n (processors us)) q ∙ new in
    let this : eqb u.processor (1 + k) ≡ true = eq-eqb u.processor (1 + k) (is ∙ sym q) in
    ap (λ n. get_or (set (row_of us) (p - 1) u.tag) n d) e
    ∙ get_or-set_same (row_of us) (p - 1) u.tag d (omega (arith, row_length us))
    ∙ sym (push ∙ (λ i. cond (gone i) (runner us (1 + k)) (cond (this i) u.tag 0)))
    ∙ sym (row_place (us ++ u ∷ []) k d low))
    (λ (e : k ≡ p - 1 → ⊥).
    let other : eqb u.processor (1 + k) ≡ false = ne_eqb u.processor (1 + k) (λ f. e (omega (arith, f, is))) in
    get_or-set_other (row_of us) (p - 1) k u.tag d e
    ∙ row_place us k d low
    ∙ sym (runner_kept us u (1 + k) other)
    ∙ sym (row_place (us ++ u ∷ []) k d low))
    (which k (p - 1)))

-- one more token without a processor
pub row_same : (us : List Token) (u : Token) → u.processor ≡ 0 → row_of us ≡ row_of (us ++ u ∷ [])
row_same us u none = same_lists _ _ (row_length us ∙ sym (row_length (us ++ u ∷ [])))
    (λ k d h.
    let low : k < 16 = omega (arith, row_length us) in
    let other : eqb u.processor (1 + k) ≡ false = ne_eqb u.processor (1 + k) (λ f. omega arith) in
    row_place us k d low
    ∙ sym (runner_kept us u (1 + k) other)
    ∙ sym (row_place (us ++ u ∷ []) k d low))

-- The turn of a token without a processor is how many of those before it in the rows wait for one.

abbrev tag_of : Token → ℕ
tag_of t = t.tag

count_none_above : (test : Token → Bool) (tag : ℕ) (xs : List Token) → rising (map (λ t. t.tag) xs) ≡ true → (0 < length xs → tag ≤ (get_or xs 0 no_token).tag)
    → count_by (λ y. test y && ltb y.tag tag) xs ≡ 0
count_none_above test tag [] h f = refl
count_none_above test tag (x ∷ xs) h f =
    let first : tag ≤ x.tag = f (omega arith) in
    let rest = rising_rest tag_of no_token x xs h in
    let low : ltb x.tag tag ≡ false = le-ltb x.tag tag first in
    let out : (test x && ltb x.tag tag) ≡ false = grind (arith, nat_tests) in
    let more = count_none_above test tag xs rest.0 (λ some. omega (arith, rest.1 some)) in
    count_cons (λ y. test y && ltb y.tag tag) x xs ∙ omega (arith, ap bit out, more)

count_before : (test : Token → Bool) (ts : List Token) (i : ℕ) → rising (map (λ t. t.tag) ts) ≡ true → i < length ts
    → count_by (λ y. test y && ltb y.tag (get_or ts i no_token).tag) ts ≡ count_by test (take i ts)
count_before test [] i h l = absurd (omega arith)
count_before test (x ∷ xs) zero h l = count_none_above test x.tag (x ∷ xs) h (λ some. omega arith)
count_before test (x ∷ xs) (suc i) h l =
    let tag = (get_or xs i no_token).tag in
    let low : ltb x.tag tag ≡ true = lt-ltb x.tag tag (above_first tag_of no_token x xs i h (omega arith)) in
    let same : (test x && ltb x.tag tag) ≡ test x = grind (arith, nat_tests) in
    let more = count_before test xs i (rising_rest tag_of no_token x xs h).0 (omega arith) in
    count_cons (λ y. test y && ltb y.tag tag) x xs ∙ omega (arith, ap bit same, more, count_cons test x (take i xs))

front_distinct : (xs ys : List ℕ) → distinct (xs ++ ys) ≡ true → distinct xs ≡ true
front_distinct xs ys h = by (distinct xs) refl
  where
    by : (b : Bool) → distinct xs ≡ b → b ≡ true
    by true e = refl
    by false e = sym (distinct_not xs ys e) ∙ h

-- Row by row: the first i of the tokens have moved.
module _ (m : ℕ) (picks : Token → Bool) (d : ℕ) (ts : List Token) where
  abbrev waits : Token → Bool
  waits y = picks y && eqb y.processor 0

  abbrev go_on : Token → Token
  go_on = moved m picks ts d

  pub record Moving (i : ℕ) (rows : List Token) (count : ℕ) (places : List ℕ) : Type 0 where
    pub moved_rows : rows ≡ map go_on (take i ts) ++ drop i ts
    pub turns : count ≡ count_by waits (take i ts)
    pub row : places ≡ row_of (map go_on (take i ts))

  -- a row whose turn has not come is as it was
  row_here : (i : ℕ) (rows : List Token) (count : ℕ) (places : List ℕ) → i < length ts → Moving i rows count places → get_or rows i no_token ≡ get_or ts i no_token
  row_here i rows count places inside was =
      let long : length (map go_on (take i ts)) ≡ i = length-map (take i ts) go_on ∙ length-take-le i ts (omega arith) in
      ap (λ l. get_or l i no_token) (was.moved_rows ∙ ap (λ l. map go_on (take i ts) ++ l) (drop_more ts i no_token inside))
      ∙ get_or_at (map go_on (take i ts)) (get_or ts i no_token) (drop (i + 1) ts) no_token i long

pub moving_is : {m : ℕ} {picks : Token → Bool} {d : ℕ} {ts : List Token} {i : ℕ} {rows rows' : List Token} {count count' : ℕ} {places places' : List ℕ} → rows' ≡ rows → count' ≡ count → places' ≡ places
    → Moving m picks d ts i rows count places → Moving m picks d ts i rows' count' places'
moving_is {m} {picks} {d} {ts} {i} a b c h = transport (λ j. Moving m picks d ts i (sym a j) (sym b j) (sym c j)) h

module _ {m : ℕ} {picks : Token → Bool} {d : ℕ} {spare : List ℕ} {ts : List Token} (ok : Runnable m picks d spare ts) where
  abbrev go : Token → Token
  go = moved m picks ts d

  abbrev waiting : Token → Bool
  waiting y = picks y && eqb y.processor 0

  module _ {i : ℕ} {rows : List Token} {count : ℕ} {places : List ℕ} (was : Moving m picks d ts i rows count places) (inside : i < length ts) where
    abbrev x : Token
    x = get_or ts i no_token

    its_turn : turn picks ts x ≡ count
    its_turn = count_before waiting ts i ok.sorted inside ∙ sym was.turns

    numbers : picks x ≡ true → (1 ≤ assigned m picks ts x) × (assigned m picks ts x ≤ m)
    numbers = All-get_or (λ y. picks y ≡ true → (1 ≤ assigned m picks ts y) × (assigned m picks ts y ≤ m)) ts i no_token inside ok.numbered

    -- a chosen token that keeps its processor, and one that takes the spare one of its turn
    keeps : picks x ≡ true → (x.processor ≡ 0 → ⊥) → assigned m picks ts x ≡ x.processor
    keeps chosen on =
        let e = ne_eqb x.processor 0 on in
        λ j. cond (chosen j) (cond (e j) (get_or (free m picks ts) (turn picks ts x) 0) x.processor) 0

    takes : picks x ≡ true → x.processor ≡ 0 → assigned m picks ts x ≡ get_or spare count 0
    takes chosen off =
        let e = eq-eqb x.processor 0 off in
        (λ j. cond (chosen j) (cond (e j) (get_or (free m picks ts) (its_turn j) 0) x.processor) 0) ∙ sym (ok.spare_is count)

    spare_inside : picks x ≡ true → x.processor ≡ 0 → count < 16
    spare_inside chosen off =
        let f = free m picks ts in
        let is : assigned m picks ts x ≡ get_or f count 0 = takes chosen off ∙ ok.spare_is count in
        let some = (numbers chosen).0 in
        let long : length f ≤ m =
        omega (arith, length-filter (λ p. not (has p (processors (filter picks ts)))) (range_with_len 1 m), count_by-le-length (λ p. not (has p (processors (filter picks ts)))) (range_with_len 1 m), length-range_with_len 1 m) in
        ⊎_elim (λ l. omega (arith, l, long, ok.few)) (λ past. absurd (omega (arith, some, is, get_or_past f count 0 past))) (cases_lt count (length f))

    -- the processor of a chosen token is none of those before it
    new : picks x ≡ true → has (assigned m picks ts x) (processors (map go (take i ts))) ≡ false
    new chosen =
        let a = assigned m picks ts in
        let first : distinct (map a (take (i + 1) ts)) ≡ true =
        front_distinct (map a (take (i + 1) ts)) (map a (drop (i + 1) ts))
        (ap distinct (sym (map-append a (take (i + 1) ts) (drop (i + 1) ts)) ∙ ap (map a) (take-append-drop (i + 1) ts)) ∙ ok.apart) in
        let pushed : distinct (map a (take i ts) ++ a x ∷ []) ≡ true =
        ap distinct (sym (map-append a (take i ts) (x ∷ [])) ∙ ap (map a) (sym (take_more ts i no_token inside))) ∙ first in
        let told = distinct_push (a x) (map a (take i ts)) in
        let some = (numbers chosen).0 in
        let other : has (a x) (map a (take i ts)) ≡ false = grind (arith, nat_tests) in
        ap (has (a x)) (map_map (λ (t : Token). t.processor) go (take i ts)) ∙ other

    more_rows : set rows i (go x) ≡ map go (take (i + 1) ts) ++ drop (i + 1) ts
    more_rows = ap (λ l. set l i (go x)) was.moved_rows ∙ map_more go ts ts i no_token inside (omega arith)

    more_row : map go (take i ts) ++ go x ∷ [] ≡ map go (take (i + 1) ts)
    more_row = sym (map-append go (take i ts) (x ∷ [])) ∙ ap (map go) (sym (take_more ts i no_token inside))

    -- a chosen token has run on processor p
    ran : picks x ≡ true → (p count' : ℕ) → p ≡ assigned m picks ts x → count' ≡ count_by waiting (take (i + 1) ts)
        → Moving m picks d ts (i + 1) (set rows i (record { tag = x.tag; left = x.left - d; processor = p })) count' (set places (p - 1) x.tag)
    ran chosen p count' is next =
        let u : record { tag = x.tag; left = x.left - d; processor = p } ≡ go x =
        λ j. record { tag = x.tag; left = cond (sym chosen j) (x.left - d) x.left; processor = is j } in
        let n = numbers chosen in
        let few = ok.few in
        record {
          moved_rows = ap (λ t. set rows i t) u ∙ more_rows;
          turns = next;
          row = (λ j. set (was.row j) (is j - 1) x.tag)
              ∙ row_more (map go (take i ts)) (go x) (assigned m picks ts x) refl n.0 (omega (arith, n.1, few)) (new chosen)
              ∙ ap row_of more_row;
        }

    ran_on : picks x ≡ true → (x.processor ≡ 0 → ⊥)
        → Moving m picks d ts (i + 1) (set rows i (record { tag = x.tag; left = x.left - d; processor = x.processor })) count (set places (x.processor - 1) x.tag)
    ran_on chosen on =
        let out : waiting x ≡ false = (λ j. picks x && ne_eqb x.processor 0 on j) ∙ grind (arith, nat_tests) in
        ran chosen x.processor count (sym (keeps chosen on)) (was.turns ∙ sym (count_by_more_no waiting ts i no_token inside out))

    ran_off : picks x ≡ true → x.processor ≡ 0
        → Moving m picks d ts (i + 1) (set rows i (record { tag = x.tag; left = x.left - d; processor = get_or spare count 0 })) (count + 1) (set places (get_or spare count 0 - 1) x.tag)
    ran_off chosen off =
        let in_turn : waiting x ≡ true = (λ j. chosen j && eq-eqb x.processor 0 off j) in
        ran chosen (get_or spare count 0) (count + 1) (sym (takes chosen off)) (ap (λ n. n + 1) was.turns ∙ sym (count_by_more_yes waiting ts i no_token inside in_turn))

    waited : picks x ≡ false → Moving m picks d ts (i + 1) (set rows i (record { tag = x.tag; left = x.left; processor = 0 })) count places
    waited other =
        let u : record { tag = x.tag; left = x.left; processor = 0 } ≡ go x =
        λ j. record { tag = x.tag; left = cond (sym other j) (x.left - d) x.left; processor = cond (sym other j) (cond (eqb x.processor 0) (get_or (free m picks ts) (turn picks ts x) 0) x.processor) 0 } in
        let none : (go x).processor ≡ 0 = sym (ap (λ (t : Token). t.processor) u) in
        let out : waiting x ≡ false = λ j. other j && eqb x.processor 0 in
        record {
          moved_rows = ap (λ t. set rows i t) u ∙ more_rows;
          turns = was.turns ∙ sym (count_by_more_no waiting ts i no_token inside out);
          row = was.row ∙ row_same (map go (take i ts)) (go x) none ∙ ap row_of more_row;
        }

    -- The same of the row as it is read.
    abbrev y : Token
    y = get_or rows i no_token

    is : y ≡ x
    is = row_here m picks d ts i rows count places inside was

    pub room : picks y ≡ true → y.processor ≡ 0 → count < 16
    room = subst (λ t. picks t ≡ true → t.processor ≡ 0 → count < 16) (sym is) spare_inside

    pub on_board : picks y ≡ true → (y.processor ≡ 0 → ⊥) → y.processor ≤ 16
    on_board = subst (λ t. picks t ≡ true → (t.processor ≡ 0 → ⊥) → t.processor ≤ 16) (sym is)
        (λ chosen on. omega (arith, (numbers chosen).1, keeps chosen on, ok.few))

    pub spare_number : picks y ≡ true → y.processor ≡ 0 → (1 ≤ get_or spare count 0) × (get_or spare count 0 ≤ 16)
    spare_number = subst (λ t. picks t ≡ true → t.processor ≡ 0 → (1 ≤ get_or spare count 0) × (get_or spare count 0 ≤ 16)) (sym is)
        (λ chosen off. (omega (arith, (numbers chosen).0, takes chosen off), omega (arith, (numbers chosen).1, takes chosen off, ok.few)))

    pub move_on : picks y ≡ true → (y.processor ≡ 0 → ⊥)
        → Moving m picks d ts (i + 1) (set rows i (record { tag = y.tag; left = y.left - d; processor = y.processor })) count (set places (y.processor - 1) y.tag)
    move_on = subst (λ t. picks t ≡ true → (t.processor ≡ 0 → ⊥) → Moving m picks d ts (i + 1) (set rows i (record { tag = t.tag; left = t.left - d; processor = t.processor })) count (set places (t.processor - 1) t.tag)) (sym is) ran_on

    pub move_off : picks y ≡ true → y.processor ≡ 0
        → Moving m picks d ts (i + 1) (set rows i (record { tag = y.tag; left = y.left - d; processor = get_or spare count 0 })) (count + 1) (set places (get_or spare count 0 - 1) y.tag)
    move_off = subst (λ t. picks t ≡ true → t.processor ≡ 0 → Moving m picks d ts (i + 1) (set rows i (record { tag = t.tag; left = t.left - d; processor = get_or spare count 0 })) (count + 1) (set places (get_or spare count 0 - 1) t.tag)) (sym is) ran_off

    pub move_not : picks y ≡ false → Moving m picks d ts (i + 1) (set rows i (record { tag = y.tag; left = y.left; processor = 0 })) count places
    move_not = subst (λ t. picks t ≡ false → Moving m picks d ts (i + 1) (set rows i (record { tag = t.tag; left = t.left; processor = 0 })) count places) (sym is) waited
