-- One release more is listed, and its task's next one waits.
use Rattle.std.proofs.Common.{◌≡◌, ℕ, ◌+◌, ◌<◌, ◌≤◌, Bool, true, false, not, ◌&&◌, ◌||◌, eqb, ◌⊎◌, List, [], ◌∷◌, map, Some, None, count_by, Option, sym, refl, ap, ◌∙◌, subst, inl, inr, ⊎_elim, true≢false, arith, ltb-true, eq-eqb, eqb-true}
use Rattle.std.specs.List.Sorted.{IsPermutation}
use Rattle.std.specs.List.{AllByRecursion}
use Rattle.std.proofs.ByRecursion.{All-map, All-weaker, all_shuffled}
use Rattle.std.proofs.lemmas.List.Sorted.{IsPermutation-sym, sum_by-IsPermutation}
use Rattle.std.proofs.lemmas.Bool.{and_parts, and_from, or_right, false_from_ne_true, not_from_false, not-true, eqb-false}
use Rattle.rows.specs.declared.memory.Task.{Task}
use Rattle.rows.specs.Tests.{rising, all}
use Rattle.queue.specs.Order.{before, First}
use Rattle.model.specs.Members.{In, here, there}
use Rattle.model.specs.Tables.{tags}
use Rattle.model.proofs.Counts.{bit, count_cons, count_le, all_in, in_all}
use Rattle.ahead.specs.declared.release.Release.{Release}
use Rattle.ahead.specs.declared.release.Due.{Due}
use Rattle.ahead.specs.Ahead.{timely, release_of, sooner, past, Next}
use Rattle.ahead.specs.Waiting.{by_tick, first_due, release, later, FirstDue, Table, Waiting}
use Rattle.ahead.proofs.Sooner.{not_sooner, not_sooner_later}
use Rattle.ahead.proofs.Firsts.{same_task, tag_once, first_after, same_tick, first_later, first_other}

module _ {X : Type 0} where
  both : (P Q R : X → Type 0) → ((x : X) → P x → Q x → R x) → (xs : List X) → AllByRecursion P xs → AllByRecursion Q xs → AllByRecursion R xs
  both P Q R f [] p q = tt
  both P Q R f (x ∷ xs) p q = (f x p.0 q.0, both P Q R f xs p.1 q.1)

  none_pass : (p : X → Bool) (xs : List X) → count_by p xs ≤ 0 → AllByRecursion (λ x. p x ≡ false) xs
  none_pass p [] h = tt
  none_pass p (x ∷ xs) h = (false_from_ne_true (p x) (λ e. omega (arith, count_cons p x xs, ap bit e)), none_pass p xs (omega (arith, count_cons p x xs)))

  map_at : {Y : Type 0} (P : Y → Type 0) (f : X → Y) (xs : List X) (x : X) → AllByRecursion P (map f xs) → In x xs → P (f x)
  map_at P f [] x a i = elim i [ ]
  map_at P f (y ∷ xs) x a here = a.0
  map_at P f (y ∷ xs) x a (there i) = map_at P f xs x a.1 i

  count_map : {Y : Type 0} (p : Y → Bool) (f : X → Y) (xs : List X) → count_by p (map f xs) ≡ count_by (λ x. p (f x)) xs
  count_map p f [] = refl
  count_map p f (x ∷ xs) = omega (arith, count_cons p (f x) (map f xs), count_cons (λ y. p (f y)) x xs, count_map p f xs)

  all_of : (p : X → Bool) (xs : List X) (x : X) → all p xs ≡ true → In x xs → p x ≡ true
  all_of p [] x h i = elim i [ ]
  all_of p (y ∷ xs) x h here = (and_parts (p y) (all p xs) h).0
  all_of p (y ∷ xs) x h (there i) = all_of p xs x (and_parts (p y) (all p xs) h).1 i

-- the table of timely rows
pub table_from : (tick : ℕ) (ts : List Task) → rising (tags ts) ≡ true → all (timely tick) ts ≡ true → Table ts
table_from tick ts up ok = record { apart = up; periods = all_in (λ t. 0 < t.period) ts (λ t i. ltb-true 0 t.period (and_parts _ _ (all_of (timely tick) ts t ok i)).0) }

-- the first releases after the tick wait
pub waiting_first : (tick : ℕ) (ts : List Task) (hs : List Due) → rising (tags ts) ≡ true → all (timely tick) ts ≡ true → IsPermutation (map (first_due tick) ts) hs → Waiting ts tick None hs
waiting_first tick ts hs up ok moved = record {
  each = all_shuffled _ _ hs moved (All-map _ (first_due tick) ts (all_in _ ts (λ t i. (t, i, first_after tick t (all_of (timely tick) ts t ok i)))));
  some = λ t i P a. (first_due tick t, first_after tick t (all_of (timely tick) ts t ok i), map_at (λ d. P d ≡ true) (first_due tick) ts t (all_shuffled (λ d. P d ≡ true) hs _ (IsPermutation-sym _ hs moved) a) i);
  once = λ g. omega (arith, sum_by-IsPermutation (λ (d : Due). bit (eqb d.tag g)) _ hs moved, count_map (λ (d : Due). eqb d.tag g) (first_due tick) ts, tag_once ts up g);
}

module _ (ts : List Task) (table : Table ts) (tick : ℕ) (p : Option Release) (hs : List Due) (was : Waiting ts tick p hs) (x : Due) (on_top : First by_tick x hs) (t₀ : Task) (in₀ : In t₀ ts) (first₀ : FirstDue tick p t₀ x) where
  ahead_of : AllByRecursion (λ d. sooner (release d) (release x) ≡ false) hs
  ahead_of = All-weaker (λ d. before by_tick d x ≡ false) (λ d. sooner (release d) (release x) ≡ false) (λ d. not_sooner d x) hs on_top

  -- the one on top is the next
  pub next_is : Next ts tick p (release x)
  next_is = record {
    released = (t₀, first₀.turns, in₀, λ i. record { tick = first₀.at i; tag = first₀.tag i });
    after = first₀.after;
    first = λ y by-task past-p.
        let t = by-task.0 in
        let k = by-task.1 in
        let y-is = by-task.3 in
        let found = was.some t by-task.2 (λ d. not (sooner (release d) (release x))) (All-weaker _ (λ d. not (sooner (release d) (release x)) ≡ true) (λ d. not_from_false (sooner (release d) (release x))) hs ahead_of) in
        let d = found.0 in
        let f = found.1 in
        let le = f.first k (ap (past tick p) (sym y-is) ∙ past-p) in
        ap (λ z. sooner z (release x)) y-is ∙ not_sooner_later (release d) (release x) (release_of t k) (not-true _ found.2) le f.tag;
  }

  abbrev like : Due → Bool
  like d = eqb d.tag x.tag && eqb d.tick x.tick

  abbrev Stays : Due → Type 0
  Stays d = (t : Task) × In t ts × FirstDue tick (Some (release x)) t d

  pos : 0 < t₀.period
  pos = in_all (λ t. 0 < t.period) table.periods in₀

  sorted : (d : Due) → (t : Task) × In t ts × FirstDue tick p t d → sooner (release d) (release x) ≡ false → (like d ≡ true) ⊎ Stays d
  sorted d by-task not-before = by (eqb d.tag x.tag) refl
    where
      by : (b : Bool) → eqb d.tag x.tag ≡ b → (like d ≡ true) ⊎ Stays d
      by true e =
          let t = by-task.0 in
          let f = by-task.2 in
          let same : t ≡ t₀ = same_task ts table.apart t t₀ by-task.1 in₀ (sym f.tag ∙ eqb-true _ _ e ∙ first₀.tag) in
          let at = same_tick tick p t₀ d x (subst (λ u. FirstDue tick p u d) same f) first₀ in
          inl (and_from _ _ e (eq-eqb d.tick x.tick at))
      by false e = inr (by-task.0, by-task.1, first_other tick p by-task.0 d x by-task.2 first₀.after not-before (eqb-false _ _ e))

  module _ (hs' : List Due) (moved : IsPermutation (later x ∷ hs) (x ∷ hs')) where
    counted : (q : Due → Bool) → bit (q x) + count_by q hs' ≡ bit (q (later x)) + count_by q hs
    counted q = sym (count_cons q x hs') ∙ sum_by-IsPermutation (λ d. bit (q d)) _ (x ∷ hs') moved ∙ count_cons q (later x) hs

    unlike_later : like (later x) ≡ false
    unlike_later = false_from_ne_true (like (later x)) (λ e. omega (arith, eqb-true (x.tick + x.period) x.tick (and_parts _ _ e).1, pos, first₀.period))

    like_itself : like x ≡ true
    like_itself = and_from _ _ (eq-eqb x.tag x.tag refl) (eq-eqb x.tick x.tick refl)

    none_like : AllByRecursion (λ d. like d ≡ false) hs'
    none_like = none_pass like hs' (omega (arith, counted like, ap bit like_itself, ap bit unlike_later, was.once x.tag, count_le like (λ d. eqb d.tag x.tag) hs (λ d _ h. (and_parts _ _ h).0)))

    all_sorted : AllByRecursion (λ d. (like d ≡ true) ⊎ Stays d) (x ∷ hs')
    all_sorted = all_shuffled _ _ (x ∷ hs') moved (inr (t₀, in₀, first_later tick p t₀ x pos first₀), both _ _ _ sorted hs was.each ahead_of)

    pub waiting_more : Waiting ts tick (Some (release x)) hs'
    waiting_more = record {
      each = both _ _ Stays (λ d s n. ⊎_elim (λ (l : like d ≡ true). absurd (true≢false (sym l ∙ n))) (λ (s : Stays d). s) s) hs' all_sorted.1 none_like;
      some = some_more;
      once = λ g. omega (arith, counted (λ d. eqb d.tag g), was.once g);
    }
      where
        or_second : (a b : Bool) → (a || b) ≡ true → a ≡ false → b ≡ true
        or_second true b h e = absurd (true≢false e)
        or_second false b h e = h

        some_more : (t : Task) → In t ts → (P : Due → Bool) → AllByRecursion (λ d. P d ≡ true) hs' → (d : Due) × FirstDue tick (Some (release x)) t d × (P d ≡ true)
        some_more t i P a = by (eqb d.tag x.tag) refl
          where
            wide : AllByRecursion (λ d. (like d || P d) ≡ true) (later x ∷ hs)
            wide = all_shuffled _ (x ∷ hs') _ (IsPermutation-sym _ _ moved) (ap (λ b. b || P x) like_itself, All-weaker (λ d. P d ≡ true) (λ d. (like d || P d) ≡ true) (λ d. or_right (like d) (P d)) hs' a)

            found : (d : Due) × FirstDue tick p t d × (((like d || P d) && not (sooner (release d) (release x))) ≡ true)
            found = was.some t i (λ d. (like d || P d) && not (sooner (release d) (release x))) (both _ _ _ (λ d q n. and_from _ _ q (not_from_false _ n)) hs wide.1 ahead_of)

            d : Due
            d = found.0

            by : (b : Bool) → eqb found.0.tag x.tag ≡ b → (d : Due) × FirstDue tick (Some (release x)) t d × (P d ≡ true)
            by true e =
                let same : t₀ ≡ t = same_task ts table.apart t₀ t in₀ i (sym first₀.tag ∙ sym (eqb-true _ _ e) ∙ found.1.tag) in
                (later x, subst (λ u. FirstDue tick (Some (release x)) u (later x)) same (first_later tick p t₀ x pos first₀), or_second _ _ wide.0 unlike_later)
            by false e =
                let parts = and_parts _ _ found.2 in
                (found.0, first_other tick p t found.0 x found.1 first₀.after (not-true _ parts.1) (eqb-false _ _ e), or_second _ _ parts.0 (ap (λ b. b && eqb found.0.tick x.tick) e))
