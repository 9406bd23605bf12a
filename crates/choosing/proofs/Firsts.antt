-- One token more, and the first m of the active ones are kept again.
use Rattle.std.proofs.Common.{◌≡◌, ℕ, ◌+◌, ◌<◌, ◌≤◌, min, Bool, true, false, cond, not, ◌&&◌, eqb, ltb, List, [], ◌∷◌, ◌++◌, length, Some, None, count_by, Option, sym, refl, ap, ◌∙◌, arith, le-ltb, lt-ltb, eq-eqb, eqb-true}
use Rattle.std.specs.declared.cmp.Reverse.{Reverse}
use Rattle.std.specs.Option.{unwrap_or}
use Rattle.std.specs.List.Sorted.{IsPermutation}
use Rattle.std.proofs.lemmas.List.Sorted.{sum_by-IsPermutation, length_permutation}
use Rattle.std.proofs.lemmas.List.Sums.{sum_by_push, count_by-le-length}
use Rattle.std.proofs.lemmas.Bool.{and_parts, not-true, not-false, eqb-false}
use Rattle.rows.specs.declared.memory.Token.{Token}
use Rattle.queue.specs.Held.{first_of}
use Rattle.queue.specs.Order.{Heaped}
use Rattle.rules.specs.Keys.{Key}
use Rattle.model.specs.Steps.{active}
use Rattle.model.proofs.Counts.{bit, count_cons, count_le}
use Rattle.choosing.specs.declared.entry.Entry.{Entry}
use Rattle.choosing.specs.Entries.{entry_of, earlier, up_to}
use Rattle.choosing.specs.Keeping.{last_first, top, last_kept, kept_before, active_before, KeepsFirst, Picks}
use Rattle.choosing.proofs.Earlier.{under, over, Closes, top_closes, all_before, not_all_before}

few : (b : Bool) → bit b ≤ 1
few true = omega arith
few false = omega arith

empty : (hs : List (Reverse Entry)) → first_of hs ≡ None → length hs ≡ 0
empty [] e = refl
empty (h ∷ hs) e = absurd (cc)

-- a last one is that on top of a full queue
full_top : (m : ℕ) (hs : List (Reverse Entry)) (w : Entry) → last_kept m hs ≡ Some w → (length hs ≡ m) × (first_of hs ≡ Some (record { 0 = w }))
full_top m hs w e = by (eqb (length hs) m) refl (first_of hs) refl e
  where
    by : (b : Bool) → eqb (length hs) m ≡ b → (f : Option (Reverse Entry)) → first_of hs ≡ f → cond b (top f) None ≡ Some w → (length hs ≡ m) × (first_of hs ≡ Some (record { 0 = w }))
    by true p None q r = absurd (cc)
    by true p (Some h) q r = (eqb-true _ _ p, let same : h.0 ≡ w = cc in q ∙ (λ i. Some (record { 0 = same i })))
    by false p f q r = absurd (cc)

pub top_there : (m : ℕ) (hs : List (Reverse Entry)) (w : Entry) → last_kept m hs ≡ Some w → first_of hs ≡ Some (record { 0 = w })
top_there m hs w e = (full_top m hs w e).1

-- a full queue has a last one
pub last_of_full : (m : ℕ) (hs : List (Reverse Entry)) (r other : Entry) → length hs ≡ m → 0 < m → r ≡ unwrap_or (top (first_of hs)) other → last_kept m hs ≡ Some r
last_of_full m [] r other full some told = absurd (omega arith)
last_of_full m (h ∷ hs) r other full some told = ap (λ b. cond b (Some h.0) None) (eq-eqb (length (h ∷ hs)) m full) ∙ ap Some (sym told)

pub not_none : (m : ℕ) (hs : List (Reverse Entry)) → length hs ≡ m → 0 < m → last_kept m hs ≡ None → ⊥
not_none m [] full some e = omega arith
not_none m (h ∷ hs) full some e = cc (ap (λ b. cond b (Some h.0) None) (eq-eqb (length (h ∷ hs)) m full))

pub some_full : (m : ℕ) (hs : List (Reverse Entry)) (w : Entry) → last_kept m hs ≡ Some w → (length hs ≡ m) × (0 < m)
some_full m hs w e = let told = full_top m hs w e in (told.0, by hs told.0 told.1)
  where
    by : (l : List (Reverse Entry)) → length l ≡ m → first_of l ≡ Some (record { 0 = w }) → 0 < m
    by [] p q = absurd (cc)
    by (h ∷ l) p q = omega arith

-- for a place past the end
abbrev pub blank : Token
blank = record { tag = 0; left = 0; processor = 0 }

module _ (m : ℕ) (key : Key) (span : ℕ) where
  -- nothing is kept of no tokens
  pub keeps_none : (hs : List (Reverse Entry)) → length hs ≡ 0 → KeepsFirst m key span [] hs
  keeps_none hs e = record { size = omega arith; before = λ x. omega (arith, count_by-le-length (λ (h : Reverse Entry). earlier h.0 x) hs) }

  -- t comes behind ts
  module _ (ts : List Token) (t : Token) where
    abbrev e : Entry
    e = entry_of key span t

    abbrev more : List Token
    more = ts ++ t ∷ []

    more_active : count_by active more ≡ count_by active ts + bit (active t)
    more_active = sum_by_push (λ y. bit (active y)) ts t

    more_before : (x : Entry) → active_before key span x more ≡ active_before key span x ts + bit (active t && earlier e x)
    more_before x = sum_by_push (λ y. bit (active y && earlier (entry_of key span y) x)) ts t

    module _ (hs : List (Reverse Entry)) (was : KeepsFirst m key span ts hs) where
      -- inactive, and so nothing changes
      pub passed : active t ≡ false → KeepsFirst m key span more hs
      passed off = record {
        size = omega (arith, was.size, more_active, ap bit off);
        before = λ x. omega (arith, was.before x, more_before x, ap (λ b. bit (b && earlier e x)) off);
      }

      module _ (on : active t ≡ true) where
        counted : (x : Entry) → active_before key span x more ≡ active_before key span x ts + bit (earlier e x)
        counted x = more_before x ∙ ap (λ b. active_before key span x ts + bit (b && earlier e x)) on

        one_more : count_by active more ≡ count_by active ts + 1
        one_more = more_active ∙ ap (λ b. count_by active ts + bit b) on

        abbrev joined : (x : Entry) (hs' : List (Reverse Entry)) → Type 0
        joined x hs' = kept_before x hs' ≡ bit (earlier e x) + kept_before x hs

        -- into the room
        pub entered : (hs' : List (Reverse Entry)) → length hs < m → IsPermutation (record { 0 = e } ∷ hs) hs' → KeepsFirst m key span more hs'
        entered hs' room moved = record {
          size = omega (arith, was.size, one_more, length_permutation _ hs' moved);
          before = λ x.
              let f : Reverse Entry → Bool = λ h. earlier h.0 x in
              omega (arith, was.before x, counted x, sum_by-IsPermutation (λ h. bit (f h)) _ hs' moved, count_cons f (record { 0 = e }) hs, count_by-le-length f hs, few (earlier e x));
        }

        -- after all that are kept
        stayed : (w : Entry) → length hs ≡ m → Closes w hs → earlier w e ≡ true → KeepsFirst m key span more hs
        stayed w full closes after = record { size = omega (arith, was.size, one_more); before = λ x. by x (earlier e x) refl }
          where
            by : (x : Entry) (b : Bool) → earlier e x ≡ b → kept_before x hs ≡ min m (active_before key span x more)
            by x true p = omega (arith, was.before x, counted x, all_before hs w x closes (over w e x after p))
            by x false p = omega (arith, was.before x, counted x, ap bit p)

        -- for the last one
        came_for : (w : Reverse Entry) (hs' : List (Reverse Entry)) → length hs ≡ m → Closes w.0 hs → earlier w.0 e ≡ false → IsPermutation (record { 0 = e } ∷ hs) (w ∷ hs') → KeepsFirst m key span more hs'
        came_for w hs' full closes before moved = record { size = omega (arith, was.size, one_more, long); before = λ x. by x (earlier w.0 x) refl }
          where
            long : length hs' ≡ length hs
            long = let l = length_permutation _ (w ∷ hs') moved in omega arith

            same : (x : Entry) → bit (earlier w.0 x) + kept_before x hs' ≡ bit (earlier e x) + kept_before x hs
            same x =
                let f : Reverse Entry → Bool = λ h. earlier h.0 x in
                sym (count_cons f w hs') ∙ sum_by-IsPermutation (λ h. bit (f h)) _ (w ∷ hs') moved ∙ count_cons f (record { 0 = e }) hs

            by : (x : Entry) (b : Bool) → earlier w.0 x ≡ b → kept_before x hs' ≡ min m (active_before key span x more)
            by x true p = omega (arith, was.before x, counted x, same x, ap bit p, ap bit (under w.0 e x before p), all_before hs w.0 x closes p)
            by x false p = omega (arith, was.before x, counted x, same x, ap bit p, few (earlier e x), count_by-le-length (λ (h : Reverse Entry). earlier h.0 x) hs', long)

      -- it is active and not after the last one kept, and comes for it
      pub comes : (w : Entry) (old : Reverse Entry) (hs' : List (Reverse Entry)) → Heaped last_first hs → last_kept m hs ≡ Some w → first_of hs ≡ Some old
          → (active t && not (earlier w e)) ≡ true → IsPermutation (record { 0 = e } ∷ hs) (old ∷ hs') → KeepsFirst m key span more hs'
      comes w old hs' heap is_last is-top in_front moved =
          let told = full_top m hs w is_last in
          let same : old ≡ record { 0 = w } = cc told.1 in
          let parts = and_parts (active t) (not (earlier w e)) in_front in
          let before : earlier old.0 e ≡ false = ap (λ h. earlier h.0 e) same ∙ not-true _ parts.1 in
          came_for parts.0 old hs' told.0 (top_closes hs old heap is-top) before moved

      -- it is not, and stays out
      pub stays : (w : Entry) → Heaped last_first hs → last_kept m hs ≡ Some w → (active t && not (earlier w e)) ≡ false → KeepsFirst m key span more hs
      stays w heap is_last behind = split (active t) refl behind
        where
          split : (a : Bool) → active t ≡ a → (a && not (earlier w e)) ≡ false → KeepsFirst m key span more hs
          split true p u = let told = full_top m hs w is_last in stayed p w told.0 (top_closes hs (record { 0 = w }) heap told.1) (not-false (earlier w e) u)
          split false p u = passed p

  -- all tokens have come: those up to the last one kept are the chosen ones
  module _ (ts : List Token) (hs : List (Reverse Entry)) (some : 0 < m) (heap : Heaped last_first hs) (kept : KeepsFirst m key span ts hs) where
    cut : (x : Entry) → active_before key span x ts ≤ count_by active ts → ltb (active_before key span x ts) m ≡ up_to (last_kept m hs) x
    cut x le = by (eqb (length hs) m) refl (first_of hs) refl
      where
        by : (b : Bool) → eqb (length hs) m ≡ b → (f : Option (Reverse Entry)) → first_of hs ≡ f → ltb (active_before key span x ts) m ≡ up_to (cond b (top f) None) x
        by false p f q = lt-ltb _ m (omega (arith, kept.size, eqb-false (length hs) m p))
        by true p None q = absurd (omega (arith, empty hs q, eqb-true (length hs) m p))
        by true p (Some w) q = after (earlier w.0 x) refl
          where
            after : (b : Bool) → earlier w.0 x ≡ b → ltb (active_before key span x ts) m ≡ not b
            after true r = le-ltb _ m (omega (arith, kept.before x, eqb-true (length hs) m p, all_before hs w.0 x (top_closes hs w heap q) r))
            after false r = lt-ltb _ m (omega (arith, kept.before x, eqb-true (length hs) m p, not_all_before hs w x q r))

    pub picks : Picks m key span ts (last_kept m hs)
    picks x = ap (λ b. active x && b) (cut (entry_of key span x) (count_le (λ y. active y && earlier (entry_of key span y) (entry_of key span x)) active ts (λ y _ h. (and_parts (active y) _ h).0)))
