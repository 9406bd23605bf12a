-- The list and the queue after one place more.
use Rattle.std.proofs.Common.{◌≡◌, ℕ, zero, suc, ◌+◌, ◌*◌, ◌^◌, ◌<◌, ◌≤◌, List, [], ◌∷◌, length, get_or, set, Some, sym, refl, ap, ◌∙◌, subst, ⊎_elim, add-one, arith}
use Rattle.std.specs.List.Sorted.{IsPermutation}
use Rattle.std.specs.List.{AllByRecursion}
use Rattle.std.proofs.Permutation.{which}
use Rattle.std.proofs.ByRecursion.{All-weaker, all_shuffled}
use Rattle.std.proofs.lemmas.List.{get_or-set_same, get_or-set_other}
use Rattle.rows.specs.declared.memory.Task.{Task}
use Rattle.queue.specs.Held.{first_of}
use Rattle.queue.specs.Order.{First}
use Rattle.model.specs.Members.{In}
use Rattle.ahead.specs.declared.release.Release.{Release}
use Rattle.ahead.specs.declared.release.Due.{Due}
use Rattle.ahead.specs.Ahead.{Next, previous, blank}
use Rattle.ahead.specs.Waiting.{by_tick, release, later, FirstDue, Table, Waiting}
use Rattle.ahead.proofs.Listing.{next_is, waiting_more}

top_of : (P : Due → Type 0) (hs : List Due) (x : Due) → first_of hs ≡ Some x → AllByRecursion P hs → P x
top_of P [] x e a = absurd (cc)
top_of P (h ∷ hs) x e a = let same : h ≡ x = cc in subst P same a.0

-- a write at i leaves what is listed before a place up to i
kept_before : (ls : List Release) (i : ℕ) (v : Release) (k : ℕ) → k ≤ i → previous (set ls i v) k ≡ previous ls k
kept_before ls i v zero h = refl
kept_before ls i v (suc k) h = ap Some (get_or-set_other ls i k v blank (omega arith))

now_before : (ls : List Release) (i : ℕ) (v : Release) → i < length ls → previous (set ls i v) (i + 1) ≡ Some v
now_before ls i v h = ap (previous (set ls i v)) (add-one i) ∙ ap Some (get_or-set_same ls i v blank h)

-- the one on top goes to place i, and its task's next one waits
module _ (ts : List Task) (table : Table ts) (tick : ℕ) (ls : List Release) (i : ℕ) (in' : i < length ls) (hs hs' : List Due) (x : Due)
    (is-top : first_of hs ≡ Some x) (on_top : First by_tick x hs) (moved : IsPermutation (later x ∷ hs) (x ∷ hs'))
    (was : Waiting ts tick (previous ls i) hs) (listed : (k : ℕ) → k < i → Next ts tick (previous ls k) (get_or ls k blank)) where
  owner : (t : Task) × In t ts × FirstDue tick (previous ls i) t x
  owner = top_of (λ d. (t : Task) × In t ts × FirstDue tick (previous ls i) t d) hs x is-top was.each

  pub waits : Waiting ts tick (previous (set ls i (release x)) (i + 1)) hs'
  waits = subst (λ p. Waiting ts tick p hs') (sym (now_before ls i (release x) in'))
      (waiting_more ts table tick (previous ls i) hs was x on_top owner.0 owner.1 owner.2 hs' moved)

  pub lists : (k : ℕ) → k < i + 1 → Next ts tick (previous (set ls i (release x)) k) (get_or (set ls i (release x)) k blank)
  lists k lt =
      let v = release x in
      let before = sym (kept_before ls i v k (omega arith)) in
      subst (λ p. Next ts tick p (get_or (set ls i v) k blank)) before (⊎_elim
      (λ (e : k ≡ i).
      let here : release x ≡ get_or (set ls i v) k blank = sym (ap (λ j. get_or (set ls i v) j blank) e ∙ get_or-set_same ls i v blank in') in
      subst (Next ts tick (previous ls k)) here (subst (λ j. Next ts tick (previous ls j) v) (sym e) (next_is ts table tick (previous ls i) hs was x on_top owner.0 owner.1 owner.2)))
      (λ (n : k ≡ i → ⊥). subst (Next ts tick (previous ls k)) (sym (get_or-set_other ls i k v blank n)) (listed k (omega arith)))
      (which k i))

-- ticks stay near
pub stays_near : (i : ℕ) (hs hs' : List Due) (x : Due) → x.period < 2 ^ 32 → first_of hs ≡ Some x → IsPermutation (later x ∷ hs) (x ∷ hs')
    → AllByRecursion (λ d. d.tick ≤ 2 ^ 33 + i * 2 ^ 32) hs → AllByRecursion (λ d. d.tick ≤ 2 ^ 33 + (i + 1) * 2 ^ 32) hs'
stays_near i hs hs' x short is-top moved near =
    let here = top_of (λ d. d.tick ≤ 2 ^ 33 + i * 2 ^ 32) hs x is-top near in
    (all_shuffled (λ d. d.tick ≤ 2 ^ 33 + (i + 1) * 2 ^ 32) (later x ∷ hs) (x ∷ hs') moved (omega arith, All-weaker (λ d. d.tick ≤ 2 ^ 33 + i * 2 ^ 32) (λ d. d.tick ≤ 2 ^ 33 + (i + 1) * 2 ^ 32) (λ d h. omega arith) hs near)).1
