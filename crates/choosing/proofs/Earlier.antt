-- The order of entries, and the one on top of the kept ones: none stands after it.
use Rattle.std.proofs.Common.{◌≡◌, ◌<◌, true, false, ◌&&◌, ◌||◌, eqb, ltb, List, [], ◌∷◌, length, Some, sym, refl, ap, ◌∙◌, true≢false, arith}
use Rattle.std.specs.declared.cmp.Reverse.{Reverse}
use Rattle.std.specs.List.{AllByRecursion}
use Rattle.std.proofs.HeapSift.{ranks}
use Rattle.std.proofs.lemmas.List.Sums.{count_by-le-length}
use Rattle.std.proofs.lemmas.Bool.{true_from_ne_false}
use Rattle.queue.specs.Held.{first_of}
use Rattle.queue.specs.Order.{before, Heaped, First}
use Rattle.queue.proofs.Heap.{before_then, before_last, top_at, top_leads}
use Rattle.model.proofs.Counts.{bit, count_cons}
use Rattle.choosing.specs.declared.entry.Entry.{Entry}
use Rattle.choosing.specs.Entries.{earlier}
use Rattle.choosing.specs.Keeping.{first_first, last_first, kept_before}

before_is : (x y : Entry) → before first_first x y ≡ earlier x y
before_is x y =
    before_then (ltb x.key y.key) (eqb x.key y.key) _
    ∙ ap (λ b. ltb x.key y.key || (eqb x.key y.key && b)) (before_last (ltb x.tag y.tag) (eqb x.tag y.tag))

-- what stands before one that is not before x is not before x
chain : (w h x : Entry) → earlier w h ≡ false → earlier h x ≡ false → earlier w x ≡ false
chain w h x p q = sym (before_is w x) ∙ (ranks first_first).chain w h x (before_is w h ∙ p) (before_is h x ∙ q)

-- what does not stand after w is before x, where w is
pub under : (w h x : Entry) → earlier w h ≡ false → earlier w x ≡ true → earlier h x ≡ true
under w h x p q = true_from_ne_false (earlier h x) (λ e. true≢false (sym q ∙ chain w h x p e))

-- what stands after w is not before x, where w is not
pub over : (w e x : Entry) → earlier w e ≡ true → earlier e x ≡ true → earlier w x ≡ true
over w e x p q =
    let asym : earlier e w ≡ false = sym (before_is e w) ∙ (ranks first_first).one_way w e (before_is w e ∙ p) in
    true_from_ne_false (earlier w x) (λ r. true≢false (sym q ∙ chain e w x asym r))

-- none of hs stands after w
abbrev pub Closes : Entry → List (Reverse Entry) → Type 0
Closes w hs = AllByRecursion (λ h. earlier w h.0 ≡ false) hs

closes_from : (hs : List (Reverse Entry)) (w : Reverse Entry) → First last_first w hs → Closes w.0 hs
closes_from [] w a = tt
closes_from (h ∷ hs) w a = (sym (before_is w.0 h.0) ∙ a.0, closes_from hs w a.1)

-- the one on top is the last
pub top_closes : (hs : List (Reverse Entry)) (w : Reverse Entry) → Heaped last_first hs → first_of hs ≡ Some w → Closes w.0 hs
top_closes hs w heap e = closes_from hs w (top_leads _ hs w (top_at hs w e).1 last_first heap)

-- where the last stands before x, all do
pub all_before : (hs : List (Reverse Entry)) (w x : Entry) → Closes w hs → earlier w x ≡ true → kept_before x hs ≡ length hs
all_before [] w x a p = refl
all_before (h ∷ hs) w x a p = omega (arith, count_cons (λ (k : Reverse Entry). earlier k.0 x) h hs, ap bit (under w h.0 x a.0 p), all_before hs w x a.1 p)

-- and where it does not, not all do
pub not_all_before : (hs : List (Reverse Entry)) (w : Reverse Entry) (x : Entry) → first_of hs ≡ Some w → earlier w.0 x ≡ false → kept_before x hs < length hs
not_all_before [] w x e p = absurd (cc)
not_all_before (h ∷ hs) w x e p =
    let same : h ≡ w = cc in
    let out : bit (earlier h.0 x) ≡ 0 = ap (λ k. bit (earlier k.0 x)) same ∙ ap bit p in
    omega (arith, count_cons (λ (k : Reverse Entry). earlier k.0 x) h hs, out, count_by-le-length (λ (k : Reverse Entry). earlier k.0 x) hs)
