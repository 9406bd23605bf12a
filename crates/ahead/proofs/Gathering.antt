-- The queue after one task more.
use Rattle.std.proofs.Common.{◌≡◌, ℕ, ◌+◌, ◌^◌, ◌<◌, ◌≤◌, Bool, true, List, [], ◌∷◌, ◌++◌, map, length, get_or, take, Result, sym, refl, ap, ◌∙◌, subst, arith}
use Rattle.std.specs.List.Sorted.{IsPermutation}
use Rattle.std.specs.List.{AllByRecursion}
use Rattle.std.proofs.lemmas.List.{length-map, length-take-le, take_more, map-append}
use Rattle.std.proofs.lemmas.List.Sorted.{IsPermutation-refl, IsPermutation-cons, IsPermutation-trans, IsPermutation-to_front, length_permutation}
use Rattle.rows.specs.declared.refusal.Refusal.{Refusal}
use Rattle.queue.specs.declared.Queue.{Queue}
use Rattle.queue.specs.Held.{held, Inserted}
use Rattle.queue.specs.Order.{Heaped}
use Rattle.queue.proofs.Heap.{heap_none}
use Rattle.model.specs.State.{unless}
use Rattle.ahead.specs.declared.release.Due.{Due}
use Rattle.ahead.specs.Waiting.{compared, by_tick}

pub none_held : (hs : List Due) → length hs ≡ 0 → IsPermutation [] hs × Heaped by_tick hs × AllByRecursion (λ d. d.tick ≤ 2 ^ 33) hs
none_held [] e = (IsPermutation-refl [], heap_none by_tick [] refl, tt)
none_held (h ∷ hs) e = absurd (omega arith)

module _ {X : Type 0} (f : X → Due) (xs : List X) (i : ℕ) (d : X) (in' : i < length xs) (q q' : Queue Due) (was : IsPermutation (map f (take i xs)) (held q)) where
  pub held_long : length (held q) ≡ i
  held_long = length_permutation _ (held q) was ∙ length-map (take i xs) f ∙ length-take-le i xs (omega arith)

  pub gathered : Inserted compared q (f (get_or xs i d)) q' → IsPermutation (map f (take (i + 1) xs)) (held q')
  gathered put =
      let y = f (get_or xs i d) in
      let one_more : map f (take (i + 1) xs) ≡ map f (take i xs) ++ y ∷ [] = ap (map f) (take_more xs i d in') ∙ map-append f (take i xs) (get_or xs i d ∷ []) in
      subst (λ l. IsPermutation l (held q')) (sym one_more)
      (IsPermutation-trans _ _ _ (IsPermutation-to_front (map f (take i xs)) y) (IsPermutation-trans _ _ _ (IsPermutation-cons y _ _ was) put.items))

-- no refusal applies
pub none_refused : (a b c : Bool) (d e f : Refusal) (r : Result (Unit {0}) Refusal) → a ≡ true → b ≡ true → c ≡ true → unless a d (unless b e (unless c f r)) ≡ r
none_refused a b c d e f r p q s = λ i. unless (p i) d (unless (q i) e (unless (s i) f r))
