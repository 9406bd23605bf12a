-- A list written over, from a place on and element by element.
use Rattle.std.proofs.Common.{◌≡◌, ℕ, ◌+◌, ◌-◌, ◌<◌, ◌≤◌, List, [], ◌∷◌, ◌++◌, map, length, get_or, take, drop, set, sym, ap, ◌∙◌, arith}
use borrow.Rule.Slice.PartMut.{put_mid}
use Rattle.std.proofs.lemmas.List.{drop_all, drop_at, append-nil, length-drop, take_more, drop_more, set_at, map-append, length-map, length-take-le, append_assoc}

-- what is lent from `n` on to the end comes back there
pub lent_rest : {X : Type 0} (xs ys : List X) (n : ℕ) → put_mid n (length xs - n) xs ys ≡ take n xs ++ ys
lent_rest xs ys n =
    let z : drop (length xs - n) (drop n xs) ≡ [] = drop_all (length xs - n) (drop n xs) (simp length-drop (omega arith)) in
    ap (λ l. take n xs ++ (ys ++ l)) z ∙ ap (λ l. take n xs ++ l) (append-nil ys)

-- what was written into a lent part is there
pub lent_part : {X : Type 0} (xs ys : List X) (n : ℕ) → n ≤ length xs → drop n (put_mid n (length xs - n) xs ys) ≡ ys
lent_part xs ys n h = ap (drop n) (lent_rest xs ys n) ∙ drop_at (take n xs) ys n (length-take-le n xs h)

-- one more of the images of xs written over ys
pub map_more : {X Y : Type 0} (f : X → Y) (xs : List X) (ys : List Y) (i : ℕ) (d : X) → i < length xs → length xs ≤ length ys
    → set (map f (take i xs) ++ drop i ys) i (f (get_or xs i d)) ≡ map f (take (i + 1) xs) ++ drop (i + 1) ys
map_more f xs ys i d h l =
    let e = f (get_or xs i d) in
    let long : length (map f (take i xs)) ≡ i = length-map (take i xs) f ∙ length-take-le i xs (omega arith) in
    let front : map f (take (i + 1) xs) ≡ map f (take i xs) ++ e ∷ [] = ap (map f) (take_more xs i d h) ∙ map-append f (take i xs) (get_or xs i d ∷ []) in
    ap (λ u. set (map f (take i xs) ++ u) i e) (drop_more ys i e (omega arith))
    ∙ set_at (map f (take i xs)) (get_or ys i e) (drop (i + 1) ys) e i long
    ∙ sym (append_assoc (map f (take i xs)) (e ∷ []) (drop (i + 1) ys))
    ∙ ap (λ u. u ++ drop (i + 1) ys) (sym front)
