-- What a writer leaves in a list of which it was lent a part.
use Rattle.std.proofs.Common.{◌≡◌, ℕ, ◌+◌, ◌-◌, ◌<◌, ◌≤◌, List, [], ◌∷◌, ◌++◌, length, get_or, take, drop, set, ap, ◌∙◌, arith}
use borrow.Rule.Slice.PartMut.{put_mid}
use Rattle.std.proofs.lemmas.List.{append_assoc, append-nil, set_at, drop_more, length_push, length-drop, take_at, drop_at, drop_all, take_rest, drop-drop, take-append-drop}

-- two elements written behind p
pub write_two : {X : Type 0} (p b : List X) (n : ℕ) (d x y : X) → length p ≡ n → n + 2 ≤ length b →
    set (set (p ++ drop n b) n x) (n + 1) y ≡ p ++ x ∷ y ∷ drop (n + 2) b
write_two p b n d x y e h =
    let l₁ : n < length b = omega arith in
    let l₂ : n + 1 < length b = omega arith in
    let m : drop (n + 1) b ≡ get_or b (n + 1) d ∷ drop (n + 2) b = drop_more b (n + 1) d l₂ ∙ ap (λ k. get_or b (n + 1) d ∷ drop k b) (omega arith) in
    let s : length (p ++ x ∷ []) ≡ n + 1 = length_push p x ∙ ap (λ k. k + 1) e in
    let t : set ((p ++ x ∷ []) ++ get_or b (n + 1) d ∷ drop (n + 2) b) (n + 1) y ≡ (p ++ x ∷ []) ++ y ∷ drop (n + 2) b = set_at (p ++ x ∷ []) (get_or b (n + 1) d) _ y (n + 1) s in
    rw (drop_more b n d l₁, m, set_at p (get_or b n d) _ x n e) (simp append_assoc at t)

none_behind : {X : Type 0} (xs : List X) (n : ℕ) → drop (length xs - n) (drop n xs) ≡ []
none_behind xs n = drop_all (length xs - n) (drop n xs) (simp length-drop (omega arith))

-- the part of e behind its front h was lent, and t written there
pub lent_behind : {X : Type 0} (h b e t ys : List X) (n j : ℕ) → length h ≡ n → e ≡ h ++ drop n b →
    ys ≡ t ++ drop j (take (length e - n) (drop n e)) → put_mid n (length e - n) e ys ≡ h ++ (t ++ drop (n + j) b)
lent_behind h b e t ys n j l p q =
    let f : take n e ≡ h = ap (take n) p ∙ take_at h (drop n b) n l in
    let g : drop n e ≡ drop n b = ap (drop n) p ∙ drop_at h (drop n b) n l in
    let y : ys ≡ t ++ drop (n + j) b = q ∙ ap (λ u. t ++ drop j u) (take_rest e n ∙ g) ∙ ap (λ u. t ++ u) (drop-drop j n b) in
    rw (f, none_behind e n, y) (simp append-nil)

-- the part of xs behind its first n was lent, and r written there
pub lent_written : {X : Type 0} (xs ys r : List X) (n j : ℕ) → ys ≡ r ++ drop j (take (length xs - n) (drop n xs)) →
    put_mid n (length xs - n) xs ys ≡ (take n xs ++ r) ++ drop (n + j) xs
lent_written xs ys r n j q =
    let y : ys ≡ r ++ drop (n + j) xs = q ∙ ap (λ u. r ++ drop j u) (take_rest xs n) ∙ ap (λ u. r ++ u) (drop-drop j n xs) in
    rw (none_behind xs n, y) (simp (append-nil, append_assoc))

-- the part of xs behind its first n was lent, and left as it was
pub lent_same : {X : Type 0} (xs ys : List X) (n : ℕ) → ys ≡ take (length xs - n) (drop n xs) → put_mid n (length xs - n) xs ys ≡ xs
lent_same xs ys n q =
    let y : ys ≡ drop n xs = q ∙ take_rest xs n in
    rw (none_behind xs n, y) (simp append-nil (take-append-drop n xs))

pub length_rest : {X : Type 0} (xs : List X) (n : ℕ) → length (take (length xs - n) (drop n xs)) ≡ length xs - n
length_rest xs n = ap length (take_rest xs n) ∙ length-drop n xs
