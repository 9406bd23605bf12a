-- The tags of a record, one after the other.
use Rattle.std.proofs.Common.{◌≡◌, ℕ, zero, suc, ◌+◌, ◌-◌, ◌*◌, ◌/◌, ◌%◌, ◌<◌, ◌≤◌, List, [], ◌∷◌, ◌++◌, length, get_or, take, drop, set, replicate, refl, ap, ◌∙◌, mul-add, add-one, arith}
use Rattle.std.proofs.lemmas.List.{append_assoc, set_at, take_more, length-take-le, drop-drop, get_or-drop, get_or-take}
use Rattle.std.specs.Simd.{first_chunks}
use Rattle.plan_file.specs.Records.{tag_bytes, tags_at}
use Rattle.plan_file.proofs.Lent.{write_two}

pub length_tag_bytes : (ts : List ℕ) → length (tag_bytes ts) ≡ 2 * length ts
length_tag_bytes [] = refl
length_tag_bytes (t ∷ ts) = omega (arith, length_tag_bytes ts)

pub tag_bytes-++ : (ts us : List ℕ) → tag_bytes (ts ++ us) ≡ tag_bytes ts ++ tag_bytes us
tag_bytes-++ [] us = refl
tag_bytes-++ (t ∷ ts) us = ap (λ l. (t / 256 % 256) ∷ (t % 256) ∷ l) (tag_bytes-++ ts us)

-- one more tag written
pub tags_more : (ts b : List ℕ) (i : ℕ) → i < length ts → 2 * length ts ≤ length b →
    set (set (tag_bytes (take i ts) ++ drop (2 * i) b) (2 * i) (get_or ts i 0 / 256 % 256)) (2 * i + 1) (get_or ts i 0 % 256)
    ≡ tag_bytes (take (i + 1) ts) ++ drop (2 * (i + 1)) b
tags_more ts b i h g =
    let l : i ≤ length ts = omega arith in
    let n : length (tag_bytes (take i ts)) ≡ 2 * i = length_tag_bytes (take i ts) ∙ ap (λ k. 2 * k) (length-take-le i ts l) in
    rw (write_two (tag_bytes (take i ts)) b (2 * i) 0 (get_or ts i 0 / 256 % 256) (get_or ts i 0 % 256) n (omega arith), take_more ts i 0 h, tag_bytes-++ (take i ts), mul-add) (simp append_assoc)

pub length_tags_at : (m : ℕ) (bs : List ℕ) → length (tags_at m bs) ≡ m
length_tags_at zero bs = refl
length_tags_at (suc m) bs = ap suc (length_tags_at m (drop 2 bs))

tags_at_suc : (i : ℕ) (bs : List ℕ) → tags_at (suc i) bs ≡ tags_at i bs ++ (get_or bs (2 * i) 0 * 256 + get_or bs (2 * i + 1) 0) ∷ []
tags_at_suc zero bs = refl
tags_at_suc (suc i) bs =
    let a : get_or (drop 2 bs) (2 * i) 0 ≡ get_or bs (2 * suc i) 0 = get_or-drop 2 bs (2 * i) 0 ∙ ap (λ k. get_or bs k 0) (omega arith) in
    let b : get_or (drop 2 bs) (2 * i + 1) 0 ≡ get_or bs (2 * suc i + 1) 0 = get_or-drop 2 bs (2 * i + 1) 0 ∙ ap (λ k. get_or bs k 0) (omega arith) in
    ap (λ l. (get_or bs 0 0 * 256 + get_or bs 1 0) ∷ l) (rw (tags_at_suc i (drop 2 bs), a, b) refl)

-- one more tag read
pub tags_at_more : (i : ℕ) (bs : List ℕ) → tags_at (i + 1) bs ≡ tags_at i bs ++ (get_or bs (2 * i) 0 * 256 + get_or bs (2 * i + 1) 0) ∷ []
tags_at_more i bs = ap (λ n. tags_at n bs) (add-one i) ∙ tags_at_suc i bs

-- the pair at index i
pair_at : (n i : ℕ) (bs p : List ℕ) → i < n → get_or (first_chunks 2 n bs) i p ≡ take 2 (drop (2 * i) bs)
pair_at zero i bs p h = absurd (omega arith)
pair_at (suc n) zero bs p h = refl
pair_at (suc n) (suc i) bs p h = pair_at n i (drop 2 bs) p (omega arith) ∙ ap (take 2) (drop-drop (2 * i) 2 bs ∙ ap (λ k. drop k bs) (omega arith))

-- the bytes of the pair at index i of the first m
pub pair_bytes : (n m i : ℕ) (bs p : List ℕ) → i < n → i < m →
    (get_or (get_or (first_chunks 2 n (take (2 * m) bs)) i p) 0 0 ≡ get_or bs (2 * i) 0)
    × (get_or (get_or (first_chunks 2 n (take (2 * m) bs)) i p) 1 0 ≡ get_or bs (2 * i + 1) 0)
pair_bytes n m i bs p h g =
    let e = pair_at n i (take (2 * m) bs) p h in
    let f : (k : ℕ) → k < 2 → get_or (take 2 (drop (2 * i) (take (2 * m) bs))) k 0 ≡ get_or bs (2 * i + k) 0 =
    λ k l. get_or-take 2 (drop (2 * i) (take (2 * m) bs)) k 0 l ∙ get_or-drop (2 * i) (take (2 * m) bs) k 0 ∙ get_or-take (2 * m) bs (2 * i + k) 0 (omega arith) in
    (ap (λ x. get_or x 0 0) e ∙ f 0 (omega arith) ∙ ap (λ k. get_or bs k 0) (omega arith), ap (λ x. get_or x 1 0) e ∙ f 1 (omega arith))

-- the same, with zeros in the other places of a row
pub tags_read : (i : ℕ) (bs : List ℕ) → i < 16 →
    set (tags_at i bs ++ replicate (16 - i) 0) i (get_or bs (2 * i) 0 * 256 + get_or bs (2 * i + 1) 0)
    ≡ tags_at (i + 1) bs ++ replicate (16 - (i + 1)) 0
tags_read i bs h =
    let k : 16 - i ≡ suc (16 - (i + 1)) = omega arith in
    let r : replicate (16 - i) 0 ≡ 0 ∷ replicate (16 - (i + 1)) 0 = ap (λ n. replicate {A = ℕ} n 0) k in
    rw (r, set_at (tags_at i bs) 0 (replicate (16 - (i + 1)) 0) (get_or bs (2 * i) 0 * 256 + get_or bs (2 * i + 1) 0) i (length_tags_at i bs), tags_at_more i bs)
    (simp append_assoc)
