-- Writing and reading a record undo each other.
use Rattle.std.proofs.Common.{◌≡◌, ℕ, zero, suc, ◌+◌, ◌-◌, ◌*◌, ◌/◌, ◌%◌, ◌<◌, ◌≤◌, true, eqb, List, [], ◌∷◌, ◌++◌, length, get_or, take, drop, replicate, None, Ok, sym, refl, ap, ◌∙◌, arith, take-add, w64}
use Rattle.std.proofs.lemmas.List.{take-append-drop, length-append, length-replicate, length-take-le, length-drop, get_or-drop, take_at, drop_at, take_more, get_or-take}
use Rattle.std.proofs.lemmas.Nat.{be_bytes_8, from_be_bytes-to_be_bytes_8}
use Rattle.std.specs.Int.{from_be_bytes}
use Rattle.std.proofs.lemmas.Bool.Decides.{nat_tests}
use Rattle.rows.specs.Tests.{within, distinct, all}
use Rattle.plan_file.specs.declared.record.RecordHead.{RecordHead}
use Rattle.plan_file.specs.Bytes.{be64, first64}
use Rattle.plan_file.specs.Records.{record_size, record_bytes, tag_bytes, tags_at, segment_at}
use Rattle.plan_file.specs.Faults.{answered}
use Rattle.plan_file.specs.Heads.{head_of, head_at, head_fault}
use Rattle.plan_file.specs.RoundTrip.{Below, WrittenReads, ReadWrites}
use Rattle.plan_file.proofs.Tags.{length_tag_bytes, length_tags_at}
use Rattle.plan_file.proofs.NextRecord.{one_read}

tags_undo : (ts rest : List ℕ) → Below 65536 ts → tags_at (length ts) (tag_bytes ts ++ rest) ≡ ts
tags_undo [] rest h = refl
tags_undo (t ∷ ts) rest h =
    let f : t < 65536 = h 0 in
    let e : (t / 256 % 256) * 256 + t % 256 ≡ t = omega arith in
    rw (e, tags_undo ts rest (λ i. h (suc i))) refl

pub below_take : (m : ℕ) (ts : List ℕ) (b : ℕ) → Below b ts → Below b (take m ts)
below_take zero ts b h i = omega (arith, h i)
below_take (suc m) [] b h i = h i
below_take (suc m) (t ∷ ts) b h zero = h 0
below_take (suc m) (t ∷ ts) b h (suc i) = below_take m ts b (λ k. h (suc k)) i

zeros_replicate : (ts : List ℕ) → all (λ t. eqb t 0) ts ≡ true → ts ≡ replicate (length ts) 0
zeros_replicate [] h = refl
zeros_replicate (t ∷ ts) h =
    let z : t ≡ 0 = grind (arith, nat_tests) in
    let w : all (λ t. eqb t 0) ts ≡ true = grind (arith, nat_tests) in
    rw z (ap (λ l. 0 ∷ l) (zeros_replicate ts w))

zeros_of_replicate : (n : ℕ) → all (λ t. eqb t 0) (replicate n 0) ≡ true
zeros_of_replicate zero = refl
zeros_of_replicate (suc n) = zeros_of_replicate n

-- the tags up to m, and zeros behind them
filled : (m : ℕ) (ts : List ℕ) → length ts ≡ 16 → all (λ t. eqb t 0) (drop m ts) ≡ true → take m ts ++ replicate (16 - m) 0 ≡ ts
filled m ts l z =
    let k : length (drop m ts) ≡ 16 - m = length-drop m ts ∙ ap (λ n. n - m) l in
    let r : drop m ts ≡ replicate (16 - m) 0 = zeros_replicate (drop m ts) z ∙ ap (λ n. replicate {A = ℕ} n 0) k in
    ap (λ u. take m ts ++ u) (sym r) ∙ take-append-drop m ts

head_fine : (v : RecordHead) (bs : List ℕ) → head_at bs ≡ v → head_fault v ≡ None → Ok v ≡ answered (head_fault (head_at bs)) (head_at bs)
head_fine v bs e f = sym (ap (λ w. answered (head_fault w) w) e ∙ ap (λ g. answered g v) f)

pub written_reads : WrittenReads
written_reads m s behind w =
    let f = w.faultless in
    let bs = record_bytes m s ++ behind in
    let ts = s.row in
    let p : within 1 16 m ≡ true = grind (arith, nat_tests) in
    let a : m ≤ 16 = grind (arith, nat_tests) in
    let b : s.units < 18446744073709551616 = grind (arith, nat_tests) in
    let q : head_fault (head_of s) ≡ None = grind (arith, nat_tests) in
    let z : all (λ t. eqb t 0) (drop m ts) ≡ true = grind (arith, nat_tests) in
    let k : length (take m ts) ≡ m = length-take-le m ts (omega (arith, w.places)) in
    let u : tags_at m (tag_bytes (take m ts) ++ behind) ≡ take m ts = rw k at (tags_undo (take m ts) behind (below_take m ts 65536 w.tags)) in
    let r : (segment_at m bs).row ≡ ts = ap (λ x. x ++ replicate (16 - m) 0) u ∙ filled m ts w.places z in
    let n : first64 bs ≡ s.units = from_be_bytes-to_be_bytes_8 s.units b in
    let e : head_at bs ≡ head_of s = rw n refl in
    let l : length (tag_bytes (take m ts) ++ behind) ≡ 2 * m + length behind = length-append (tag_bytes (take m ts)) behind ∙ ap (λ x. x + length behind) (length_tag_bytes (take m ts) ∙ ap (λ x. 2 * x) k) in
    ((one_read m bs p (head_of s) (omega arith) (head_fine (head_of s) bs e q) (ap distinct r ∙ w.apart)).0, rw (n, r) refl)

pub below_drop : (n : ℕ) (bs : List ℕ) (b : ℕ) → Below b bs → Below b (drop n bs)
below_drop n bs b h i = rw (get_or-drop n bs i 0) (h (n + i))

tags_redo : (m : ℕ) (bs : List ℕ) → Below 256 bs → 2 * m ≤ length bs → tag_bytes (tags_at m bs) ≡ take (2 * m) bs
tags_redo zero bs h l = refl
tags_redo (suc m) bs h l =
    let a = h 0 in
    let b = h 1 in
    let p : (get_or bs 0 0 * 256 + get_or bs 1 0) / 256 % 256 ≡ get_or bs 0 0 = omega arith in
    let q : (get_or bs 0 0 * 256 + get_or bs 1 0) % 256 ≡ get_or bs 1 0 = omega arith in
    let r = tags_redo m (drop 2 bs) (below_drop 2 bs 256 h) (simp length-drop (omega arith)) in
    let k : 2 * suc m ≡ 2 + 2 * m = omega arith in
    let t : take 2 bs ≡ get_or bs 0 0 ∷ get_or bs 1 0 ∷ [] = simp (take_more bs 1 0 (omega arith), take_more bs 0 0 (omega arith)) in
    rw (k, take-add 2 (2 * m) bs, t, p, q, r) refl

head_redo : (bs : List ℕ) → Below 256 bs → 9 ≤ length bs → be64 (first64 bs) ++ get_or bs 8 0 ∷ [] ≡ take 9 bs
head_redo bs h l =
    let e : first64 bs ≡ from_be_bytes w64 (take 8 bs) = simp (get_or-take 8 bs 0 0 (omega arith), get_or-take 8 bs 1 0 (omega arith), get_or-take 8 bs 2 0 (omega arith), get_or-take 8 bs 3 0 (omega arith), get_or-take 8 bs 4 0 (omega arith), get_or-take 8 bs 5 0 (omega arith), get_or-take 8 bs 6 0 (omega arith), get_or-take 8 bs 7 0 (omega arith)) (omega arith) in
    let d : be64 (first64 bs) ≡ take 8 bs = be_bytes_8 (take 8 bs) (first64 bs) (length-take-le 8 bs (omega arith)) (below_take 8 bs 256 h) e in
    ap (λ x. x ++ get_or bs 8 0 ∷ []) d ∙ sym (take_more bs 8 0 (omega arith))

below_tags : (m : ℕ) (bs : List ℕ) (n : ℕ) → Below 256 bs → Below 65536 (tags_at m bs ++ replicate n 0)
below_tags zero bs zero h i = omega arith
below_tags zero bs (suc n) h zero = omega arith
below_tags zero bs (suc n) h (suc i) = below_tags zero bs n h i
below_tags (suc m) bs n h zero = omega (arith, h 0, h 1)
below_tags (suc m) bs n h (suc i) = below_tags m (drop 2 bs) n (below_drop 2 bs 256 h) i

pub read_writes : ReadWrites
read_writes m bs h t =
    let g : m ≤ 16 = grind (arith, nat_tests) in
    let s : record_size m ≤ length bs = grind (arith, nat_tests) in
    let f : head_fault (head_at bs) ≡ None = grind (arith, nat_tests) in
    let k = length_tags_at m (drop 9 bs) in
    let z : all (λ t. eqb t 0) (drop m (segment_at m bs).row) ≡ true = ap (all (λ t. eqb t 0)) (drop_at (tags_at m (drop 9 bs)) (replicate (16 - m) 0) m k) ∙ zeros_of_replicate (16 - m) in
    let u : take m (segment_at m bs).row ≡ tags_at m (drop 9 bs) = take_at (tags_at m (drop 9 bs)) (replicate (16 - m) 0) m k in
    let v = tags_redo m (drop 9 bs) (below_drop 9 bs 256 h) (simp length-drop (omega arith)) in
    let w = head_redo bs h (omega arith) in
    let e = be64 (first64 bs) ++ get_or bs 8 0 ∷ [] in
    let l : length (segment_at m bs).row ≡ 16 = length-append (tags_at m (drop 9 bs)) (replicate (16 - m) 0) ∙ simp (k, length-replicate) (omega arith) in (
      record { places = l; tags = below_tags m (drop 9 bs) (16 - m) (below_drop 9 bs 256 h); apart = grind (arith, nat_tests); faultless = grind (arith, nat_tests) },
      ap (λ x. e ++ tag_bytes x) u ∙ ap (λ x. e ++ x) v ∙ ap (λ x. x ++ take (2 * m) (drop 9 bs)) w ∙ sym (take-add 9 (2 * m) bs),
    )
