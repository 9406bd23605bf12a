-- Writing and reading a whole file undo each other.
use Rattle.std.proofs.Common.{◌≡◌, ℕ, zero, suc, ◌+◌, ◌*◌, ◌<◌, ◌≤◌, List, [], ◌∷◌, ◌++◌, length, get_or, take, drop, None, sym, refl, ap, ◌∙◌, arith, take-add, w32}
use Rattle.std.proofs.lemmas.List.{length-take-le, length-drop, drop_at, take-append-drop, take_more, get_or-take, get_or-drop}
use Rattle.std.proofs.lemmas.Nat.{be_bytes_4, from_be_bytes-to_be_bytes_4}
use Rattle.std.specs.Int.{from_be_bytes}
use Rattle.plan_file.specs.Bytes.{be32}
use Rattle.std.proofs.lemmas.Bool.Decides.{nat_tests}
use Rattle.plan_file.specs.Records.{Segment, record_size, record_bytes, records_bytes, segments_at}
use Rattle.plan_file.specs.Faults.{or_else}
use Rattle.plan_file.specs.Heads.{head_of}
use Rattle.plan_file.specs.Writing.{header_size, header_bytes}
use Rattle.plan_file.specs.Opening.{open_fault, file_processors, file_scale}
use Rattle.plan_file.specs.Files.{file_bytes, records_in, records_fault, file_segments}
use Rattle.plan_file.specs.RoundTrip.{Below, Writable, EachWritable, WrittenFileReads, ReadFileWrites}
use Rattle.plan_file.proofs.Tags.{length_tag_bytes}
use Rattle.plan_file.proofs.Fault.{both_none}
use Rattle.plan_file.proofs.NextRecord.{some_took}
use Rattle.plan_file.proofs.Undo.{written_reads, read_writes, below_take, below_drop}
use Rattle.plan_file.proofs.ReadOn.{records_none, records_more, faultless_takes}

length_record : (m : ℕ) (s : Segment) → Writable m s → length (record_bytes m s) ≡ record_size m
length_record m s w =
    let f = w.faultless in
    let a : m ≤ 16 = grind (arith, nat_tests) in
    let k = length-take-le m s.row (omega (arith, w.places)) in
    let l = length_tag_bytes (take m s.row) in
    omega (arith, k, l)

-- the segments written one behind the other
records_read : (m : ℕ) (ss : List Segment) → EachWritable m ss →
    (records_fault m (records_bytes m ss) ≡ None) × (segments_at m (records_in m (records_bytes m ss)) (records_bytes m ss) ≡ ss)
records_read m [] w =
    let z = records_none m [] refl in
    (z.0, ap (λ k. segments_at m k []) z.1)
records_read m (s ∷ ss) w =
    let bs = record_bytes m s ++ records_bytes m ss in
    let g = written_reads m s (records_bytes m ss) w.0 in
    let t = (some_took m bs (head_of s) (sym g.0)).0 in
    let d : drop (record_size m) bs ≡ records_bytes m ss = drop_at (record_bytes m s) (records_bytes m ss) (record_size m) (length_record m s w.0) in
    let e = records_more m bs t in
    let r = records_read m ss w.1 in (
      e.0 ∙ ap (records_fault m) d ∙ r.0,
      ap (λ k. segments_at m k bs) e.1
          ∙ ap (λ x. x ∷ segments_at m (records_in m (drop (record_size m) bs)) (drop (record_size m) bs)) g.1
          ∙ ap (λ x. s ∷ segments_at m (records_in m x) x) d
          ∙ ap (λ x. s ∷ x) r.1,
    )

pub written_file_reads : WrittenFileReads
written_file_reads m scale ss h w =
    let file = file_bytes m scale ss in
    let a : scale < 4294967296 = grind (arith, nat_tests) in
    let q : file_scale file ≡ scale = from_be_bytes-to_be_bytes_4 scale a in
    let r = records_read m ss w in
    let o : open_fault file ≡ None = grind (arith, nat_tests) in
    (ap (λ f. or_else f (records_fault m (records_bytes m ss))) o ∙ r.0, refl, q, r.1)

pub header_redo : (file : List ℕ) → Below 256 file → open_fault file ≡ None → header_bytes (file_processors file) (file_scale file) ≡ take 10 file
header_redo file h o =
    let h3 = h 3 in
    let h4 = h 4 in
    let l : 10 ≤ length file = grind (arith, nat_tests) in
    let k0 : get_or file 0 0 ≡ 75 = grind (arith, nat_tests) in
    let k1 : get_or file 1 0 ≡ 80 = grind (arith, nat_tests) in
    let k2 : get_or file 2 0 ≡ 76 = grind (arith, nat_tests) in
    let v : get_or file 3 0 * 256 + get_or file 4 0 ≡ 1 = grind (arith, nat_tests) in
    let k3 : get_or file 3 0 ≡ 0 = omega arith in
    let k4 : get_or file 4 0 ≡ 1 = omega arith in
    let front : take 6 file ≡ get_or file 0 0 ∷ get_or file 1 0 ∷ get_or file 2 0 ∷ get_or file 3 0 ∷ get_or file 4 0 ∷ get_or file 5 0 ∷ [] = simp (take_more file 5 0 (omega arith), take_more file 4 0 (omega arith), take_more file 3 0 (omega arith), take_more file 2 0 (omega arith), take_more file 1 0 (omega arith), take_more file 0 0 (omega arith)) in
    let four : file_scale file ≡ from_be_bytes w32 (take 4 (drop 6 file)) = simp (get_or-take 4 (drop 6 file) 0 0 (omega arith), get_or-take 4 (drop 6 file) 1 0 (omega arith), get_or-take 4 (drop 6 file) 2 0 (omega arith), get_or-take 4 (drop 6 file) 3 0 (omega arith), get_or-drop 6 file 0 0, get_or-drop 6 file 1 0, get_or-drop 6 file 2 0, get_or-drop 6 file 3 0) (omega arith) in
    let scale : be32 (file_scale file) ≡ take 4 (drop 6 file) = be_bytes_4 (take 4 (drop 6 file)) (file_scale file) (length-take-le 4 (drop 6 file) (simp length-drop (omega arith))) (below_take 4 (drop 6 file) 256 (below_drop 6 file 256 h)) four in
    rw (take-add 6 4 file, front, scale, k0, k1, k2, k3, k4) refl

-- the segments of bytes that read to their end; n bounds their length
records_redo : (m : ℕ) (n : ℕ) (bs : List ℕ) → length bs ≤ n → Below 256 bs → records_fault m bs ≡ None →
    EachWritable m (segments_at m (records_in m bs) bs) × (records_bytes m (segments_at m (records_in m bs) bs) ≡ bs)
records_redo m n [] l h f = let z = (records_none m [] refl).1 in rw z (tt, refl)
records_redo m zero (b ∷ bs) l h f = absurd (omega arith)
records_redo m (suc n) (b ∷ bs) l h f =
    let t = faultless_takes m (b ∷ bs) f (omega arith) in
    let e = records_more m (b ∷ bs) t in
    let rest = drop (record_size m) (b ∷ bs) in
    let w = read_writes m (b ∷ bs) h t in
    let r = records_redo m n rest (simp length-drop (omega arith)) (below_drop (record_size m) (b ∷ bs) 256 h) (sym e.0 ∙ f) in
    rw e.1 (
      (w.0, r.0),
      ap (λ x. x ++ records_bytes m (segments_at m (records_in m rest) rest)) w.1
          ∙ ap (λ x. take (record_size m) (b ∷ bs) ++ x) r.1
          ∙ take-append-drop (record_size m) (b ∷ bs),
    )

pub read_file_writes : ReadFileWrites
read_file_writes file h f =
    let p = both_none (open_fault file) (records_fault (file_processors file) (drop header_size file)) f in
    let r = records_redo (file_processors file) (length (drop header_size file)) (drop header_size file) (omega arith) (below_drop header_size file 256 h) p.1 in (
      r.0,
      ap (λ x. x ++ records_bytes (file_processors file) (file_segments file)) (header_redo file h p.0)
          ∙ ap (λ x. take 10 file ++ x) r.1
          ∙ take-append-drop 10 file,
    )
