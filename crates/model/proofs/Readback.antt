-- Records in a buffer read back as the segments that they were made from.
use Rattle.std.proofs.Common.{◌≡◌, ℕ, suc, ◌≤◌, List, [], ◌∷◌, ◌++◌, length, take, drop, sym, refl, ap, ◌∙◌, append_assoc, append-nil, arith, take_at, drop_at}
use Rattle.std.specs.List.{AllByRecursion}
use Rattle.std.proofs.lemmas.List.{length-take-le}
use Rattle.std.proofs.lemmas.Bool.Decides.{nat_tests}
use Rattle.plan_file.specs.Records.{Segment, record_size, record_bytes, records_bytes, segments_at}
use Rattle.plan_file.specs.RoundTrip.{Writable}
use Rattle.plan_file.proofs.Tags.{length_tag_bytes}
use Rattle.plan_file.proofs.Undo.{written_reads}

pub length_record : (m : ℕ) (s : Segment) → Writable m s → length (record_bytes m s) ≡ record_size m
length_record m s w =
    let f = w.faultless in
    let a : m ≤ 16 = grind (arith, nat_tests) in
    omega (arith, length-take-le m s.row (omega (arith, w.places)), length_tag_bytes (take m s.row))

segments_back : (m : ℕ) (ss : List Segment) (rest : List ℕ) → AllByRecursion (Writable m) ss → segments_at m (length ss) (records_bytes m ss ++ rest) ≡ ss
segments_back m [] rest h = refl
segments_back m (s ∷ ss) rest h =
    let more = records_bytes m ss ++ rest in
    let e : (record_bytes m s ++ records_bytes m ss) ++ rest ≡ record_bytes m s ++ more = append_assoc (record_bytes m s) (records_bytes m ss) rest in
    ap (λ l. segments_at m (suc (length ss)) l) e
    ∙ ap (λ r. r ∷ segments_at m (length ss) (drop (record_size m) (record_bytes m s ++ more))) (written_reads m s more h.0).1
    ∙ ap (λ l. s ∷ segments_at m (length ss) l) (drop_at (record_bytes m s) more (record_size m) (length_record m s h.0))
    ∙ ap (λ l. s ∷ l) (segments_back m ss rest h.1)

-- from the front of a buffer that they were written into
pub read_back : (m : ℕ) (ss : List Segment) (buffer : List ℕ) → AllByRecursion (Writable m) ss
    → segments_at m (length ss) (take (length (records_bytes m ss)) (records_bytes m ss ++ buffer)) ≡ ss
read_back m ss buffer h =
    ap (segments_at m (length ss)) (take_at (records_bytes m ss) buffer (length (records_bytes m ss)) refl ∙ sym (append-nil (records_bytes m ss)))
    ∙ segments_back m ss [] h
