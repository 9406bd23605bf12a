-- A file that is written again record by record.
use Rattle.std.proofs.Common.{◌≡◌, ℕ, ◌+◌, ◌<◌, ◌≤◌, cond, List, ◌++◌, length, take, drop, None, Ok, Err, Option, sym, ap, ◌∙◌, arith, take-add}
use Rattle.std.proofs.lemmas.List.{take_at, take_all, drop_at, length-take-le}
use Rattle.std.proofs.lemmas.Slice.{drop-append-drop}
use Rattle.std.proofs.lemmas.Bool.Decides.{nat_tests}
use Rattle.rows.specs.declared.refusal.Refusal.{Refusal}
use Rattle.rows.specs.declared.refusal.Refusal.TheVariants.{BufferShort}
use Rattle.plan_file.specs.declared.record.RecordHead.{RecordHead}
use Rattle.plan_file.specs.Records.{Segment, record_size, record_bytes, segment_at}
use Rattle.plan_file.specs.Faults.{answered}
use Rattle.plan_file.specs.Heads.{segment, head_at}
use Rattle.plan_file.specs.Writing.{header_fault, header_bytes, write_fault}
use Rattle.plan_file.specs.Reading.{takes}
use Rattle.plan_file.specs.Opening.{open_fault, file_processors, file_scale}
use Rattle.plan_file.specs.Files.{file_fault, rewrite_fault}
use Rattle.plan_file.specs.RoundTrip.{Below}
use Rattle.plan_file.proofs.Fault.{fault_is}
use Rattle.plan_file.proofs.Undo.{read_writes, below_drop}
use Rattle.plan_file.proofs.ReadOn.{Took, of_file}
use Rattle.plan_file.proofs.WholeFile.{header_redo}

-- where there is no fault, none is answered
pub no_fault : {X : Type 0} (f : Option Refusal) (x : X) (e : Refusal) → f ≡ None → Err e ≡ answered f x → ⊥
no_fault f x e n h = let s = fault_is f x e h in cc

-- a header that opens may be written where the file has room, and is that of the file
pub header_fine : (file : List ℕ) (room p q : ℕ) → Below 256 file → open_fault file ≡ None → length file ≤ room → p ≡ file_processors file → q ≡ file_scale file →
    (header_fault p q room ≡ None) × (header_bytes p q ≡ take 10 file) × (10 ≤ length file)
header_fine file room p q h o l ep eq =
    let m = file_processors file in
    let f : header_fault m (file_scale file) room ≡ None = grind (arith, nat_tests) in (
      ap (λ n. header_fault n q room) ep ∙ ap (λ n. header_fault m n room) eq ∙ f,
      ap (λ n. header_bytes n q) ep ∙ ap (λ n. header_bytes m n) eq ∙ header_redo file h o,
      grind (arith, nat_tests),
    )

more_room : (m : ℕ) (s : Segment) (room : ℕ) → write_fault m s (record_size m) ≡ None → record_size m ≤ room → write_fault m s room ≡ None
more_room m s room f l = grind (arith, nat_tests)

-- a record that a reader took may be written where there is room for it, and gives its bytes again
pub taken_writes : (file bytes places old : List ℕ) (place after n p room : ℕ) (v : RecordHead) → Below 256 file → bytes ≡ file → n ≡ file_processors file → p ≡ file_processors file →
    Took (file_processors file) file place after v →
    places ≡ cond (takes n (drop place bytes)) (segment_at n (drop place bytes)).row old → record_size (file_processors file) ≤ room →
    (write_fault p (segment v places) room ≡ None) × (record_bytes p (segment v places) ≡ take (record_size p) (drop place file))
taken_writes file bytes places old place after n p room v h b e pe t f l =
    let m = file_processors file in
    let bs = drop place file in
    let g : places ≡ (segment_at m bs).row =
    f ∙ of_file (λ k x. cond (takes k (drop place x)) (segment_at k (drop place x)).row old) b e
    ∙ ap (λ d. cond d (segment_at m bs).row old) t.taken in
    let s : segment v places ≡ segment_at m bs = ap (λ y. segment y places) t.head ∙ ap (λ y. segment (head_at bs) y) g in
    let w = read_writes m bs (below_drop place file 256 h) t.taken in (
      ap (λ k. write_fault k (segment v places) room) pe
          ∙ more_room m (segment v places) room (ap (λ x. write_fault m x (record_size m)) s ∙ w.0.faultless) l,
      ap (λ k. record_bytes k (segment v places)) pe ∙ ap (record_bytes m) s ∙ w.1 ∙ ap (λ k. take (record_size k) bs) (sym pe),
    )

-- the header is copied
pub copied_header : (file before out h : List ℕ) → 10 ≤ length file → h ≡ take 10 file → out ≡ h ++ drop 10 before → out ≡ take 10 file ++ drop 10 out
copied_header file before out h l e o =
    let k : length h ≡ 10 = ap length e ∙ length-take-le 10 file l in
    let d : drop 10 out ≡ drop 10 before = ap (drop 10) o ∙ drop_at h (drop 10 before) 10 k in
    o ∙ ap (λ x. x ++ drop 10 before) e ∙ ap (λ x. take 10 file ++ x) (sym d)

-- one record more is copied
pub copied_more : (file start out after r : List ℕ) (at size : ℕ) → at + size ≤ length file → out ≡ take at file ++ drop at start →
    r ≡ take size (drop at file) → after ≡ (take at out ++ r) ++ drop (at + size) out → after ≡ take (at + size) file ++ drop (at + size) start
copied_more file start out after r at size l o e a =
    let g : at ≤ length file = omega arith in
    let k = length-take-le at file g in
    let t : take at out ≡ take at file = ap (take at) o ∙ take_at (take at file) (drop at start) at k in
    let d : drop (at + size) out ≡ drop (at + size) start = ap (drop (at + size)) o ∙ drop-append-drop at start (take at file) (at + size) (omega arith) k in
    a ∙ ap (λ x. (x ++ r) ++ drop (at + size) out) t ∙ ap (λ x. (take at file ++ x) ++ drop (at + size) out) e
    ∙ ap (λ x. x ++ drop (at + size) out) (sym (take-add at size file)) ∙ ap (λ x. take (at + size) file ++ x) d

-- all of it is copied
pub copied_all : (file before start out h : List ℕ) (at : ℕ) → at ≡ length file → 10 ≤ length file → length h ≡ 10 →
    start ≡ h ++ drop 10 before → out ≡ take at file ++ drop at start → out ≡ file ++ drop (length file) before
copied_all file before start out h at e l k s o =
    let t : take at file ≡ file = take_all at file (omega arith) in
    let d : drop at start ≡ drop (length file) before = ap (λ n. drop n start) e ∙ ap (drop (length file)) s ∙ drop-append-drop 10 before h (length file) l k in
    o ∙ ap (λ x. x ++ drop at start) t ∙ ap (λ x. file ++ x) d

-- a file without a fault is short of room, or there is room for it
pub rewrite_short : (file : List ℕ) (room : ℕ) → file_fault file ≡ None → room < length file → Err BufferShort ≡ answered (rewrite_fault file room) (length file)
rewrite_short file room f l = grind (arith, nat_tests)

pub rewrite_fine : (file : List ℕ) (room : ℕ) → file_fault file ≡ None → length file ≤ room → Ok (length file) ≡ answered (rewrite_fault file room) (length file)
rewrite_fine file room f l = grind (arith, nat_tests)
