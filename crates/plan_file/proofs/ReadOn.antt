-- Reading records one after the other to the end.
use Rattle.std.proofs.Common.{◌≡◌, ℕ, suc, ◌+◌, ◌-◌, ◌/◌, ◌<◌, ◌≤◌, true, cond, eqb, List, length, drop, Some, None, Ok, Err, sym, refl, ap, ◌∙◌, add-one, arith}
use native.Mathlib.Nat.{div-eq-sub-div, zero-div}
use Rattle.std.proofs.lemmas.List.{length-drop, drop-drop}
use Rattle.std.proofs.lemmas.Bool.Decides.{nat_tests}
use Rattle.rows.specs.declared.refusal.Refusal.{Refusal}
use Rattle.plan_file.specs.declared.record.RecordHead.{RecordHead}
use Rattle.plan_file.specs.Records.{record_size}
use Rattle.plan_file.specs.Faults.{or_else}
use Rattle.plan_file.specs.Heads.{head_at}
use Rattle.plan_file.specs.Reading.{read_fault, next_answer, takes}
use Rattle.plan_file.specs.Files.{records_in, reads_fault, records_fault}
use Rattle.plan_file.proofs.Fault.{both_none}
use Rattle.plan_file.proofs.NextRecord.{took_faultless, some_took, none_ended, err_fault}

-- what reads has its whole size
pub read_size : (m : ℕ) (bs : List ℕ) → read_fault m bs ≡ None → record_size m ≤ length bs
read_size m bs h = grind (arith, nat_tests)

-- one whole record fewer behind the first
pub records_less : (m : ℕ) (bs : List ℕ) → record_size m ≤ length bs → records_in m bs ≡ suc (records_in m (drop (record_size m) bs))
records_less m bs h =
    let z : 0 < record_size m = omega arith in
    div-eq-sub-div z h ∙ add-one ((length bs - record_size m) / record_size m) ∙ ap (λ n. suc (n / record_size m)) (sym (length-drop (record_size m) bs))

pub records_none : (m : ℕ) (bs : List ℕ) → length bs ≡ 0 → (records_fault m bs ≡ None) × (records_in m bs ≡ 0)
records_none m bs h = (rw h refl, ap (λ n. n / record_size m) h ∙ zero-div (record_size m))

some_bytes : {X : Type 0} (n : ℕ) (x y : X) → 0 < n → cond (eqb n 0) x y ≡ y
some_bytes n x y h = grind (arith, nat_tests)

-- the first fault is that of the record here
pub records_bad : (m : ℕ) (bs : List ℕ) (f : Refusal) → 0 < length bs → read_fault m bs ≡ Some f → records_fault m bs ≡ Some f
records_bad m bs f h e =
    some_bytes (length bs) None (or_else (read_fault m bs) (reads_fault m (records_in m bs) (drop (record_size m) bs))) h
    ∙ ap (λ g. or_else g (reads_fault m (records_in m bs) (drop (record_size m) bs))) e

-- or that of the records behind it
pub records_more : (m : ℕ) (bs : List ℕ) → takes m bs ≡ true →
    (records_fault m bs ≡ records_fault m (drop (record_size m) bs)) × (records_in m bs ≡ suc (records_in m (drop (record_size m) bs)))
records_more m bs t =
    let k = took_faultless m bs t in
    let l = records_less m bs (read_size m bs k.0) in (
      some_bytes (length bs) None (or_else (read_fault m bs) (reads_fault m (records_in m bs) (drop (record_size m) bs))) k.1
          ∙ ap (λ g. or_else g (reads_fault m (records_in m bs) (drop (record_size m) bs))) k.0
          ∙ ap (λ n. reads_fault m n (drop (record_size m) bs)) l,
      l,
    )

-- where nothing is wrong up to the end, either the end is here or a record is taken
pub faultless_takes : (m : ℕ) (bs : List ℕ) → records_fault m bs ≡ None → 0 < length bs → takes m bs ≡ true
faultless_takes m bs f h =
    let o : or_else (read_fault m bs) (reads_fault m (records_in m bs) (drop (record_size m) bs)) ≡ None = sym (some_bytes (length bs) None _ h) ∙ f in
    let r : read_fault m bs ≡ None = (both_none (read_fault m bs) _ o).0 in
    rw r (grind (arith, nat_tests))

-- a call of the reader that took the record at `place` and stands at `after`
pub record Took (m : ℕ) (file : List ℕ) (place after : ℕ) (v : RecordHead) : Type 0 where
  pub taken : takes m (drop place file) ≡ true
  pub head : v ≡ head_at (drop place file)
  pub at : after ≡ place + record_size m
  pub inside : after ≤ length file
  pub faults : records_fault m (drop place file) ≡ records_fault m (drop after file)
  pub counts : records_in m (drop place file) ≡ suc (records_in m (drop after file))

-- what the reader's own bytes and processors answer, where they are the file's
pub of_file : {X : Type 0} (F : ℕ → List ℕ → X) {m n : ℕ} {file bytes : List ℕ} → bytes ≡ file → n ≡ m → F n bytes ≡ F m file
of_file F {m} {n} {file} b e = ap (λ x. F n x) b ∙ ap (λ k. F k file) e

-- What a call of a reader at `place` tells, whose bytes and processors are the file's: that it took a record,
module _ {m n : ℕ} {file bytes : List ℕ} (place : ℕ) (b : bytes ≡ file) (e : n ≡ m) where
  pub took_on : (after : ℕ) (v : RecordHead) → Ok (Some v) ≡ next_answer n (drop place bytes) →
      after ≡ place + cond (takes n (drop place bytes)) (record_size n) 0 → Took m file place after v
  took_on after v a p =
      let k = some_took m (drop place file) v (a ∙ of_file (λ k x. next_answer k (drop place x)) b e) in
      let t = k.0 in
      let q : after ≡ place + record_size m =
      p ∙ of_file (λ k x. place + cond (takes k (drop place x)) (record_size k) 0) b e ∙ ap (λ b. place + cond b (record_size m) 0) t in
      let r = records_more m (drop place file) t in
      let d : drop (record_size m) (drop place file) ≡ drop after file = drop-drop (record_size m) place file ∙ ap (λ n. drop n file) (sym q) in
      let s = read_size m (drop place file) (took_faultless m (drop place file) t).0 in
      let l = length-drop place file in
      let z = k.1 in
      record {
        taken = t;
        head = k.2;
        at = q;
        inside = omega arith;
        faults = r.0 ∙ ap (records_fault m) d;
        counts = r.1 ∙ ap (λ bs. suc (records_in m bs)) d;
      }

  -- that it met the end,
  pub ended_on : Ok None ≡ next_answer n (drop place bytes) → (length file ≤ place) × (records_fault m (drop place file) ≡ None) × (records_in m (drop place file) ≡ 0)
  ended_on a =
      let z = (none_ended m (drop place file) (a ∙ of_file (λ k x. next_answer k (drop place x)) b e)).0 in
      let l = length-drop place file in
      let r = records_none m (drop place file) z in
      (omega arith, r.0, r.1)

  -- or that it refused
  pub failed_on : (f : Refusal) → Err f ≡ next_answer n (drop place bytes) → records_fault m (drop place file) ≡ Some f
  failed_on f a =
      let k = err_fault m (drop place file) f (a ∙ of_file (λ k x. next_answer k (drop place x)) b e) in
      records_bad m (drop place file) f k.1 k.0
