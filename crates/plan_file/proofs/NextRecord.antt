-- The ways through one call of a plan reader, where bs is left.
use Rattle.std.proofs.Common.{◌≡◌, ℕ, ◌<◌, ◌≤◌, Bool, true, false, cond, List, length, Some, None, Ok, Err, Result, arith}
use Rattle.std.proofs.lemmas.Bool.Decides.{nat_tests}
use Rattle.rows.specs.declared.refusal.Refusal.{Refusal}
use Rattle.rows.specs.declared.refusal.Refusal.TheVariants.{RecordShort, TagTwice}
use Rattle.rows.specs.Tests.{within, distinct}
use Rattle.plan_file.specs.declared.record.RecordHead.{RecordHead}
use Rattle.plan_file.specs.Records.{record_size, segment_at}
use Rattle.plan_file.specs.Faults.{answered}
use Rattle.plan_file.specs.Heads.{head_at, head_fault}
use Rattle.plan_file.specs.Reading.{read_fault, next_answer, takes}

pub none_left : (m : ℕ) (bs : List ℕ) → length bs ≡ 0 → (next_answer m bs ≡ Ok None) × (takes m bs ≡ false)
none_left m bs h = grind (arith, nat_tests)

-- a call that answered a record took it
pub some_took : (m : ℕ) (bs : List ℕ) (v : RecordHead) → Ok (Some v) ≡ next_answer m bs → (takes m bs ≡ true) × (0 < length bs) × (v ≡ head_at bs)
some_took m bs v h = grind (arith, nat_tests)

-- a call that answered none met no byte
pub none_ended : (m : ℕ) (bs : List ℕ) → Ok None ≡ next_answer m bs → (length bs ≡ 0) × (takes m bs ≡ false)
none_ended m bs h = grind (arith, nat_tests)

-- a call that refused met the fault
pub err_fault : (m : ℕ) (bs : List ℕ) (f : Refusal) → Err f ≡ next_answer m bs → (read_fault m bs ≡ Some f) × (0 < length bs)
err_fault m bs f h = grind (arith, nat_tests)

pub took_faultless : (m : ℕ) (bs : List ℕ) → takes m bs ≡ true → (read_fault m bs ≡ None) × (0 < length bs)
took_faultless m bs h = grind (arith, nat_tests)

-- what filling a row answers says whether its tags were distinct
pub fill_refused : (d : Bool) (f : Refusal) → ◌≡◌ {A = Result (Unit {0}) Refusal} (Err f) (cond d (Ok tt) (Err TagTwice)) → (d ≡ false) × (f ≡ TagTwice)
fill_refused d f h = grind (arith, nat_tests)

pub fill_done : (d : Bool) → ◌≡◌ {A = Result (Unit {0}) Refusal} (Ok tt) (cond d (Ok tt) (Err TagTwice)) → d ≡ true
fill_done d h = grind (arith, nat_tests)

module _ (m : ℕ) (bs : List ℕ) (few : within 1 16 m ≡ true) where
  pub fault_short : 0 < length bs → length bs < record_size m → (next_answer m bs ≡ Err RecordShort) × (takes m bs ≡ false)
  fault_short h g = grind (arith, nat_tests)

  pub fault_head : (f : Refusal) → record_size m ≤ length bs → Err f ≡ answered (head_fault (head_at bs)) (head_at bs) →
      (next_answer m bs ≡ Err f) × (takes m bs ≡ false)
  fault_head f h e = grind (arith, nat_tests)

  pub fault_tags : (v : RecordHead) → record_size m ≤ length bs → Ok v ≡ answered (head_fault (head_at bs)) (head_at bs) → distinct (segment_at m bs).row ≡ false →
      (next_answer m bs ≡ Err TagTwice) × (takes m bs ≡ false)
  fault_tags v h e d = grind (arith, nat_tests)

  pub one_read : (v : RecordHead) → record_size m ≤ length bs → Ok v ≡ answered (head_fault (head_at bs)) (head_at bs) → distinct (segment_at m bs).row ≡ true →
      (next_answer m bs ≡ Ok (Some v)) × (takes m bs ≡ true)
  one_read v h e d = grind (arith, nat_tests)
