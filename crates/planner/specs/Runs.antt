-- What steps over the rows of an open plane need, and what all of them together give.
use Rattle.std.specs.Prelude.{◌≡◌, ℕ, ◌+◌, ◌*◌, ◌^◌, ◌<◌, ◌≤◌, List, length}
use Rattle.std.specs.List.{AllByRecursion}
use Rattle.rows.specs.declared.memory.Token.{Token}
use Rattle.rules.specs.Keys.{Key}
use Rattle.plan_file.specs.Records.{record_size, records_bytes}
use Rattle.model.specs.Planes.{steps}
use Rattle.model.proofs.Bounds.{Sound}
use Rattle.planner.specs.declared.event.Finished.{Finished}
use Rattle.planner.specs.Segments.{written}

-- each has a processor that a board may have, or none
abbrev pub OnBoard : List Token → Type 0
OnBoard ts = AllByRecursion (λ x. x.processor ≤ 16) ts

-- the rows of a plane of which units remain
pub record Ready (m span : ℕ) (ts : List Token) : Type 0 where
  pub sound : Sound m span ts
  pub some : 0 < span
  pub short : span ≤ 2 ^ 54

-- the rows of a plane, over or not, and a plan buffer with room for the records of all steps that are left
pub record Finishes (m span : ℕ) (ts : List Token) (plan : List ℕ) : Type 0 where
  pub sound : Sound m span ts
  pub short : span ≤ 2 ^ 54
  pub room : (length ts + 1) * record_size m ≤ length plan

-- after all steps: the rows, the plan buffer, and how many steps and bytes there are
pub record RunsOut (m : ℕ) (key : Key) (span : ℕ) (ts : List Token) (plan : List ℕ) (after : List Token) (filled : List ℕ) (done : Finished) : Type 0 where
  pub rows : after ≡ (steps (length ts + 1) m key span ts).2
  pub plan_is : filled ≡ written m (steps (length ts + 1) m key span ts).0 plan
  pub steps_are : done.steps ≡ length (steps (length ts + 1) m key span ts).0
  pub bytes_are : done.bytes ≡ length (records_bytes m (steps (length ts + 1) m key span ts).0)
