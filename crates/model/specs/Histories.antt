-- What accepted calls leave behind: admissions, starts and segments, the newest first.
use Rattle.std.specs.Prelude.{ℕ, cond, List, [], ◌∷◌, sum_by, filter, ◌==◌}
use Rattle.rows.specs.Tests.{has}
use Rattle.plan_file.specs.Records.{Segment}

pub data Event : Type 0 where
  admission : (tag : ℕ) → Event
  beginning : Event
  ran : Segment → Event

-- the segments of a history
abbrev pub ran_in : List Event → List Segment
ran_in [] = []
ran_in (admission tag ∷ h) = ran_in h
ran_in (beginning ∷ h) = ran_in h
ran_in (ran s ∷ h) = s ∷ ran_in h

-- those since the plane's start
abbrev pub since_start : List Event → List Segment
since_start [] = []
since_start (admission tag ∷ h) = since_start h
since_start (beginning ∷ h) = []
since_start (ran s ∷ h) = s ∷ since_start h

-- those since the latest admission of a tag
abbrev pub since_admission : ℕ → List Event → List Segment
since_admission tag [] = []
since_admission tag (admission u ∷ h) = cond (u == tag) [] (since_admission tag h)
since_admission tag (beginning ∷ h) = since_admission tag h
since_admission tag (ran s ∷ h) = s ∷ since_admission tag h

-- the length of segments together
abbrev pub total : List Segment → ℕ
total ss = sum_by (λ s. s.units) ss

-- the length of those that have a tag
abbrev pub run_by : ℕ → List Segment → ℕ
run_by tag ss = total (filter (λ s. has tag s.row) ss)
