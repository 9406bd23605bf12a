-- Calls on a board, one after the other: each leads from a world to the next.
use Rattle.std.specs.Prelude.{ℕ, ◌^◌, ◌<◌, List, ◌∷◌, ◌++◌, map, reverse, Ok, Err, Result}
use Rattle.rows.specs.declared.refusal.Refusal.{Refusal}
use Rattle.rows.specs.declared.memory.Task.{Task}
use Rattle.rows.specs.declared.memory.Token.{Token}
use Rattle.rules.specs.Keys.{Key, Lawful}
use Rattle.model.specs.State.{Rest, Open, ended}
use Rattle.model.specs.Tables.{admitted, withdrawn, started}
use Rattle.model.specs.Planes.{stepped, segment_of, finished, segments_of}
use Rattle.model.specs.Histories.{Event, admission, beginning, ran}

-- the memory that all calls bring
pub record Memory : Type 0 where
  pub tasks : List Task
  pub tokens : List Token

abbrev pub with_tasks : Memory → List Task → Memory
with_tasks m tasks = record { tasks = tasks; tokens = m.tokens }

abbrev pub with_tokens : Memory → List Token → Memory
with_tokens m tokens = record { tasks = m.tasks; tokens = tokens }

-- a board at rest or with its plane open, the memory, and the history
pub data World : Type 0 where
  resting : Rest → Memory → List Event → World
  running : Open → Memory → List Event → World

-- the world after a call that was answered: a refusal leaves it as it was
abbrev pub answered : {A : Type 0} → World → (A → World) → Result A Refusal → World
answered w next (Ok a) = next a
answered w next (Err e) = w

-- A call, from a world to the next. Admission, withdrawal and start come at rest; step, finish and end in an open plane.
-- Their numbers may be any, a tag of 16 bits; a step and a finish come under any lawful key, a finish with any buffer.
pub data Call : World → World → Type 0 where
  admit : (b : Rest) (m : Memory) (h : List Event) (tag execution period : ℕ) → tag < 2 ^ 16
      → Call (resting b m h)
      (answered (resting b m h) (λ r. resting r.0 (with_tasks m r.1) (admission tag ∷ h))
      (admitted b m.tasks tag execution period))
  withdraw : (b : Rest) (m : Memory) (h : List Event) (tag : ℕ)
      → Call (resting b m h)
      (answered (resting b m h) (λ r. resting r.0 (with_tasks m r.1) h)
      (withdrawn b m.tasks tag))
  start : (b : Rest) (m : Memory) (h : List Event)
      → Call (resting b m h)
      (answered (resting b m h) (λ r. running r.0 (with_tokens m r.1) (beginning ∷ h))
      (started b m.tasks m.tokens))
  step : (p : Open) (m : Memory) (h : List Event) (key : Key) → Lawful key
      → Call (running p m h)
      (answered (running p m h) (λ r. running r.0.0 (with_tokens m r.0.1) (ran (segment_of r) ∷ h))
      (stepped p m.tokens key))
  finish : (p : Open) (m : Memory) (h : List Event) (key : Key) → Lawful key → (buffer : List ℕ)
      → Call (running p m h)
      (answered (running p m h) (λ r. running r.0.0 (with_tokens m r.0.1) (map ran (reverse (segments_of r)) ++ h))
      (finished p m.tokens key buffer))
  end : (p : Open) (m : Memory) (h : List Event)
      → Call (running p m h)
      (answered (running p m h) (λ b. resting b m h) (ended p))

-- calls one after the other
pub data Run (first : World) : World → Type 0 where
  none : Run first first
  then : {v w : World} → Run first v → Call v w → Run first w
