-- Calls as a list, the first one first, to compute with: each list of them comes with its run.
use Rattle.std.proofs.Common.{ℕ, ◌^◌, ◌<◌, List, [], ◌∷◌}
use Rattle.rules.specs.Keys.{Key, Lawful}
use Rattle.model.specs.Runs
use Rattle.model.specs.Runs.{World, resting, running, Run, none, then}

-- a call, with what it brings
pub data Ask : Type 0 where
  admit : (tag execution period : ℕ) → tag < 2 ^ 16 → Ask
  withdraw : (tag : ℕ) → Ask
  start : Ask
  step : (key : Key) → Lawful key → Ask
  finish : (key : Key) → Lawful key → (buffer : List ℕ) → Ask
  end : Ask

abbrev pub Reached : World → Type 0
Reached first = (w : World) × Run first w

-- one call more; a call out of order makes none
abbrev asked : {first : World} (w : World) → Run first w → Ask → Reached first
asked (resting b m h) run (admit tag c p fits) = (_, then run (Runs.admit b m h tag c p fits))
asked (resting b m h) run (withdraw tag) = (_, then run (Runs.withdraw b m h tag))
asked (resting b m h) run start = (_, then run (Runs.start b m h))
asked (resting b m h) run (step key law) = (resting b m h, run)
asked (resting b m h) run (finish key law buffer) = (resting b m h, run)
asked (resting b m h) run end = (resting b m h, run)
asked (running p m h) run (admit tag c d fits) = (running p m h, run)
asked (running p m h) run (withdraw tag) = (running p m h, run)
asked (running p m h) run start = (running p m h, run)
asked (running p m h) run (step key law) = (_, then run (Runs.step p m h key law))
asked (running p m h) run (finish key law buffer) = (_, then run (Runs.finish p m h key law buffer))
asked (running p m h) run end = (_, then run (Runs.end p m h))

abbrev more : {first : World} → Reached first → List Ask → Reached first
more r [] = r
more r (a ∷ rest) = more (asked r.0 r.1 a) rest

abbrev pub reached : (first : World) → List Ask → Reached first
reached first asks = more (first, none) asks
