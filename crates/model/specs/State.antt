-- What a board and a plane say, as numbers; opening a board and ending a plane.
use Rattle.std.specs.Prelude.{ℕ, Bool, true, false, Ok, Err, Result, ◌==◌}
use Rattle.rows.specs.declared.refusal.Refusal.{Refusal}
use Rattle.rows.specs.declared.refusal.Refusal.TheVariants.{Processors, Scale, PlaneOpen}
use Rattle.rows.specs.Limits.{most_processors, largest_scale}
use Rattle.rows.specs.Tests.{within}

-- a board at rest
pub record Rest : Type 0 where
  pub processors : ℕ
  pub scale : ℕ
  pub tick : ℕ
  pub count : ℕ
  pub load : ℕ

-- a board whose plane is open: the tick at which the plane ends, and the units that remain of it
pub record Open : Type 0 where
  pub board : Rest
  pub end : ℕ
  pub span : ℕ

-- goes on where the test holds, and refuses otherwise
abbrev pub unless : {A : Type 0} → Bool → Refusal → Result A Refusal → Result A Refusal
unless true e r = r
unless false e r = Err e

-- the board that opens
abbrev pub opened : ℕ → ℕ → Result Rest Refusal
opened m q =
    unless (within 1 most_processors m) Processors
    (unless (within 1 largest_scale q) Scale
    (Ok (record { processors = m; scale = q; tick = 0; count = 0; load = 0 })))

-- a board at another tick
abbrev pub at_tick : Rest → ℕ → Rest
at_tick b tick = record { processors = b.processors; scale = b.scale; tick = tick; count = b.count; load = b.load }

-- the board that a plane leaves once it is over
abbrev pub ended : Open → Result Rest Refusal
ended p = unless (p.span == 0) PlaneOpen (Ok (at_tick p.board p.end))
