-- The number of each kind of event.
use Rattle.std.specs.Prelude.{ℕ, cond, Some, None, Option, Ok, Err, Result, ◌==◌}
use Rattle.rows.specs.declared.refusal.Refusal.{Refusal}
use Rattle.rows.specs.declared.refusal.Refusal.TheVariants.{Kind as KindRefused}
use Rattle.rows.specs.declared.kind.Kind.{Kind}
use Rattle.rows.specs.declared.kind.Kind.TheVariants.{Bottom, Ceiling, Both, PlaneEnd}

abbrev pub kind_number : Kind → ℕ
kind_number Bottom = 1
kind_number Ceiling = 2
kind_number Both = 3
kind_number PlaneEnd = 4

abbrev pub kind_of : ℕ → Option Kind
kind_of n =
    cond (n == 1) (Some Bottom) (cond (n == 2) (Some Ceiling) (cond (n == 3) (Some Both) (cond (n == 4) (Some PlaneEnd) None)))

-- the kind of a number, or why there is none
abbrev pub kind_or_refusal : ℕ → Result Kind Refusal
kind_or_refusal n = elim (kind_of n) [ Some kind ↦ Ok kind | None ↦ Err KindRefused ]
