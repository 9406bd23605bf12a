-- What a finish does over any memory that fits its plane, also where no run has left it so.
use Rattle.std.specs.Prelude.{◌≡◌, ℕ, ◌^◌, ◌<◌, ◌≤◌, List, take, drop, Ok}
use Rattle.std.specs.List.{AllByRecursion}
use Rattle.rows.specs.declared.memory.Token.{Token}
use Rattle.rows.specs.Limits.{most_processors, longest_span}
use Rattle.rules.specs.Keys.{Key, Lawful}
use Rattle.model.specs.State.{Open}
use Rattle.model.specs.Planes.{StepsOut, AfterFinish, finished, segments_of}

-- what the types of a plane and of token memory keep
pub record Widths (p : Open) (memory : List Token) : Type 0 where
  pub some : 1 ≤ p.board.processors
  pub few : p.board.processors ≤ most_processors
  pub short : p.span ≤ longest_span
  pub tags : AllByRecursion (λ x. x.tag < 2 ^ 16) (take p.board.count memory)

-- A finish that is accepted has made steps until the plane was over; then every token stands at 0, the records are the
-- segments of these steps, and the bytes behind them are as before.
abbrev pub FinishEnds : Open → List Token → Type 0
FinishEnds p memory =
    let n = p.board.count in
    (key : Key) → Lawful key → (buffer : List ℕ) (r : AfterFinish) → finished p memory key buffer ≡ Ok r
    → (r.0.0.span ≡ 0)
    × AllByRecursion (λ x. x.left ≡ 0) (take n r.0.1)
    × StepsOut p.board.processors key p.span (take n memory) (segments_of r) (take n r.0.1)
    × (drop r.1.1 r.0.2 ≡ drop r.1.1 buffer)

abbrev pub FinishOver : Type 0
FinishOver = (p : Open) (memory : List Token) → Widths p memory → FinishEnds p memory
