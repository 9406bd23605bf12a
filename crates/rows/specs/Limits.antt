-- The limits of a board.
use Rattle.std.specs.Prelude.{ℕ}

-- processors at the most, and places of a row
abbrev pub most_processors : ℕ
most_processors = 16

abbrev pub most_tasks : ℕ
most_tasks = 256

-- units in a tick at the most
abbrev pub largest_scale : ℕ
largest_scale = 134217728

-- no plane ends past this tick
abbrev pub last_tick : ℕ
last_tick = 2147483648

-- units of a plane or a segment at the most, 2 ^ 54
abbrev pub longest_span : ℕ
longest_span = 18014398509481984
