-- What is known of a task: one that no reason is left to refuse, and one that stands on the board.
use Rattle.std.specs.Prelude.{◌≡◌, ℕ, ◌+◌, ◌*◌, ◌%◌, ◌<◌, ◌≤◌, true, false, List, ◌++◌, length, get_or, take, drop, Some, Ok, slice_index_or}
use Rattle.rows.specs.declared.memory.Task.{Task}
use Rattle.rows.specs.Tests.{has, rising}
use Rattle.model.specs.State.{Rest}
use Rattle.model.specs.Tables.{tags, placed, found, fresh, weight, with_load, zeros, admitted}

-- a task that is admitted, with the load that the board then has
pub record Admissible (b : Rest) (memory : List Task) (tag execution period load : ℕ) : Type 0 where
  pub accepted : admitted b memory tag execution period
      ≡ Ok (with_load b (b.count + 1) load, placed (fresh b tag execution period) (take b.count memory) ++ drop (b.count + 1) memory)
  pub few : b.count < 256
  pub room : b.count < length memory
  pub bound : load ≤ b.processors * b.scale
  pub sorted : rising (tags (take b.count memory)) ≡ true
  pub absent : has tag (tags (take b.count memory)) ≡ false

-- row i of memory that fits has the tag: it is the first, and sound
pub record Stands (b : Rest) (memory : List Task) (tag i : ℕ) : Type 0 where
  pub inside : i < b.count
  pub there : b.count ≤ length memory
  pub first : found tag (take b.count memory) ≡ Some (slice_index_or memory i zeros)
  pub tagged : (get_or memory i zeros).tag ≡ tag
  pub gone : (get_or memory i zeros).release ≤ b.tick
  pub some : 1 ≤ (get_or memory i zeros).period
  pub divides : b.scale % (get_or memory i zeros).period ≡ 0
  pub weighs : weight b.scale (slice_index_or memory i zeros) ≤ b.load
