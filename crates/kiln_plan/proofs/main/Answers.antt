-- The bytes that are written lie in the buffer.
use Rattle.std.proofs.Common.{◌≡◌, ℕ, ◌≤◌, arith}
use Rattle.kiln_plan.proofs.main.Goals as goal

inside : (n m k l : ℕ) → n ≤ m → m ≡ k → l ≡ k → n ≤ l
inside n m k l short lent long = omega arith

pub slice_bounds-write_all-end : goal.slice_bounds-write_all-end
slice_bounds-write_all-end c = inside c.answer_bytes-n.result _ _ _ c.answer_bytes-n.ensures.short c.deref_mut.ensures.len c.deref-2.ensures.len
