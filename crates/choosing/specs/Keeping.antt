-- Keeping the first few of a list of tokens.
use Rattle.std.specs.Prelude.{◌≡◌, ℕ, min, cond, ◌&&◌, List, length, Some, None, count_by, Option, ◌==◌}
use Rattle.std.specs.declared.cmp.Ordering.{Ordering}
use Rattle.std.specs.declared.cmp.Reverse.{Reverse}
use Rattle.std.specs.Cmp.{IsTotalOrder, nat_cmp_total, on_total, back_total, then_total}
use Rattle.std.specs.Ordering.{nat_cmp, ordering_then}
use Rattle.rows.specs.declared.memory.Token.{Token}
use Rattle.queue.specs.Held.{first_of}
use Rattle.rules.specs.Keys.{Key}
use Rattle.model.specs.Steps.{active, chosen}
use Rattle.choosing.specs.declared.entry.Entry.{Entry}
use Rattle.choosing.specs.Entries.{entry_of, earlier, up_to}

-- what `cmp` answers for two entries: by key, and then by tag
abbrev pub compared : Entry → Entry → Ordering
compared x y = ordering_then (nat_cmp x.key y.key) (nat_cmp x.tag y.tag)

-- it is an order
abbrev pub first_first : IsTotalOrder compared
first_first = then_total (on_total (λ (e : Entry). e.key) nat_cmp_total) (on_total (λ (e : Entry). e.tag) nat_cmp_total)

-- both turned: the last of the kept entries is on top of the queue
abbrev pub turned : Reverse Entry → Reverse Entry → Ordering
turned x y = compared y.0 x.0

abbrev pub last_first : IsTotalOrder turned
last_first = on_total (λ (r : Reverse Entry). r.0) (back_total first_first)

-- the entry on top
abbrev pub top : Option (Reverse Entry) → Option Entry
top None = None
top (Some w) = Some w.0

-- the last of m kept entries, and none where fewer are kept
abbrev pub last_kept : ℕ → List (Reverse Entry) → Option Entry
last_kept m hs = cond (length hs == m) (top (first_of hs)) None

-- how many of the kept entries stand before x
abbrev pub kept_before : Entry → List (Reverse Entry) → ℕ
kept_before x hs = count_by (λ h. earlier h.0 x) hs

module _ (key : Key) (span : ℕ) where
  -- how many of the active tokens stand before x
  abbrev pub active_before : Entry → List Token → ℕ
  active_before x ts = count_by (λ y. active y && earlier (entry_of key span y) x) ts

-- hs keeps the first m of the active tokens of ts, or all where they are fewer
pub record KeepsFirst (m : ℕ) (key : Key) (span : ℕ) (ts : List Token) (hs : List (Reverse Entry)) : Type 0 where
  pub size : length hs ≡ min m (count_by active ts)
  pub before : (x : Entry) → kept_before x hs ≡ min m (active_before key span x ts)

-- the chosen ones of ts are the active ones up to `last`
abbrev pub Picks : ℕ → Key → ℕ → List Token → Option Entry → Type 0
Picks m key span ts last = (x : Token) → chosen m key span ts x ≡ (active x && up_to last (entry_of key span x))
