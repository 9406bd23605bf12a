-- What a look over the tokens of a plane finds, once it is known who is the last one chosen.
use Rattle.std.specs.Prelude.{◌≡◌, ℕ, ◌-◌, ◌≤◌, min, max, Bool, true, cond, ◌&&◌, List, [], ◌∷◌, map, Option, ◌==◌, nat_lt, slice_index}
use Rattle.std.specs.List.{AllByRecursion}
use Rattle.rows.specs.declared.memory.Token.{Token}
use Rattle.rules.specs.Keys.{Key}
use Rattle.rows.specs.Limits.{most_processors}
use Rattle.rows.specs.Tests.{rising, distinct}
use Rattle.model.specs.Steps.{active, free, assigned}
use Rattle.choosing.specs.declared.entry.Entry.{Entry}
use Rattle.choosing.specs.Entries.{entry_of, up_to}

-- active, and not after the last one chosen
abbrev pub picked : Key → ℕ → Option Entry → Token → Bool
picked key span last x = active x && up_to last (entry_of key span x)

-- the least time left of the chosen tokens, and at most the span
abbrev pub least_left : (Token → Bool) → ℕ → List Token → ℕ
least_left picks span [] = span
least_left picks span (x ∷ xs) = cond (picks x) (min x.left (least_left picks span xs)) (least_left picks span xs)

-- the most time left of the others
abbrev pub most_left : (Token → Bool) → List Token → ℕ
most_left picks [] = 0
most_left picks (x ∷ xs) = cond (picks x) (most_left picks xs) (max x.left (most_left picks xs))

-- the kind of the nearest event, from these two
abbrev pub nearest_kind : ℕ → ℕ → ℕ → ℕ
nearest_kind least most span =
    let d = min least (span - most) in
    cond (span - d == 0) 4 (cond (nat_lt most (span - d)) 1 (cond (nat_lt d least) 2 3))

-- all that running the chosen tokens for d units needs: each has so much left and a processor of its own among m
pub record Runnable (m : ℕ) (picks : Token → Bool) (d : ℕ) (spare : List ℕ) (ts : List Token) : Type 0 where
  pub few : m ≤ most_processors
  pub sorted : rising (map (λ x. x.tag) ts) ≡ true
  pub reach : AllByRecursion (λ x. picks x ≡ true → d ≤ x.left) ts
  pub numbered : AllByRecursion (λ x. picks x ≡ true → (1 ≤ assigned m picks ts x) × (assigned m picks ts x ≤ m)) ts
  pub apart : distinct (map (assigned m picks ts) ts) ≡ true
  pub spare_is : (k : ℕ) → slice_index spare k ≡ slice_index (free m picks ts) k
