-- One step of a plane. First choosing: who runs, on which processor, and how far; then running.
use Rattle.std.specs.Prelude.{ℕ, ◌+◌, ◌-◌, min, Bool, cond, not, ◌&&◌, ◌||◌, List, [], ◌∷◌, map, count_by, filter, ◌==◌, nat_lt, slice_index}
use Rattle.std.specs.List.{range_with_len}
use Rattle.rows.specs.declared.memory.Token.{Token}
use Rattle.rows.specs.Limits.{most_processors}
use Rattle.rows.specs.Tests.{has, any}
use Rattle.rules.specs.Keys.{Key}
use Rattle.plan_file.specs.Records.{Segment}

-- the key of a token in a plane with that span
abbrev pub key_of : Key → ℕ → Token → ℕ
key_of key span x = key x.left span x.processor x.tag

-- the order of tokens: x stands before y by key, and then by tag
abbrev pub before : Key → ℕ → Token → Token → Bool
before key span x y =
    nat_lt (key_of key span x) (key_of key span y)
    || (key_of key span x == key_of key span y && nat_lt x.tag y.tag)

abbrev pub active : Token → Bool
active x = nat_lt 0 x.left

-- active, with fewer than m active tokens before it
abbrev pub chosen : ℕ → Key → ℕ → List Token → Token → Bool
chosen m key span ts x = active x && nat_lt (count_by (λ y. active y && before key span y x) ts) m

-- Below, `picks` says of each of the tokens `ts` whether it is chosen.

-- the processors that no chosen token keeps, in order
abbrev pub free : ℕ → (Token → Bool) → List Token → List ℕ
free m picks ts = filter (λ p. not (has p (map (λ x. x.processor) (filter picks ts)))) (range_with_len 1 m)

-- how many chosen tokens without a processor have a lower tag
abbrev pub turn : (Token → Bool) → List Token → Token → ℕ
turn picks ts x = count_by (λ y. picks y && y.processor == 0 && nat_lt y.tag x.tag) ts

-- the processor of a token in the step: a chosen one keeps its own, or takes the free one of its turn
abbrev pub assigned : ℕ → (Token → Bool) → List Token → Token → ℕ
assigned m picks ts x =
    cond (picks x) (cond (x.processor == 0) (slice_index (free m picks ts) (turn picks ts x)) x.processor) 0

-- how far a token is from its event: a chosen one from 0, another from the ceiling
abbrev pub gap : (Token → Bool) → ℕ → Token → ℕ
gap picks span x = cond (picks x) x.left (span - x.left)

-- the least gap, and at most the span
abbrev pub distance : (Token → Bool) → ℕ → List Token → ℕ
distance picks span [] = span
distance picks span (x ∷ xs) = min (gap picks span x) (distance picks span xs)

-- Running, for `d` units.

-- a token after them
abbrev pub moved : ℕ → (Token → Bool) → List Token → ℕ → Token → Token
moved m picks ts d x =
    record { tag = x.tag; left = cond (picks x) (x.left - d) x.left; processor = assigned m picks ts x }

-- the event after which `rest` of the span remains: 4 at the end, else 1 for a token used up, and 2 for one on the ceiling
abbrev pub event : (Token → Bool) → ℕ → ℕ → List Token → ℕ
event picks d rest ts =
    cond (rest == 0) 4
    (cond (any (λ x. picks x && x.left == d) ts) 1 0 + cond (any (λ x. not (picks x) && x.left == rest) ts) 2 0)

-- the tag of the token on a processor
abbrev pub runner : List Token → ℕ → ℕ
runner [] p = 0
runner (x ∷ xs) p = cond (x.processor == p) x.tag (runner xs p)

-- the tags by processor
abbrev pub row_of : List Token → List ℕ
row_of ts = map (runner ts) (range_with_len 1 most_processors)

pub record Step : Type 0 where
  pub span : ℕ
  pub tokens : List Token
  pub segment : Segment

-- running those that `picks` has chosen for `d` units
abbrev pub run : ℕ → (Token → Bool) → ℕ → List Token → ℕ → Step
run m picks span ts d =
    let after = map (moved m picks ts d) ts in
    record { span = span - d; tokens = after; segment = record { units = d; kind = event picks d (span - d) ts; row = row_of after } }

-- choosing by a key, and running to the next event
abbrev pub step : ℕ → Key → ℕ → List Token → Step
step m key span ts =
    let picks = chosen m key span ts in
    run m picks span ts (distance picks span ts)
