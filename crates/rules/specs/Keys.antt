-- The keys by which the tokens of a plane are ranked: the lower key goes first.
use Rattle.std.specs.Prelude.{◌≡◌, cond, ℕ, ◌-◌, ◌≤◌, ◌<◌, ◌^◌, eqb}

-- a key, from a token's time left, the span, its processor and its tag
abbrev pub Key : Type 0
Key = ℕ → ℕ → ℕ → ℕ → ℕ

-- The law of a rule: a token on the ceiling has a smaller key than any active token below it. It is asked only of
-- what a plane can hold: a span of 1 to 2 ^ 54, one of 16 processors or none, tags of 16 bits.
abbrev pub Lawful : Key → Type 0
Lawful key =
    (span left p p' tag tag' : ℕ) → 0 < span → span ≤ 2 ^ 54 → 0 < left → left < span
    → p ≤ 16 → p' ≤ 16 → tag < 2 ^ 16 → tag' < 2 ^ 16
    → key span span p tag < key left span p' tag'

-- Nothing but the time left counts, and the most goes first. It is asked of the same as the law.
abbrev pub ByLeft : Key → Type 0
ByLeft key =
    (span left left' p p' tag tag' : ℕ) → span ≤ 2 ^ 54 → left ≤ span → left' ≤ span
    → p ≤ 16 → p' ≤ 16 → tag < 2 ^ 16 → tag' < 2 ^ 16
    → (left' < left → key left span p tag < key left' span p' tag') × (left ≡ left' → key left span p tag ≡ key left' span p' tag')

-- the most time left goes first: 2 ^ 54 less it, and 0 where it is more than that
abbrev pub largest_first : Key
largest_first left span p tag = 2 ^ 54 - left

-- tokens on the ceiling go first, and nothing else counts
abbrev pub ceiling_only : Key
ceiling_only left span p tag = cond (eqb left span) 0 1

-- tokens on the ceiling go first, and then those that have a processor
abbrev pub stayers : Key
stayers left span p tag = cond (eqb left span) 0 (cond (eqb p 0) 2 1)
