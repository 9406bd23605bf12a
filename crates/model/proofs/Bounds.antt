-- Running chosen tokens keeps the bounds of their plane. Nothing here knows in which order they were chosen.
use Rattle.std.proofs.Common.{◌≡◌, ℕ, ◌+◌, ◌-◌, ◌*◌, ◌^◌, ◌<◌, ◌≤◌, Bool, true, false, cond, ◌&&◌, ltb, ◌⊎◌, List, map, sum_by, count_by, inl, inr, arith}
use Rattle.std.specs.List.{AllByRecursion}
use Rattle.std.proofs.lemmas.Bool.Decides.{nat_tests}
use Rattle.rows.specs.declared.memory.Token.{Token}
use Rattle.rows.specs.Tests.{distinct}
use Rattle.model.proofs.Tags.{increasing}
use Rattle.model.specs.Steps.{gap, distance, moved, run}
use Rattle.model.specs.Members.{In}
use Rattle.model.proofs.Counts.{count_lt}
use Rattle.model.proofs.Shares.{after, each, together}
use Rattle.model.proofs.Distances.{sumBy_map, all_map, at_most, least, positive, attained, gap_picked, gap_other}

-- what is true of a plane's tokens
pub record Sound (m span : ℕ) (ts : List Token) : Type 0 where
  pub some : 1 ≤ m
  pub few : m ≤ 16
  pub tagged : increasing 0 (map (λ t. t.tag) ts) ≡ true
  pub short_tags : (x : Token) → In x ts → x.tag < 2 ^ 16
  pub low : (x : Token) → In x ts → x.left ≤ span
  pub sum : sum_by (λ x. x.left) ts ≤ m * span
  pub on : (x : Token) → In x ts → x.processor ≤ m
  pub own : distinct (map (λ t. t.processor) ts) ≡ true

-- what a choice has to do
pub record Choice (m span : ℕ) (ts : List Token) (picks : Token → Bool) : Type 0 where
  pub most : count_by picks ts ≤ m
  pub full : (m ≤ count_by picks ts) ⊎ ((x : Token) → In x ts → picks x ≡ false → x.left ≡ 0)
  pub only_active : (x : Token) → In x ts → picks x ≡ true → 0 < x.left
  pub ceiling : (x : Token) → In x ts → x.left ≡ span → picks x ≡ true

-- a length before which no token comes to its event
pub record Reach (span : ℕ) (ts : List Token) (picks : Token → Bool) (d : ℕ) : Type 0 where
  pub within : d ≤ span
  pub picked : (x : Token) → In x ts → picks x ≡ true → d ≤ x.left
  pub others : (x : Token) → In x ts → picks x ≡ false → d ≤ span - x.left

pub reach : (picks : Token → Bool) (span : ℕ) (ts : List Token) → Reach span ts picks (distance picks span ts)
reach picks span ts = record {
  within = at_most picks span ts;
  picked = λ x i p. omega (arith, least picks span ts i, gap_picked picks span x p);
  others = λ x i p. omega (arith, least picks span ts i, gap_other picks span x p);
}

module _ (m span : ℕ) (ts : List Token) (ok : Sound m span ts) (picks : Token → Bool) (choice : Choice m span ts picks) (d : ℕ) (to : Reach span ts picks d) where
  keeps_each : (x : Token) → In x ts → after (λ x. x.left) picks d x ≤ span - d
  keeps_each x i =
      let e : span - d + d ≡ span = omega (arith, to.within) in
      each (λ x. x.left) picks d (span - d) x (omega (arith, ok.low x i)) (to.picked x i) (λ p. omega (arith, to.others x i p))

  keeps_sum : sum_by (after (λ x. x.left) picks d) ts ≤ m * (span - d)
  keeps_sum =
      let e : span - d + d ≡ span = omega (arith, to.within) in
      together (λ x. x.left) picks d m (span - d) ts (λ x i. omega (arith, ok.low x i)) (rw e ok.sum) to.picked choice.most choice.full

  -- the bounds after the run
  pub keeps : AllByRecursion (λ x. x.left ≤ span - d) (run m picks span ts d).tokens × (sum_by (λ x. x.left) (run m picks span ts d).tokens ≤ m * (span - d))
  keeps = (
    all_map (λ x. x.left ≤ span - d) (moved m picks ts d) ts keeps_each,
    omega (arith, sumBy_map (λ x. x.left) (moved m picks ts d) ts, keeps_sum),
  )

-- strictly between 0 and the span
abbrev pub inner : ℕ → Token → Bool
inner r x = ltb 0 x.left && ltb x.left r

-- A run to the next event has a length, and comes to one.
module _ (m span : ℕ) (ts : List Token) (ok : Sound m span ts) (choice : Token → Bool) (fair : Choice m span ts choice) (some : 0 < span) where
  abbrev len : ℕ
  len = distance choice span ts

  pub has_length : 0 < len
  has_length = positive choice span ts some open_gap
    where
      open_gap : (x : Token) → In x ts → 0 < gap choice span x
      open_gap x i = grind (arith, fair.only_active x i, fair.ceiling x i, ok.low x i)

  abbrev go_on : Token → Token
  go_on = moved m choice ts len

  -- the tokens strictly between 0 and the span grow fewer with each step that does not end the plane
  pub falls : 0 < span - len → count_by (inner (span - len)) (run m choice span ts len).tokens < count_by (inner span) ts
  falls more =
      omega (arith, sumBy_map (λ x. cond (inner (span - len) x) 1 0) go_on ts, fewer (attained choice span ts))
    where
      stays : (x : Token) → In x ts → inner (span - len) (go_on x) ≡ true → inner span x ≡ true
      stays x i h = grind (arith, nat_tests)

      fewer : (len ≡ span) ⊎ ((x : Token) × In x ts × (len ≡ gap choice span x)) → count_by (λ x. inner (span - len) (go_on x)) ts < count_by (inner span) ts
      fewer (inl e) = absurd (omega arith)
      fewer (inr s) =
          count_lt (λ x. inner (span - len) (go_on x)) (inner span) ts stays s.1
          (grind (arith, nat_tests, s.2, fair.only_active s.0 s.1, ok.low s.0 s.1, has_length))
          (grind (arith, nat_tests, s.2, fair.only_active s.0 s.1, ok.low s.0 s.1, has_length))
