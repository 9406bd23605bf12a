-- The order of releases.
use Rattle.std.proofs.Common.{◌≡◌, ℕ, ◌<◌, ◌≤◌, Bool, true, false, ◌&&◌, ◌||◌, eqb, ltb, Some, None, Option, sym, refl, ap, ◌∙◌, arith}
use Rattle.std.proofs.lemmas.Bool.Decides.{nat_tests}
use Rattle.queue.specs.Order.{before}
use Rattle.queue.proofs.Heap.{before_then}
use Rattle.ahead.specs.declared.release.Release.{Release}
use Rattle.ahead.specs.declared.release.Due.{Due}
use Rattle.ahead.specs.Ahead.{sooner, past}
use Rattle.ahead.specs.Waiting.{by_tick, release}

-- over plain numbers: ticks a, b, c and tags s, t, u
abbrev less : ℕ → ℕ → ℕ → ℕ → Bool
less a s b t = ltb a b || (eqb a b && ltb s t)

chain : (a s b t c u : ℕ) → less a s b t ≡ true → less b t c u ≡ true → less a s c u ≡ true
chain a s b t c u p q = grind (arith, nat_tests)

turn : (a s b t : ℕ) → less a s b t ≡ false → (s ≡ t → ⊥) → less b t a s ≡ true
turn a s b t p n = grind (arith, nat_tests)

higher : (a s b t : ℕ) → less a s b t ≡ true → s ≡ t → a < b
higher a s b t p e = grind (arith, nat_tests)

lower : (a s b t c u : ℕ) → less a s b t ≡ false → a ≤ c → s ≡ u → less c u b t ≡ false
lower a s b t c u p l e = grind (arith, nat_tests)

pub past_sooner : (tick : ℕ) (p : Option Release) (x y : Release) → past tick p x ≡ true → sooner x y ≡ true → past tick p y ≡ true
past_sooner tick None x y h k = grind (arith, nat_tests)
past_sooner tick (Some p) x y h k = chain p.tick p.tag x.tick x.tag y.tick y.tag h k

pub sooner_other : (x y : Release) → sooner y x ≡ false → (y.tag ≡ x.tag → ⊥) → sooner x y ≡ true
sooner_other x y h n = turn y.tick y.tag x.tick x.tag h n

pub sooner_same : (x y : Release) → sooner x y ≡ true → x.tag ≡ y.tag → x.tick < y.tick
sooner_same x y h e = higher x.tick x.tag y.tick y.tag h e

pub not_sooner_later : (d x y : Release) → sooner d x ≡ false → d.tick ≤ y.tick → d.tag ≡ y.tag → sooner y x ≡ false
not_sooner_later d x y h l e = lower d.tick d.tag x.tick x.tag y.tick y.tag h l e

weaker : (a b c d : Bool) → (a || (b && (c || d))) ≡ false → (a || (b && c)) ≡ false
weaker true b c d h = h
weaker false true true d h = h
weaker false true false d h = refl
weaker false false c d h = refl

pub not_sooner : (x y : Due) → before by_tick x y ≡ false → sooner (release x) (release y) ≡ false
not_sooner x y h = weaker (ltb x.tick y.tick) (eqb x.tick y.tick) (ltb x.tag y.tag) _
    (sym (before_then (ltb x.tick y.tick) (eqb x.tick y.tick) _ ∙ ap (λ b. ltb x.tick y.tick || (eqb x.tick y.tick && b)) (before_then (ltb x.tag y.tag) (eqb x.tag y.tag) _)) ∙ h)
