-- A task's first release past a point, and its next one.
use Rattle.std.proofs.Common.{◌≡◌, ℕ, ◌+◌, ◌-◌, ◌*◌, ◌/◌, ◌<◌, ◌≤◌, Bool, true, false, eqb, ltb, leb, List, [], ◌∷◌, Some, None, count_by, Option, sym, refl, ap, ◌∙◌, ⊎_elim, mul-le-mul_right, mod-lt, add-mul, one-mul, div-add-mod', arith, ltb-true, lt-ltb, eqb-true, leb-true}
use Rattle.std.proofs.lemmas.Bool.{cases_lt, and_parts, or_left, ne_eqb}
use Rattle.rows.specs.declared.memory.Task.{Task}
use Rattle.rows.specs.Tests.{rising}
use Rattle.model.specs.Members.{In, here, there}
use Rattle.model.specs.Tables.{tags, next_release}
use Rattle.model.proofs.Counts.{bit, count_cons, count_none}
use Rattle.model.proofs.Tags.{rises, above}
use Rattle.ahead.specs.declared.release.Release.{Release}
use Rattle.ahead.specs.declared.release.Due.{Due}
use Rattle.ahead.specs.Ahead.{timely, release_of, sooner, past}
use Rattle.ahead.specs.Waiting.{release, later, first_due, FirstDue}
use Rattle.ahead.proofs.Sooner.{past_sooner, sooner_other, sooner_same}

-- tasks of one tag are one
pub same_task : (ts : List Task) → rising (tags ts) ≡ true → (t u : Task) → In t ts → In u ts → t.tag ≡ u.tag → t ≡ u
same_task [] h t u i j e = elim i [ ]
same_task (s ∷ ts) h t u here here e = refl
same_task (s ∷ ts) h t u here (there j) e = absurd (omega (arith, above (λ x. x.tag) t.tag ts h u j))
same_task (s ∷ ts) h t u (there i) here e = absurd (omega (arith, above (λ x. x.tag) u.tag ts h t i))
same_task (s ∷ ts) h t u (there i) (there j) e = same_task ts (rises s.tag (tags ts) h) t u i j e

few : (b : Bool) → bit b ≤ 1
few true = omega arith
few false = omega arith

-- no tag stands twice
pub tag_once : (ts : List Task) → rising (tags ts) ≡ true → (g : ℕ) → count_by (λ (t : Task). eqb t.tag g) ts ≤ 1
tag_once [] h g = omega arith
tag_once (t ∷ ts) h g = by (eqb t.tag g) refl (tag_once ts (rises t.tag (tags ts) h) g)
  where
    by : (b : Bool) → eqb t.tag g ≡ b → count_by (λ (x : Task). eqb x.tag g) ts ≤ 1 → count_by (λ (x : Task). eqb x.tag g) (t ∷ ts) ≤ 1
    by true e rest =
        let none = count_none (λ (x : Task). eqb x.tag g) ts (λ u i. ne_eqb u.tag g (λ q. omega (arith, above (λ x. x.tag) t.tag ts h u i, eqb-true t.tag g e))) in
        omega (arith, count_cons (λ (x : Task). eqb x.tag g) t ts, none, few (eqb t.tag g))
    by false e rest = omega (arith, count_cons (λ (x : Task). eqb x.tag g) t ts, ap bit e)

-- more periods, later
further : (j k p : ℕ) → j * p < k * p → (j + 1) * p ≤ k * p
further j k p h = ⊎_elim (λ (l : j < k). let next : j + 1 ≤ k = omega arith in mul-le-mul_right p next) (λ (l : k ≤ j). absurd (omega (arith, mul-le-mul_right p l))) (cases_lt j k)

-- the first release after a tick
pub first_after : (tick : ℕ) (t : Task) → timely tick t ≡ true → FirstDue tick None t (first_due tick t)
first_after tick t ok =
    let r = t.release in
    let p = t.period in
    let a = tick - r in
    let parts = and_parts (ltb 0 p) (leb r tick) ok in
    let pos : 0 < p = ltb-true 0 p parts.0 in
    let le : r ≤ tick = leb-true r tick parts.1 in
    let cut = div-add-mod' a p in
    let rest = mod-lt a pos in
    let one = add-mul (a / p) 1 p in
    let more = one-mul p in
    record {
      tag = refl;
      period = refl;
      turns = a / p + 1;
      at = refl;
      after = lt-ltb tick (next_release tick t) (omega arith);
      first = λ k h. let l = ltb-true tick (r + k * p) h in let f = further (a / p) k p (omega arith) in omega arith;
    }

-- it is within a period of the tick
pub first_near : (tick : ℕ) (t : Task) → timely tick t ≡ true → next_release tick t ≤ tick + t.period
first_near tick t ok =
    let r = t.release in
    let p = t.period in
    let a = tick - r in
    let le : r ≤ tick = leb-true r tick (and_parts (ltb 0 p) (leb r tick) ok).1 in
    let cut = div-add-mod' a p in
    let one = add-mul (a / p) 1 p in
    let more = one-mul p in
    omega arith

-- both are the first, and so at one tick
pub same_tick : (tick : ℕ) (p : Option Release) (t : Task) (d e : Due) → FirstDue tick p t d → FirstDue tick p t e → d.tick ≡ e.tick
same_tick tick p t d e f g =
    let as-release : (x : Due) (h : FirstDue tick p t x) → past tick p (release_of t h.turns) ≡ true = λ x h. ap (past tick p) (λ i. record { tick = sym h.at i; tag = sym h.tag i }) ∙ h.after in
    omega (arith, f.first g.turns (as-release e g), g.first f.turns (as-release d f), f.at, g.at)

-- the next release of the task
pub first_later : (tick : ℕ) (p : Option Release) (t : Task) (x : Due) → 0 < t.period → FirstDue tick p t x → FirstDue tick (Some (release x)) t (later x)
first_later tick p t x pos f =
    let one = add-mul f.turns 1 t.period in
    let more = one-mul t.period in
    let at : x.tick + x.period ≡ t.release + (f.turns + 1) * t.period = omega (arith, f.at, f.period) in
    record {
      tag = f.tag;
      period = f.period;
      turns = f.turns + 1;
      at = at;
      after = or_left (ltb x.tick (x.tick + x.period)) _ (lt-ltb x.tick (x.tick + x.period) (omega (arith, f.period)));
      first = λ k h.
          let l = sooner_same (release x) (release_of t k) h f.tag in
          let g = further f.turns k t.period (omega (arith, f.at)) in
          omega (arith, at);
    }

-- another task's stays
pub first_other : (tick : ℕ) (p : Option Release) (t : Task) (d x : Due) → FirstDue tick p t d → past tick p (release x) ≡ true → sooner (release d) (release x) ≡ false → (d.tag ≡ x.tag → ⊥) → FirstDue tick (Some (release x)) t d
first_other tick p t d x f after not-before apart = record {
  tag = f.tag;
  period = f.period;
  turns = f.turns;
  at = f.at;
  after = sooner_other (release x) (release d) not-before apart;
  first = λ k h. f.first k (past_sooner tick p (release x) (release_of t k) after h);
}
