-- A lawful choice over sound tokens can be run.
use Rattle.std.proofs.Common.{◌≡◌, ℕ, ◌+◌, ◌-◌, ◌<◌, ◌≤◌, min, Bool, true, false, cond, not, eqb, ltb, List, map, get_or, filter, sym, refl, ap, ◌∙◌, inl, inr, arith, eq-eqb, ne_eqb}
use Rattle.std.proofs.lemmas.Bool.{cases_lt, cases_eq, lt-ltb, le-ltb}
use Rattle.std.specs.List.{range_with_len, AllByRecursion}
use Rattle.rows.specs.declared.memory.Token.{Token}
use Rattle.rows.specs.Tests.{has, distinct}
use Rattle.rules.specs.Keys.{Key, Lawful}
use Rattle.model.specs.Steps.{free, assigned, chosen, distance, event, moved}
use Rattle.model.proofs.Bounds.{Sound, reach}
use Rattle.model.proofs.Chosen.{fair, at_most_m}
use Rattle.model.proofs.Counts.{all_in}
use Rattle.model.proofs.Processors.{numbered}
use Rattle.model.proofs.Stepping.{run_sound, map_map}
use Rattle.model.proofs.Tags.{rises, kept_same}
use Rattle.planner.specs.Runs.{Ready}
use Rattle.planner.specs.Looking.{least_left, most_left, nearest_kind, Runnable}
use Rattle.planner.proofs.Tallies.{in_counting}
use Rattle.planner.proofs.Distances.{distance_is, event_is, most_at_most}

pub on_processors : (m span : ℕ) (ts : List Token) → Sound m span ts → AllByRecursion (λ x. x.processor ≤ 16) ts
on_processors m span ts ok = all_in (λ x. x.processor ≤ 16) ts (λ x i. omega (arith, ok.on x i, ok.few))

module _ (key : Key) (law : Lawful key) {m span : ℕ} {ts : List Token} (ready : Ready m span ts) where
  abbrev picks : Token → Bool
  picks = chosen m key span ts

  abbrev far : ℕ
  far = distance picks span ts

  pub runnable : (spare : List ℕ) → ((k : ℕ) → get_or spare k 0 ≡ get_or (free m picks ts) k 0) → Runnable m picks far spare ts
  runnable spare is =
      let to = reach picks span ts in
      let after = run_sound m span ts ready.sound picks (fair m key law span ts ready.sound ready.some ready.short) far to in
      record {
        few = ready.sound.few;
        sorted = rises 0 (map (λ t. t.tag) ts) ready.sound.tagged;
        reach = all_in (λ x. picks x ≡ true → far ≤ x.left) ts (λ x i p. to.picked x i p);
        numbered = all_in (λ x. picks x ≡ true → (1 ≤ assigned m picks ts x) × (assigned m picks ts x ≤ m)) ts
            (λ x i p. numbered m picks ts (at_most_m m key span ts ready.sound) ready.sound.on ready.sound.own x i p);
        apart = ap distinct (sym (map_map (λ (t : Token). t.processor) (moved m picks ts far) ts)) ∙ after.own;
        spare_is = is;
      }

  module _ {least most : ℕ} (least_is : least ≡ least_left picks span ts) (most_is : most ≡ most_left picks ts) where
    pub most_low : most ≤ span
    most_low = omega (arith, most_is, most_at_most picks span ts ready.sound.low)

    pub far_is : min least (span - most) ≡ far
    far_is = (λ j. min (least_is j) (span - most_is j)) ∙ sym (distance_is picks span ts)

    named : event picks far (span - far) ts ≡ cond (eqb (span - far) 0) 4 (cond (eqb least far) 1 0 + cond (eqb most (span - far)) 2 0)
    named =
        event_is picks span far (span - far) ts refl refl ready.sound.low
        ∙ (λ j. cond (eqb (span - far) 0) 4 (cond (eqb (sym least_is j) far) 1 0 + cond (eqb (sym most_is j) (span - far)) 2 0))

    ends_plane : span - far ≡ 0 → 4 ≡ event picks far (span - far) ts
    ends_plane e = sym (named ∙ ap (λ b. cond b 4 (cond (eqb least far) 1 0 + cond (eqb most (span - far)) 2 0)) (eq-eqb (span - far) 0 e))

    going : (a b : Bool) → (span - far ≡ 0 → ⊥) → eqb least far ≡ a → eqb most (span - far) ≡ b → event picks far (span - far) ts ≡ cond a 1 0 + cond b 2 0
    going a b e p q = named ∙ (λ j. cond (ne_eqb (span - far) 0 e j) 4 (cond (p j) 1 0 + cond (q j) 2 0))

    hits_bottom : (span - far ≡ 0 → ⊥) → most < span - far → 1 ≡ event picks far (span - far) ts
    hits_bottom e l =
        let d = far_is in
        sym (going true false e (eq-eqb least far (omega arith)) (ne_eqb most (span - far) (λ f. omega arith)))

    hits_ceiling : (span - far ≡ 0 → ⊥) → span - far ≤ most → far < least → 2 ≡ event picks far (span - far) ts
    hits_ceiling e g l =
        let d = far_is in
        let low = most_low in
        sym (going false true e (ne_eqb least far (λ f. omega arith)) (eq-eqb most (span - far) (omega arith)))

    hits_both : (span - far ≡ 0 → ⊥) → span - far ≤ most → least ≤ far → 3 ≡ event picks far (span - far) ts
    hits_both e g l =
        let d = far_is in
        let low = most_low in
        sym (going true true e (eq-eqb least far (omega arith)) (eq-eqb most (span - far) (omega arith)))

    -- all four at once
    pub nearest_is : nearest_kind least most span ≡ event picks far (span - far) ts
    nearest_is =
        ap (λ d. cond (eqb (span - d) 0) 4 (cond (ltb most (span - d)) 1 (cond (ltb d least) 2 3))) far_is
        ∙ elim (cases_eq (span - far) 0) [
          | inl e ↦ ap (λ b. cond b 4 (cond (ltb most (span - far)) 1 (cond (ltb far least) 2 3))) (eq-eqb (span - far) 0 e) ∙ ends_plane e
          | inr e ↦ ap (λ b. cond b 4 (cond (ltb most (span - far)) 1 (cond (ltb far least) 2 3))) (ne_eqb (span - far) 0 e)
              ∙ elim (cases_lt most (span - far)) [
                | inl l ↦ ap (λ b. cond b 1 (cond (ltb far least) 2 3)) (lt-ltb most (span - far) l) ∙ hits_bottom e l
                | inr g ↦ ap (λ b. cond b 1 (cond (ltb far least) 2 3)) (le-ltb most (span - far) g)
                    ∙ elim (cases_lt far least) [
                      | inl l ↦ ap (λ b. cond b 2 3) (lt-ltb far least l) ∙ hits_ceiling e g l
                      | inr h ↦ ap (λ b. cond b 2 3) (le-ltb far least h) ∙ hits_both e g h
                    ]
              ]
        ]

-- the processors that are not marked are the free ones
pub unmarked : (m : ℕ) (picks : Token → Bool) (ts : List Token) (taken : List Bool) → m ≤ 16
    → ((p : ℕ) → p < 17 → get_or taken p false ≡ has p (map (λ x. x.processor) (filter picks ts)))
    → filter (λ p. not (get_or taken p false)) (range_with_len 1 m) ≡ free m picks ts
unmarked m picks ts taken few is =
    kept_same (λ p. not (get_or taken p false)) (λ p. not (has p (map (λ (x : Token). x.processor) (filter picks ts)))) (range_with_len 1 m)
    (λ p i. ap not (is p (omega (arith, in_counting p 1 m i))))
