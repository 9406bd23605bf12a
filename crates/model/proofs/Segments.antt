-- The segment of a step: it has a length and fits a record.
use Rattle.std.proofs.Common.{◌≡◌, ℕ, zero, suc, ◌+◌, ◌-◌, ◌^◌, ◌<◌, ◌≤◌, Bool, true, false, cond, not, ◌&&◌, eqb, ◌⊎◌, List, [], ◌∷◌, map, drop, refl, ◌∙◌, inl, inr, ⊎_elim, arith}
use Rattle.std.specs.List.{range_with_len, AllByRecursion}
use Rattle.std.proofs.lemmas.List.FromFn.{length-map-range_with_len}
use Rattle.std.proofs.lemmas.Bool.{and_from, or_cases, or_left, or_right, eq-eqb, ne_eqb, cond_both, cond-false, cases_Bool, not_from_false}
use Rattle.std.proofs.lemmas.Bool.Decides.{nat_tests}
use Rattle.rows.specs.declared.memory.Token.{Token}
use Rattle.rows.specs.Limits.{longest_span}
use Rattle.rows.specs.Tests.{distinct, all, any}
use Rattle.rules.specs.Keys.{Key, Lawful}
use Rattle.plan_file.specs.Records.{Segment}
use Rattle.plan_file.specs.RoundTrip.{Below, Writable}
use Rattle.model.specs.Steps.{chosen, distance, event, runner, row_of, step}
use Rattle.model.specs.Members.{In, here, there}
use Rattle.model.proofs.Distances.{all_map, at_most, attained, gap_picked, gap_other}
use Rattle.model.proofs.Bounds.{Sound, reach, has_length}
use Rattle.model.proofs.Chosen.{fair}
use Rattle.model.proofs.Stepping.{step_sound, row_distinct}

pub record Good (m : ℕ) (s : Segment) : Type 0 where
  pub long : 0 < s.units
  pub fits : Writable m s

-- Every step comes to an event.

pub any_in : {X : Type 0} (t : X → Bool) {x : X} (xs : List X) → In x xs → t x ≡ true → any t xs ≡ true
any_in t [] i h = elim i [ ]
any_in t (x ∷ xs) here h = or_left _ _ h
any_in t (y ∷ xs) (there i) h = or_right (t y) _ (any_in t xs i h)

pub any_of : {X : Type 0} (t : X → Bool) (xs : List X) → any t xs ≡ true → (x : X) × In x xs × (t x ≡ true)
any_of t [] h = cc
any_of {X} t (x ∷ xs) h = ⊎_elim (λ e. (x, here, e)) (λ e. let s = any_of t xs e in (s.0, there s.1, s.2)) (or_cases (t x) (any t xs) h)

pub none_of : {X : Type 0} (t : X → Bool) (xs : List X) → ((x : X) → In x xs → t x ≡ true → ⊥) → any t xs ≡ false
none_of t xs h = ⊎_elim (λ e. let s = any_of t xs e in absurd (h s.0 s.1 s.2)) (λ e. e) (cases_Bool (any t xs))

known : (z a b : Bool) → (z ≡ true) ⊎ ((a ≡ true) ⊎ (b ≡ true)) → (1 ≤ cond z 4 (cond a 1 0 + cond b 2 0)) × (cond z 4 (cond a 1 0 + cond b 2 0) ≤ 4)
known z a b h = (grind arith, grind arith)

module _ (picks : Token → Bool) (span : ℕ) (ts : List Token) (low : (x : Token) → In x ts → x.left ≤ span) where
  abbrev d : ℕ
  d = distance picks span ts

  abbrev emptied : Token → Bool
  emptied x = picks x && eqb x.left d

  abbrev topped : Token → Bool
  topped x = not (picks x) && eqb x.left (span - d)

  reached : (eqb (span - d) 0 ≡ true) ⊎ ((any emptied ts ≡ true) ⊎ (any topped ts ≡ true))
  reached = ⊎_elim
      (λ e. inl (eq-eqb (span - d) 0 (omega (arith, e))))
      (λ s. inr (⊎_elim
      (λ p. inl (any_in emptied ts s.1 (and_from _ _ p (eq-eqb s.0.left d (omega (arith, s.2, gap_picked picks span s.0 p))))))
      (λ p. inr (any_in topped ts s.1 (and_from _ _ (not_from_false _ p) (eq-eqb s.0.left (span - d) (omega (arith, s.2, gap_other picks span s.0 p, low s.0 s.1))))))
      (cases_Bool (picks s.0))))
      (attained picks span ts)

  event_known : (1 ≤ event picks d (span - d) ts) × (event picks d (span - d) ts ≤ 4)
  event_known = known (eqb (span - d) 0) (any emptied ts) (any topped ts) reached

-- The row fits a record.

-- a runner's tag is that of a token, or 0
short_runner : (us : List Token) (p : ℕ) → ((u : Token) → In u us → u.tag < 2 ^ 16) → runner us p < 2 ^ 16
short_runner [] p h = omega arith
short_runner (x ∷ xs) p h = cond_both (eqb x.processor p) x.tag (runner xs p) (λ t. t < 2 ^ 16) (λ _. h x here) (λ _. short_runner xs p (λ u i. h u (there i)))

-- no token runs on a processor past all of theirs
no_runner : (us : List Token) (p : ℕ) → ((u : Token) → In u us → u.processor < p) → runner us p ≡ 0
no_runner [] p h = refl
no_runner (x ∷ xs) p h = cond-false _ _ _ (ne_eqb x.processor p (λ e. omega (arith, h x here))) ∙ no_runner xs p (λ u i. h u (there i))

-- what holds of each holds at every index, past the end too
below_all : (b : ℕ) (xs : List ℕ) → 0 < b → AllByRecursion (λ t. t < b) xs → Below b xs
below_all b [] pos h i = pos
below_all b (x ∷ xs) pos h zero = h.0
below_all b (x ∷ xs) pos h (suc i) = below_all b xs pos h.1 i

module _ (m : ℕ) (us : List Token) (few : m ≤ 16) (on : (u : Token) → In u us → u.processor ≤ m) (tags : (u : Token) → In u us → u.tag < 2 ^ 16) where
  empty_row : (k a n : ℕ) → m < a + k → all (λ t. eqb t 0) (drop k (map (runner us) (range_with_len a n))) ≡ true
  empty_row zero a zero l = refl
  empty_row zero a (suc n) l =
      and_from _ _ (eq-eqb (runner us a) 0 (no_runner us a (λ u i. omega (arith, on u i)))) (empty_row zero (a + 1) n (omega arith))
  empty_row (suc k) a zero l = refl
  empty_row (suc k) a (suc n) l = empty_row k (a + 1) n (omega arith)

  pub row_fits : (d k : ℕ) → 1 ≤ m → 0 < d → d ≤ longest_span → (1 ≤ k) × (k ≤ 4) → distinct (row_of us) ≡ true
      → Writable m (record { units = d; kind = k; row = row_of us })
  row_fits d k some long short known apart =
      record {
        places = length-map-range_with_len (runner us) 1 16;
        tags = below_all (2 ^ 16) (row_of us) (omega arith) (all_map (λ t. t < 2 ^ 16) (runner us) (range_with_len 1 16) (λ p i. short_runner us p tags));
        apart = apart;
        faultless = grind (arith, nat_tests, empty_row m 1 16 (omega arith));
      }

pub step_good : (m : ℕ) (key : Key) → Lawful key → (span : ℕ) (ts : List Token) → Sound m span ts → 0 < span → span ≤ 2 ^ 54 → Good m (step m key span ts).segment
step_good m key law span ts ok some short =
    let picks = chosen m key span ts in
    let choice = fair m key law span ts ok some short in
    let d = distance picks span ts in
    let s = step_sound m key law span ts ok some short in
    let long = has_length m span ts ok picks choice some in
    record {
      long = long;
      fits = row_fits m (step m key span ts).tokens ok.few s.on s.short_tags d _ ok.some long (omega (arith, at_most picks span ts))
          (event_known picks span ts ok.low) (row_distinct m span ts ok picks choice d (reach picks span ts));
    }
