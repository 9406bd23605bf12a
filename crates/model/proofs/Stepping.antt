-- A run keeps what is true of a plane's tokens, and its row has exactly the chosen ones.
use Rattle.std.proofs.Common.{◌≡◌, ℕ, ◌+◌, ◌-◌, ◌^◌, ◌<◌, ◌≤◌, Bool, true, false, cond, ltb, List, [], ◌∷◌, map, refl, ap, ⊎_elim, arith}
pub use mathlib.Core.List.{map-map as map_map}
use Rattle.std.proofs.lemmas.Bool.{and_parts, and_from, cases_eq, cond-false}
use Rattle.rows.specs.declared.memory.Token.{Token}
use Rattle.rows.specs.Tests.{has, distinct}
use Rattle.rules.specs.Keys.{Key, Lawful}
use Rattle.model.proofs.Tags.{increasing}
use Rattle.model.specs.Steps
use Rattle.model.specs.Steps.{moved, row_of, run, chosen, distance}
use Rattle.model.specs.Members.{In, here, there}
use Rattle.model.proofs.Counts.{in_all}
use Rattle.model.proofs.Order.{above, same_token}
use Rattle.model.proofs.Bounds.{Sound, Choice, Reach, keeps, reach}
use Rattle.model.proofs.Chosen.{fair}
use Rattle.model.proofs.Processors.{numbered, own_processor}
use Rattle.model.proofs.Runners.{apart_from, row_apart, row_has, row_only}

-- what holds of each image holds of each in the mapped list
pub in_map : {X Y : Type 0} (P : Y → Type 0) (f : X → Y) (xs : List X) → ((x : X) → In x xs → P (f x)) → (y : Y) → In y (map f xs) → P y
in_map P f [] h y i = elim i [ ]
in_map P f (x ∷ xs) h y here = h x here
in_map P f (x ∷ xs) h y (there i) = in_map P f xs (λ z j. h z (there j)) y i

pub map_in : {X Y : Type 0} (f : X → Y) {x : X} (xs : List X) → In x xs → In (f x) (map f xs)
map_in f [] i = elim i [ ]
map_in f (x ∷ xs) here = here
map_in f (y ∷ xs) (there i) = there (map_in f xs i)

-- no two tokens share a processor
abbrev pub Unshared : List Token → Type 0
Unshared us = (u v : Token) → In u us → In v us → u.processor ≡ v.processor → (u.processor ≡ 0 → ⊥) → u.tag ≡ v.tag

distinct_processors : (low : ℕ) (us : List Token) → increasing low (map (λ t. t.tag) us) ≡ true → Unshared us → distinct (map (λ t. t.processor) us) ≡ true
distinct_processors low [] h own = refl
distinct_processors low (x ∷ xs) h own =
    let p = and_parts (ltb low x.tag) (increasing x.tag (map (λ t. t.tag) xs)) h in
    and_from _ _
    (apart_from (λ t. t.processor) x xs (λ y i e.
    ⊎_elim (λ z. z) (λ z. absurd (omega (arith, own x y here (there i) e z, above x.tag xs p.1 y i))) (cases_eq x.processor 0)))
    (distinct_processors x.tag xs p.1 (λ u v i j. own u v (there i) (there j)))

module _ (m span : ℕ) (ts : List Token) (ok : Sound m span ts) (picks : Token → Bool) (choice : Choice m span ts picks) (d : ℕ) (to : Reach span ts picks d) where
  abbrev go_on : Token → Token
  go_on = moved m picks ts d

  abbrev us : List Token
  us = (run m picks span ts d).tokens

  -- the processor of one that is chosen, and of one that is not
  pub chosen_on : (x : Token) → In x ts → picks x ≡ true → (1 ≤ (go_on x).processor) × ((go_on x).processor ≤ m)
  chosen_on x i h = numbered m picks ts choice.most ok.on ok.own x i h

  pub other_off : (x : Token) → picks x ≡ false → (go_on x).processor ≡ 0
  other_off x h = cond-false (picks x) _ _ h

  pub after_on : (u : Token) → In u us → u.processor ≤ m
  after_on = in_map (λ u. u.processor ≤ m) go_on ts (λ x i. grind (arith, chosen_on x i, other_off x))

  pub after_tagged : increasing 0 (map (λ t. t.tag) us) ≡ true
  after_tagged = rw (map_map (λ x. x.tag) go_on ts) ok.tagged

  pub unshared : Unshared us
  unshared u v i j =
      in_map (λ u. u.processor ≡ v.processor → (u.processor ≡ 0 → ⊥) → u.tag ≡ v.tag) go_on ts
      (λ x k. in_map (λ v. (go_on x).processor ≡ v.processor → ((go_on x).processor ≡ 0 → ⊥) → x.tag ≡ v.tag) go_on ts (λ y l. meet x y k l) v j)
      u i
    where
      meet : (x y : Token) → In x ts → In y ts → (go_on x).processor ≡ (go_on y).processor → ((go_on x).processor ≡ 0 → ⊥) → x.tag ≡ y.tag
      meet x y i j e z = grind (arith, own_processor m picks ts choice.most ok.on ok.own x y i j, other_off x, other_off y)

  pub one : (u v : Token) → In u us → In v us → u.tag ≡ v.tag → u.processor ≡ v.processor
  one u v i j e = ap (λ t. t.processor) (same_token 0 us after_tagged u v i j e)

  pub run_sound : Sound m (span - d) us
  run_sound =
      let k = keeps m span ts ok picks choice d to in
      record {
        some = ok.some;
        few = ok.few;
        tagged = after_tagged;
        short_tags = in_map (λ u. u.tag < 2 ^ 16) go_on ts ok.short_tags;
        low = λ x i. in_all (λ x. x.left ≤ span - d) k.0 i;
        sum = k.1;
        on = after_on;
        own = distinct_processors 0 us after_tagged unshared;
      }

  -- the row has the tag of a token exactly if it was chosen
  pub row_says : (x : Token) → In x ts → has x.tag (row_of us) ≡ picks x
  row_says x i =
      let j = map_in go_on ts i in
      grind (arith, chosen_on x i, other_off x, ok.few, row_has us unshared one (go_on x) j, row_only us unshared one (go_on x) j (above 0 ts ok.tagged x i))

  pub row_distinct : distinct (row_of us) ≡ true
  row_distinct = row_apart us unshared one

  -- a token falls by the run's length if the row has its tag
  pub falls_by : (x : Token) → In x ts → (go_on x).left + cond (has x.tag (row_of us)) d 0 ≡ x.left
  falls_by x i = grind (arith, row_says x i, to.picked x i)

-- a step by a lawful key
module _ (m : ℕ) (key : Key) (law : Lawful key) (span : ℕ) (ts : List Token) (ok : Sound m span ts) (some : 0 < span) (short : span ≤ 2 ^ 54) where
  pub step_sound : Sound m (Steps.step m key span ts).span (Steps.step m key span ts).tokens
  step_sound = run_sound m span ts ok (chosen m key span ts) (fair m key law span ts ok some short) _ (reach _ span ts)
