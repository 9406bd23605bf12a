-- The rows of a plane after a step, one by one.
use Rattle.std.proofs.Common.{◌≡◌, ℕ, ◌+◌, ◌-◌, ◌<◌, Bool, true, false, cond, ◌&&◌, eqb, ltb, List, length, get_or, take, count_by, sym, ap, ◌∙◌, subst, arith}
use mathlib.Core.Bool.{and_assoc}
use Rattle.std.proofs.lemmas.Bool.{cond-true, cond-false}
use Rattle.rows.specs.declared.memory.Token.{Token}
use Rattle.rows.specs.Tests.{has}
use Rattle.rules.specs.Keys.{Key, Lawful, ByLeft}
use Rattle.model.specs.Steps.{active, chosen, free, turn, moved}
use Rattle.model.specs.Members.{In}
use Rattle.model.proofs.Bounds.{Reach}
use Rattle.model.proofs.Counts.{in_all}
use Rattle.model.proofs.Stepping.{in_map, map_in}
use Rattle.planner.specs.Runs.{Ready}
use Rattle.planner.specs.Lining.{Kept, Changed, no_token, at, those, seated, settled, with_seat, everyone}
use Rattle.planner.proofs.Standing.{places_of}
use Rattle.planner.proofs.Ranked.{runs_at, chosen_place}
use Rattle.planner.proofs.Tallies.{count_same, count_map}
use Rattle.planner.proofs.Members.{in_has, in_getD, place_of, in_take}
use Rattle.planner.proofs.Assigned.{free_same}

-- The first m places of a line have run for d units, no further than to the next event, where nothing but the time left counts.
pub record Stepped (m : ℕ) (key : Key) (span : ℕ) (ts rows : List Token) (line places : List ℕ) (d : ℕ) (mid after : List Token) : Type 0 where
  pub law : Lawful key
  pub by : ByLeft key
  pub ready : Ready m span ts
  pub was : Kept ts rows line places
  pub to : Reach span ts (chosen m key span ts) d
  pub settles : Changed (settled places d) (take m line) rows mid
  pub seats : Changed (with_seat m (those mid (take m line))) (take m line) mid after

module _ {m : ℕ} {key : Key} {span : ℕ} {ts rows : List Token} {line places : List ℕ} {d : ℕ} {mid after : List Token} (it : Stepped m key span ts rows line places d mid after) where
  abbrev run : List ℕ
  run = take m line

  abbrev picks : Token → Bool
  picks = chosen m key span ts

  -- the token of a row
  abbrev pub token : ℕ → Token
  token i = seated places (at rows i)

  -- it is a token of the plane
  pub token_in : (i : ℕ) → i < length rows → In (token i) ts
  token_in i h = subst (In (token i)) (sym it.was.same) (map_in (seated places) rows (in_getD rows i no_token h))

  -- what holds of the token of each row holds of each token
  pub each_token : (P : Token → Type 0) → ((i : ℕ) → i < length rows → P (token i)) → (y : Token) → In y ts → P y
  each_token P h y k =
      in_map P (seated places) rows
      (λ r l. let s = place_of rows no_token l in subst (λ r. P (seated places r)) s.2 (h s.0 s.1))
      y (subst (In y) it.was.same k)

  -- a place in line is one of a row
  pub in_rows : (i : ℕ) → In i line → i < length rows
  in_rows i k = in_all (λ i. i < length rows) (places_of rows line it.was.lines).inside k

  -- so is that of one that runs
  pub inside : (i : ℕ) → In i run → i < length rows
  inside i k = in_rows i (in_take m line k)

  -- the token of a row is chosen if its place is one of those that run
  pub picked : (i : ℕ) → i < length rows → picks (token i) ≡ has i run
  picked = chosen_place m key it.by span ts rows line places it.ready.sound it.ready.short it.was

  -- one that runs is chosen
  picked_run : (i : ℕ) → In i run → picks (token i) ≡ true
  picked_run i k = picked i (inside i k) ∙ in_has i run k

  -- the chosen tokens are counted by their places
  run_counts : (p : Token → Bool) → count_by (λ x. picks x && p x) ts ≡ count_by (λ i. p (token i)) run
  run_counts = runs_at m key it.by span ts rows line places it.ready.sound it.ready.short it.was

  -- one that runs has settled
  mid_ran : (i : ℕ) → In i run → at mid i ≡ settled places d (at rows i)
  mid_ran i k = it.settles.1 i (inside i k) ∙ cond-true (has i run) _ _ (in_has i run k)

  -- those that have settled are counted by their places
  mid_counts : (p : Token → Bool) → count_by p (those mid run) ≡ count_by (λ i. p (settled places d (at rows i))) run
  mid_counts p =
      count_map p (at mid) run
      ∙ count_same (λ i. p (at mid i)) (λ i. p (settled places d (at rows i))) run (λ i k. ap p (mid_ran i k))

  -- the processors that are free are the same among those that run
  free_is : free m everyone (those mid run) ≡ free m picks ts
  free_is = sym (free_same m picks everyone ts (those mid run) (λ p. run_counts (λ x. eqb p x.processor) ∙ sym (mid_counts (λ x. eqb p x.processor))))

  -- and the turn of each
  turn_is : (i : ℕ) → turn everyone (those mid run) (settled places d (at rows i)) ≡ turn picks ts (token i)
  turn_is i =
      let t = (at rows i).tag in
      mid_counts (λ y. eqb y.processor 0 && ltb y.tag t)
      ∙ sym (run_counts (λ y. eqb y.processor 0 && ltb y.tag t))
      ∙ count_same (λ y. picks y && (eqb y.processor 0 && ltb y.tag t)) (λ y. picks y && eqb y.processor 0 && ltb y.tag t) ts
      (λ y k. sym (and_assoc (picks y) (eqb y.processor 0) (ltb y.tag t)))

  -- one that ran is as it should be
  pub after_ran : (i : ℕ) → In i run → at after i ≡ moved m picks ts d (token i)
  after_ran i k =
      let low : i < length mid = omega (arith, it.settles.0, inside i k) in
      let yes = picked_run i k in
      let r = at rows i in
      let p = (token i).processor in
      it.seats.1 i low
      ∙ cond-true (has i run) _ _ (in_has i run k)
      ∙ ap (with_seat m (those mid run)) (mid_ran i k)
      ∙ (λ j. record {
        left = cond (sym yes j) (r.left - d) r.left;
        tag = r.tag;
        processor = cond (sym yes j) (cond (eqb p 0) (get_or (free_is j) (turn_is i j) 0) p) 0;
      })

  -- one that waited is as it was
  pub after_rest : (i : ℕ) → i < length rows → has i run ≡ false → at after i ≡ at rows i
  after_rest i h out =
      let low : i < length mid = omega (arith, it.settles.0) in
      it.seats.1 i low ∙ cond-false (has i run) _ _ out ∙ it.settles.1 i h ∙ cond-false (has i run) _ _ out

  -- there are as many rows as before
  pub after_long : length after ≡ length rows
  after_long = it.seats.0 ∙ it.settles.0

  -- one that ran has fallen by d
  pub after_left : (i : ℕ) → In i run → (at after i).left + d ≡ (at rows i).left
  after_left i k =
      let yes = picked_run i k in
      let e : (at after i).left ≡ (at rows i).left - d =
      ap (λ t. t.left) (after_ran i k) ∙ cond-true (picks (token i)) ((at rows i).left - d) (at rows i).left yes in
      omega (arith, it.to.picked (token i) (token_in i (inside i k)) yes)

  -- and has its tag
  pub after_tag : (i : ℕ) → In i run → (at after i).tag ≡ (at rows i).tag
  after_tag i k = ap (λ t. t.tag) (after_ran i k)

  -- those that ran have the time left that they had before they took their processors
  pub after_active : count_by active (those mid run) ≡ count_by active (those after run)
  after_active =
      mid_counts active
      ∙ sym (count_map active (at after) run ∙ count_same (λ i. active (at after i)) (λ i. active (settled places d (at rows i))) run
      (λ i k. ap (ltb 0) (ap (λ t. t.left) (after_ran i k) ∙ cond-true (picks (token i)) ((at rows i).left - d) (at rows i).left (picked_run i k))))
