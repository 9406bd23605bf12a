-- The tokens after a step, by the rows before it.
use Rattle.std.proofs.Common.{◌≡◌, ℕ, ◌-◌, ◌<◌, ◌≤◌, Bool, true, false, cond, ltb, leb, List, map, length, get_or, take, sym, ◌∙◌, subst, ⊎_elim, arith}
use Rattle.std.proofs.lemmas.Bool.{and_parts, and_from, ltb-true, leb-true, eqb-true, lt-ltb, le-leb, eq-eqb, cases_Bool, both_ways, cond-false}
use Rattle.rows.specs.declared.memory.Token.{Token}
use Rattle.rows.specs.Tests.{has}
use Rattle.rules.specs.Keys.{Key}
use Rattle.model.specs.Steps.{chosen, moved, row_of}
use Rattle.model.specs.Members.{In}
use Rattle.model.proofs.Bounds.{Choice}
use Rattle.model.proofs.Chosen.{fair}
use Rattle.model.proofs.Runners.{row_at}
use Rattle.model.proofs.Stepping.{Unshared, in_map, map_in, chosen_on, other_off, unshared, one, row_says}
use Rattle.planner.specs.Lining.{at, holds, seated}
use Rattle.planner.proofs.Members.{has_in, in_has, in_getD}
use Rattle.planner.proofs.Assigned.{One, row_like}
use Rattle.planner.proofs.Seats.{row_length}
use Rattle.planner.proofs.After.{Stepped, token_in, each_token, inside, picked}

module _ {m : ℕ} {key : Key} {span : ℕ} {ts rows : List Token} {line places : List ℕ} {d : ℕ} {mid after : List Token} (it : Stepped m key span ts rows line places d mid after) where
  abbrev run : List ℕ
  run = take m line

  abbrev picks : Token → Bool
  picks = chosen m key span ts

  abbrev x : ℕ → Token
  x i = seated places (at rows i)

  -- the token of a row after the step
  abbrev pub new : ℕ → Token
  new i = moved m picks ts d (x i)

  abbrev next : List Token
  next = map (moved m picks ts d) ts

  -- the choice is fair
  choice : Choice m span ts picks
  choice = fair m key it.law span ts it.ready.sound it.ready.some it.ready.short

  -- the token of a row after the step is one of those after it
  new_in : (i : ℕ) → i < length rows → In (new i) next
  new_in i h = map_in (moved m picks ts d) ts (token_in it i h)

  -- no two of them share a processor
  own : Unshared next
  own = unshared m span ts it.ready.sound picks choice d it.to

  -- and none is on two
  single : One next
  single = one m span ts it.ready.sound picks choice d it.to

  -- the row is that of those that ran
  pub row_ran : row_of (map new run) ≡ row_of next
  row_ran = row_like (map new run) next part all own single
    where
      part : (u : Token) → In u (map new run) → In u next
      part = in_map (λ u. In u next) new run (λ i k. new_in i (inside it i k))

      on : (i : ℕ) → i < length rows → 1 ≤ (new i).processor → In (new i) (map new run)
      on i h some = ⊎_elim
          (λ k. map_in new run (has_in i run k))
          (λ k. absurd (omega (arith, other_off m span ts it.ready.sound picks choice d it.to (x i) (picked it i h ∙ k))))
          (cases_Bool (has i run))

      all : (v : Token) → In v next → 1 ≤ v.processor → In v (map new run)
      all = in_map (λ v. 1 ≤ v.processor → In v (map new run)) (moved m picks ts d) ts
          (each_token it (λ y. 1 ≤ (moved m picks ts d y).processor → In (moved m picks ts d y) (map new run)) on)

  -- one that ran has its processor by the new row
  pub seated_ran : (i : ℕ) → In i run → seated (row_of next) (new i) ≡ new i
  seated_ran i k =
      let h = inside it i k in
      let u = new i in
      let on = chosen_on m span ts it.ready.sound picks choice d it.to (x i) (token_in it i h) (picked it i h ∙ in_has i run k) in
      let few : u.processor ≤ 16 = omega (arith, on.1, it.ready.sound.few) in
      let there = row_at next own single u (new_in i h) on.0 few in
      let holding : holds (row_of next) u ≡ true =
      and_from _ _ (lt-ltb 0 u.processor on.0) (and_from _ _ (le-leb u.processor 16 few) (eq-eqb (get_or (row_of next) (u.processor - 1) 0) u.tag there)) in
      λ j. record { left = u.left; tag = u.tag; processor = cond (holding j) u.processor 0 }

  -- one that waited has lost its own
  pub seated_rest : (i : ℕ) → i < length rows → has i run ≡ false → seated (row_of next) (at rows i) ≡ new i
  seated_rest i h out =
      let r = at rows i in
      let off = picked it i h ∙ out in
      let says : has r.tag (row_of next) ≡ false = row_says m span ts it.ready.sound picks choice d it.to (x i) (token_in it i h) ∙ off in
      let lost : holds (row_of next) r ≡ false = ⊎_elim
      (λ e. let p = and_parts (ltb 0 r.processor) _ e in
      let q = and_parts (leb r.processor 16) _ p.1 in
      let low = ltb-true 0 r.processor p.0 in
      let few = leb-true r.processor 16 q.0 in
      let t = eqb-true (get_or (row_of next) (r.processor - 1) 0) r.tag q.1 in
      let k = in_getD (row_of next) (r.processor - 1) 0 (omega (arith, row_length next)) in
      absurd (both_ways _ says (in_has r.tag (row_of next) (subst (λ n. In n (row_of next)) t k))))
      (λ e. e)
      (cases_Bool (holds (row_of next) r)) in
      λ j. record {
        left = cond (sym off j) (r.left - d) r.left;
        tag = r.tag;
        processor = both (cond-false (holds (row_of next) r) r.processor 0 lost) (other_off m span ts it.ready.sound picks choice d it.to (x i) off) j;
      }
    where
      both : {a b c : ℕ} → a ≡ c → b ≡ c → a ≡ b
      both e f = e ∙ sym f
