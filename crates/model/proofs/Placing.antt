-- Rows put in by tag and taken out again leave a table in order.
use Rattle.std.proofs.Common.{◌≡◌, ℕ, suc, ◌+◌, ◌<◌, Bool, true, false, cond, not, eqb, ltb, ◌⊎◌, List, [], ◌∷◌, length, Some, sum_by, filter, sym, refl, ap, ◌∙◌, subst, inl, inr, ⊎_elim, arith, length-append}
use Rattle.std.proofs.lemmas.List.Filters.{length-filter_both, sum_by-filter_both}
use Rattle.std.proofs.lemmas.List.Sums.{sum_by-cons, sum_by-append}
use Rattle.std.proofs.lemmas.Bool.{and_parts, or_parts, ltb-true, eqb-true, eqb-false, ne_eqb}
use Rattle.rows.specs.declared.memory.Task.{Task}
use Rattle.rows.specs.Tests.{has}
use Rattle.model.specs.Tables.{tags, placed, found, without}
use Rattle.model.specs.Members.{In, here, there}
use Rattle.model.proofs.Counts.{in_cons}
use Rattle.model.proofs.Tags.{increasing, rises, rises_from, above, kept_increasing, joined_increasing, in_kept, in_append, kept_all, kept_same}

-- a tag that is absent is no row's
pub absent : (tag : ℕ) (xs : List Task) → has tag (tags xs) ≡ false → (x : Task) → In x xs → tag ≡ x.tag → ⊥
absent tag [] h x i = elim i [ ]
absent tag (y ∷ xs) h x here = eqb-false tag x.tag (or_parts (eqb tag x.tag) (has tag (tags xs)) h).0
absent tag (y ∷ xs) h x (there i) = absent tag xs (or_parts (eqb tag y.tag) (has tag (tags xs)) h).1 x i

module _ (t : Task) where
  abbrev below : Task → Bool
  below x = ltb x.tag t.tag

  abbrev beyond : Task → Bool
  beyond x = ltb t.tag x.tag

  -- a row of another tag is below or beyond
  either : (xs : List Task) → has t.tag (tags xs) ≡ false → filter beyond xs ≡ filter (λ x. not (below x)) xs
  either xs new = kept_same beyond (λ x. not (below x)) xs (λ x i. grind (arith, absent t.tag xs new x i))

  pub length_placed : (xs : List Task) → has t.tag (tags xs) ≡ false → length (placed t xs) ≡ suc (length xs)
  length_placed xs new =
      omega (
        arith,
        length-append (filter below xs) (t ∷ filter beyond xs),
        ap length (either xs new),
        length-filter_both below (λ x. not (below x)) (λ _. refl) xs,
      )

  pub sum_placed : (f : Task → ℕ) (xs : List Task) → has t.tag (tags xs) ≡ false → sum_by f (placed t xs) ≡ f t + sum_by f xs
  sum_placed f xs new =
      omega (
        arith,
        sum_by-append f (filter below xs) (t ∷ filter beyond xs),
        sum_by-cons f t (filter beyond xs),
        ap (sum_by f) (either xs new),
        sum_by-filter_both below (λ x. not (below x)) (λ _. refl) f xs,
      )

  pub in_placed : (u : Task) (xs : List Task) → In u (placed t xs) → (u ≡ t) ⊎ In u xs
  in_placed u xs i = ⊎_elim
      (λ j. inr (in_kept below u xs j).0)
      (λ j. ⊎_elim inl (λ k. inr (in_kept beyond u xs k).0) (in_cons u t (filter beyond xs) j))
      (in_append u (filter below xs) (t ∷ filter beyond xs) i)

  pub placed_increasing : (low : ℕ) (xs : List Task) → low < t.tag → increasing low (tags xs) ≡ true → increasing low (tags (placed t xs)) ≡ true
  placed_increasing low xs l up =
      joined_increasing (λ x. x.tag) low (filter below xs) t (filter beyond xs) (kept_increasing (λ x. x.tag) below low xs up)
      (λ x i. ltb-true x.tag t.tag (in_kept below x xs i).1) l
      (rises_from (λ x. x.tag) t.tag (filter beyond xs) (rises low _ (kept_increasing (λ x. x.tag) beyond low xs up))
      (λ x i. ltb-true t.tag x.tag (in_kept beyond x xs i).1))

module _ (tag : ℕ) where
  abbrev other : Task → Bool
  other x = not (eqb x.tag tag)

  pub in_without : (u : Task) (xs : List Task) → In u (without tag xs) → In u xs
  in_without u xs i = (in_kept other u xs i).0

  pub without_increasing : (low : ℕ) (xs : List Task) → increasing low (tags xs) ≡ true → increasing low (tags (without tag xs)) ≡ true
  without_increasing low xs up = kept_increasing (λ x. x.tag) other low xs up

  -- one row less
  pub without_one : (f : Task → ℕ) (low : ℕ) (xs : List Task) (t : Task) → increasing low (tags xs) ≡ true → found tag xs ≡ Some t
      → (length xs ≡ suc (length (without tag xs))) × (sum_by f xs ≡ f t + sum_by f (without tag xs))
  without_one f low [] t up e = cc
  without_one f low (x ∷ xs) t up e =
      let h = (and_parts (ltb low x.tag) (increasing x.tag (tags xs)) up).1 in
      go (eqb x.tag tag) refl h (without_one f x.tag xs t h) e
    where
      go : (b : Bool) → eqb x.tag tag ≡ b → increasing x.tag (tags xs) ≡ true
          → (found tag xs ≡ Some t → (length xs ≡ suc (length (without tag xs))) × (sum_by f xs ≡ f t + sum_by f (without tag xs)))
          → cond b (Some x) (found tag xs) ≡ Some t
          → (length (x ∷ xs) ≡ suc (length (cond (not b) (x ∷ without tag xs) (without tag xs))))
          × (sum_by f (x ∷ xs) ≡ f t + sum_by f (cond (not b) (x ∷ without tag xs) (without tag xs)))
      go true here-it up again e =
          let same : x ≡ t = cc in
          let rest : without tag xs ≡ xs = kept_all other xs (λ y i. ap not (ne_eqb y.tag tag (λ q. omega (arith, eqb-true x.tag tag here-it, above (λ x. x.tag) x.tag xs up y i)))) in (
            ap (λ l. suc (length l)) (sym rest),
            subst (λ u. sum_by f (x ∷ xs) ≡ f u + sum_by f (without tag xs)) same (sum_by-cons f x xs ∙ ap (λ l. f x + sum_by f l) (sym rest)),
          )
      go false other-it up again e =
          let r = again e in
          (ap suc r.0, omega (arith, r.1, sum_by-cons f x xs, sum_by-cons f x (without tag xs)))
