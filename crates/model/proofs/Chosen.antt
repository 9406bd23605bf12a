-- Choosing by a lawful key: the first m active tokens in the order of key and tag.
use Rattle.std.proofs.Common.{◌≡◌, ℕ, ◌^◌, ◌<◌, ◌≤◌, Bool, true, false, ◌&&◌, ◌⊎◌, List, count_by, inl, inr, ⊎_elim, le_of_mul-le-mul_right, arith}
use Rattle.std.proofs.lemmas.Bool.{and_parts, and_right, ltb-true, eq-eqb, cases_lt}
use Rattle.std.proofs.lemmas.Bool.Decides.{nat_tests}
use Rattle.rows.specs.declared.memory.Token.{Token}
use Rattle.rules.specs.Keys.{Key, Lawful}
use Rattle.model.specs.Steps.{key_of, before, active, chosen}
use Rattle.model.specs.Members.{In}
use Rattle.model.proofs.Counts.{count_lt}
use Rattle.model.proofs.Ranks
use Rattle.model.proofs.Ranks.{filled}
use Rattle.model.proofs.Order.{same, ordered, tops, top, irrefl}
use Rattle.model.proofs.Bounds.{Sound, Choice}

module _ (m : ℕ) (key : Key) (span : ℕ) (ts : List Token) (ok : Sound m span ts) where
  abbrev picks : Token → Bool
  picks = chosen m key span ts

  pub at_most_m : count_by picks ts ≤ m
  at_most_m = Ranks.few active (before key span) ts m same (ordered key span m ts ok.tagged)

  -- m are chosen, or every active one
  all_or_m : (m ≤ count_by picks ts) ⊎ ((x : Token) → In x ts → picks x ≡ false → x.left ≡ 0)
  all_or_m = ⊎_elim
      (λ h. inr (λ x i p. let f = filled active (before key span) ts m same (ordered key span m ts ok.tagged) x i in grind (arith, nat_tests)))
      inl (cases_lt (count_by picks ts) m)

-- Under a lawful key each token on the ceiling is chosen.
module _ (m : ℕ) (key : Key) (law : Lawful key) (span : ℕ) (ts : List Token) (ok : Sound m span ts) (some : 0 < span) (short : span ≤ 2 ^ 54) where
  abbrev choice : Token → Bool
  choice = chosen m key span ts

  abbrev of : Token → ℕ
  of x = key_of key span x

  pub ceiling_chosen : (x : Token) → In x ts → x.left ≡ span → choice x ≡ true
  ceiling_chosen x i e = grind (arith, nat_tests, fewer, most)
    where
      up : (y : Token) → In y ts → (active y && before key span y x) ≡ true → top key span y ≡ true
      up y j h =
          let l = law span y.left x.processor y.processor x.tag y.tag some short in
          grind (arith, nat_tests, ok.low y j, ok.on x i, ok.on y j, ok.few, ok.short_tags x i, ok.short_tags y j)

      fewer : count_by (λ y. active y && before key span y x) ts < count_by (top key span) ts
      fewer = count_lt (λ y. active y && before key span y x) (top key span) ts up i (and_right _ _ (irrefl key span x)) (eq-eqb x.left span e)

      most : count_by (top key span) ts ≤ m
      most = le_of_mul-le-mul_right (omega (arith, tops key span ts, ok.sum)) some

  pub fair : Choice m span ts choice
  fair = record {
    most = at_most_m m key span ts ok;
    full = all_or_m m key span ts ok;
    only_active = λ x i p. ltb-true 0 x.left (and_parts (active x) _ p).0;
    ceiling = ceiling_chosen;
  }
