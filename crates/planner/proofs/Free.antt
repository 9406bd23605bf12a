-- The numbers counted from 1 that pass a test, filled into a list of 16.
use Rattle.std.proofs.Common.{◌≡◌, ℕ, zero, suc, ◌+◌, ◌-◌, ◌<◌, ◌≤◌, Bool, true, false, cond, List, [], ◌∷◌, ◌++◌, length, get_or, set, replicate, filter, sym, refl, ap, ◌∙◌, ⊎_elim, arith}
use Rattle.std.specs.List.{range_with_len}
use Rattle.std.proofs.lemmas.List.Elements.{filter-append}
use Rattle.std.proofs.lemmas.List.{append-nil, append_assoc, length-append, length-replicate, set_at, get_or_append_left, get_or-append_right, get_or_past, get_or-replicate}
use Rattle.std.proofs.lemmas.Bool.{cases_lt}

counting_more : (a n : ℕ) → range_with_len a (suc n) ≡ range_with_len a n ++ (a + n) ∷ []
counting_more a zero = ap (λ k. k ∷ []) (omega arith)
counting_more a (suc n) = ap (λ l. a ∷ l) (counting_more (a + 1) n ∙ ap (λ k. range_with_len (a + 1) n ++ k ∷ []) (omega arith))

module _ (test : ℕ → Bool) where
  abbrev passed : ℕ → List ℕ
  passed i = filter test (range_with_len 1 i)

  passed_more : (i : ℕ) → passed (i + 1) ≡ passed i ++ cond (test (i + 1)) ((i + 1) ∷ []) []
  passed_more i =
      let j : i + 1 ≡ suc i = omega arith in
      let k : 1 + i ≡ i + 1 = omega arith in
      ap passed j ∙ ap (filter test) (counting_more 1 i ∙ ap (λ n. range_with_len 1 i ++ n ∷ []) k) ∙ filter-append test (range_with_len 1 i) ((i + 1) ∷ [])

  -- the first `count` places hold those up to i that pass, the others 0
  pub record Filled (i : ℕ) (free : List ℕ) (count : ℕ) : Type 0 where
    pub is : free ≡ passed i ++ replicate (16 - count) 0
    pub long : length (passed i) ≡ count
    pub few : count ≤ i

  pub filled_more : (i count : ℕ) (free : List ℕ) → i < 16 → test (i + 1) ≡ true → Filled i free count → Filled (i + 1) (set free count (i + 1)) (count + 1)
  filled_more i count free low pass f =
      let more : passed (i + 1) ≡ passed i ++ (i + 1) ∷ [] = passed_more i ∙ ap (λ b. passed i ++ cond b ((i + 1) ∷ []) []) pass in
      let k : 16 - count ≡ suc (16 - (count + 1)) = omega (arith, f.few) in
      let r : replicate {A = ℕ} (16 - count) 0 ≡ 0 ∷ replicate (16 - (count + 1)) 0 = ap (λ n. replicate {A = ℕ} n 0) k in
      record {
        is = ap (λ l. set l count (i + 1)) (f.is ∙ ap (λ l. passed i ++ l) r)
            ∙ set_at (passed i) 0 (replicate (16 - (count + 1)) 0) (i + 1) count f.long
            ∙ sym (append_assoc (passed i) ((i + 1) ∷ []) (replicate (16 - (count + 1)) 0))
            ∙ ap (λ l. l ++ replicate (16 - (count + 1)) 0) (sym more);
        long = ap length more ∙ length-append (passed i) ((i + 1) ∷ []) ∙ ap (λ n. n + 1) f.long;
        few = omega (arith, f.few);
      }

  pub filled_same : (i count : ℕ) (free : List ℕ) → test (i + 1) ≡ false → Filled i free count → Filled (i + 1) free count
  filled_same i count free pass f =
      let same : passed (i + 1) ≡ passed i = passed_more i ∙ ap (λ b. passed i ++ cond b ((i + 1) ∷ []) []) pass ∙ append-nil (passed i) in
      record { is = f.is ∙ ap (λ l. l ++ replicate (16 - count) 0) (sym same); long = ap length same ∙ f.long; few = omega (arith, f.few) }

  pub filled_at : (i count : ℕ) (free : List ℕ) → Filled i free count → (k : ℕ) → get_or free k 0 ≡ get_or (passed i) k 0
  filled_at i count free f k =
      let zeros = replicate {A = ℕ} (16 - count) 0 in
      ap (λ l. get_or l k 0) f.is ∙ ⊎_elim
      (λ l. get_or_append_left (passed i) zeros 0 k l)
      (λ g. get_or-append_right (passed i) zeros (length (passed i)) k 0 refl g
      ∙ ⊎_elim (λ l. get_or-replicate (16 - count) (k - length (passed i)) 0 0 l) (λ p. get_or_past zeros (k - length (passed i)) 0 (omega (arith, length-replicate {A = ℕ} (16 - count) 0))) (cases_lt (k - length (passed i)) (16 - count))
      ∙ sym (get_or_past (passed i) k 0 g))
      (cases_lt k (length (passed i)))
