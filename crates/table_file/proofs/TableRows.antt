-- The rows of a table that opens.
use Rattle.std.proofs.Common.{◌≡◌, ℕ, zero, suc, ◌+◌, ◌*◌, ◌/◌, ◌<◌, ◌≤◌, Bool, true, false, ltb, List, ◌∷◌, map, length, drop, Some, None, refl, sym, ap, ◌∙◌, arith}
use Rattle.std.specs.List.{slice_get, range_with_len}
use Rattle.std.proofs.lemmas.List.{length-drop, drop-drop, get_or-drop}
use Rattle.std.proofs.lemmas.List.FromFn.{length-map-range_with_len, get_or-map-range_with_len}
use Rattle.std.proofs.lemmas.Option.{slice_get_past, slice_get-get_or}
use Rattle.std.proofs.lemmas.Bool.Decides.{nat_tests}
use Rattle.table_file.specs.Tables.{table_fault, table_count, row_at, table_row, table_row_at, table_rows}
use Rattle.table_file.specs.Left.{first_rows, rows_in}

whole_length : (bs : List ℕ) → table_fault bs ≡ None → length bs ≡ 14 + 10 * table_count bs
whole_length bs f = grind (arith, nat_tests)

row_at_drop : (n : ℕ) (bs : List ℕ) → row_at (drop n bs) 0 ≡ row_at bs n
row_at_drop n bs = grind (arith, get_or-drop)

first_rows_behind : (k i : ℕ) (bs : List ℕ) → first_rows k (drop (14 + 10 * i) bs) ≡ map (table_row_at bs) (range_with_len i k)
first_rows_behind zero i bs = refl
first_rows_behind (suc k) i bs =
    let d : drop 10 (drop (14 + 10 * i) bs) ≡ drop (14 + 10 * (i + 1)) bs = drop-drop 10 (14 + 10 * i) bs ∙ ap (λ n. drop n bs) (omega arith) in
    ap (λ r. r ∷ first_rows k (drop 10 (drop (14 + 10 * i) bs))) (row_at_drop (14 + 10 * i) bs)
    ∙ ap (λ x. table_row_at bs i ∷ first_rows k x) d
    ∙ ap (λ rows. table_row_at bs i ∷ rows) (first_rows_behind k (i + 1) bs)

-- the bytes behind the header are the rows
pub rows_behind : (bs : List ℕ) → table_fault bs ≡ None → rows_in (drop 14 bs) ≡ table_rows bs
rows_behind bs f =
    let l = whole_length bs f in
    let k : length (drop 14 bs) / 10 ≡ table_count bs = simp length-drop (omega arith) in
    ap (λ n. first_rows n (drop 14 bs)) k ∙ first_rows_behind (table_count bs) 0 bs

pub rows_count : (bs : List ℕ) → length (table_rows bs) ≡ table_count bs
rows_count bs = length-map-range_with_len (table_row_at bs) 0 (table_count bs)

-- row i of the list is row i of the bytes
pub row_got : (bs : List ℕ) (i : ℕ) → table_fault bs ≡ None → slice_get (table_rows bs) i ≡ table_row bs i
row_got bs i f = by (ltb i (table_count bs)) refl
  where
    l : length bs ≡ 14 + 10 * table_count bs
    l = whole_length bs f

    by : (b : Bool) → ltb i (table_count bs) ≡ b → slice_get (table_rows bs) i ≡ table_row bs i
    by true e =
        let h : i < table_count bs = grind (arith, nat_tests) in
        let r = get_or-map-range_with_len (table_row_at bs) 0 (table_count bs) i i (table_row_at bs i) h (omega arith) in
        let t : table_row bs i ≡ Some (table_row_at bs i) = grind (arith, nat_tests) in
        slice_get-get_or (table_rows bs) i (table_row_at bs i) (omega (arith, rows_count bs)) ∙ ap Some r ∙ sym t
    by false e =
        let h : table_count bs ≤ i = grind (arith, nat_tests) in
        let t : table_row bs i ≡ None = grind (arith, nat_tests) in
        slice_get_past (table_rows bs) i (omega (arith, rows_count bs)) ∙ sym t
