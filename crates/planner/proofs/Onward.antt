-- A step takes rows, a line and a row of places that stand for the tokens to those that stand for the tokens after it.
use Rattle.std.proofs.Common.{◌≡◌, ℕ, ◌<◌, Bool, true, false, cond, ◌&&◌, eqb, List, ◌++◌, map, length, get_or, take, drop, count_by, sym, refl, ap, ◌∙◌, subst, arith}
use Rattle.std.specs.List.{range_with_len}
use Rattle.std.proofs.lemmas.List.{length-map, take-map, drop-map, get_or-map, ext_get_or}
use Rattle.std.proofs.lemmas.List.Sums.{sum_by-append, sum_by-take-drop}
use Rattle.std.proofs.lemmas.Bool.{and_right, ltb-true, lt-ltb}
use Rattle.rows.specs.declared.memory.Token.{Token}
use Rattle.rows.specs.Tests.{has}
use Rattle.rules.specs.Keys.{Key}
use Rattle.model.specs.Steps.{active, chosen, free, turn, moved, row_of}
use Rattle.model.specs.Members.{In}
use Rattle.model.proofs.Counts.{bit}
use Rattle.model.proofs.Stepping.{map_map, map_in}
use Rattle.planner.specs.Lining.{Kept, Lined, Alike, Places, Changed, no_token, at, those, seated, with_seat, everyone}
use Rattle.planner.proofs.Standing.{line_active, places_of}
use Rattle.planner.proofs.Tallies.{count_same, count_no, in_counting}
use Rattle.planner.proofs.Members.{has_in, in_drop, map_same, past_first}
use Rattle.planner.proofs.InLine.{lined_take, lined_drop, lined_same, sooner_same}
use Rattle.planner.proofs.Firsts.{active_first}
use Rattle.planner.proofs.After.{Stepped, in_rows, after_ran, after_rest, after_long, after_left, after_tag, after_active}
use Rattle.planner.proofs.Next.{row_ran, seated_ran, seated_rest}

-- where each that runs has a processor, nothing is left to give
pub all_seated : (m : ℕ) (rows : List Token) (run : List ℕ) → Places rows run → count_by (λ x. eqb x.processor 0) (those rows run) ≡ 0
    → Changed (with_seat m (those rows run)) run rows rows
all_seated m rows run ok none = (refl, λ i h. by i (has i run) refl)
  where
    by : (i : ℕ) (b : Bool) → has i run ≡ b → at rows i ≡ cond b (with_seat m (those rows run) (at rows i)) (at rows i)
    by i false e = refl
    by i true e =
        let r = at rows i in
        let on = count_no (λ x. eqb x.processor 0) (those rows run) none (map_in (at rows) run (has_in i run e)) in
        λ j. record { left = r.left; tag = r.tag; processor = cond (sym on j) (get_or (free m everyone (those rows run)) (turn everyone (those rows run) r) 0) r.processor }

module _ {m : ℕ} {key : Key} {span : ℕ} {ts rows : List Token} {line places : List ℕ} {d : ℕ} {mid after : List Token} (it : Stepped m key span ts rows line places d mid after) where
  abbrev run : List ℕ
  run = take m line

  abbrev next : List Token
  next = map (moved m (chosen m key span ts) ts d) ts

  abbrev picks : Token → Bool
  picks = chosen m key span ts

  abbrev go_on : ℕ → Token
  go_on i = moved m picks ts d (seated places (at rows i))

  -- the row of the segment
  pub row_next : row_of (those after run) ≡ row_of next
  row_next = ap row_of (map_same (at after) go_on run (after_ran it)) ∙ row_ran it

  -- those that ran are in line as they were
  run_lined : Lined (those after run)
  run_lined = lined_same (at rows) (at after) run
      (λ a b k l. sooner_same (at rows a) (at rows b) (at after a) (at after b) d (after_left it a k) (after_left it b l) (after_tag it a k) (after_tag it b l))
      (subst Lined (take-map (at rows) m line) (lined_take m (those rows line) it.was.lines.order))

  -- what is put in line again: those that ran and have time left, and those that waited
  pub ran_lined : (k : ℕ) → k ≡ count_by active (those mid run) → Lined (those after (take k run))
  ran_lined k k-is = subst Lined (take-map (at after) k run) (lined_take k (those after run) run_lined)

  -- one that is behind those that run is as it was
  waited : (i : ℕ) → In i (drop m line) → at after i ≡ at rows i
  waited i k =
      after_rest it i (in_rows it i (in_drop m line k))
      (past_first i m line ((places_of rows line it.was.lines).apart i) k)

  -- those that waited are in line as they were
  pub rest_lined : Lined (those after (drop m line))
  rest_lined = subst Lined (drop-map (at rows) m line ∙ map_same (at rows) (at after) (drop m line) (λ i k. sym (waited i k))) (lined_drop m (those rows line) it.was.lines.order)

  -- the new rows stand for the new tokens
  same_next : next ≡ map (seated (row_of (those after run))) after
  same_next = ext_get_or no_token next (map (seated (row_of (those after run))) after) (as_long ∙ sym (length-map after (seated (row_of (those after run)))))
      (λ i h. let low : i < length rows = omega (arith, as_long, after_long it) in
      ap (λ l. at l i) (ap (map (moved m picks ts d)) it.was.same ∙ map_map (moved m picks ts d) (seated places) rows)
      ∙ get_or-map (λ r. moved m picks ts d (seated places r)) rows i no_token no_token low
      ∙ sym (get_or-map (seated (row_of (those after run))) after i no_token no_token (omega (arith, after_long it)) ∙ ap (λ r. seated r (at after i)) row_next ∙ by_run i low (has i run) refl))
    where
      as_long : length next ≡ length after
      as_long = length-map ts (moved m picks ts d) ∙ ap length it.was.same ∙ length-map rows (seated places) ∙ sym (after_long it)

      by_run : (i : ℕ) → i < length rows → (b : Bool) → has i run ≡ b → seated (row_of next) (at after i) ≡ go_on i
      by_run i low true e = ap (seated (row_of next)) (after_ran it i (has_in i run e)) ∙ seated_ran it i (has_in i run e)
      by_run i low false e = ap (seated (row_of next)) (after_rest it i low e) ∙ seated_rest it i low e

  -- one that has time left had some before
  was_active : (i : ℕ) → i < length rows → active (at after i) ≡ true → active (at rows i) ≡ true
  was_active i h e = go (has i run) refl
    where
      go : (b : Bool) → has i run ≡ b → active (at rows i) ≡ true
      go true k =
          let fell = after_left it i (has_in i run k) in
          lt-ltb 0 (at rows i).left (omega (arith, ltb-true 0 (at after i).left e))
      go false k = ap active (sym (after_rest it i h k)) ∙ e

  -- and the new line for the active ones
  pub onward : (k : ℕ) (line' : List ℕ) → k ≡ count_by active (those mid run) → Alike (take k run ++ drop m line) line' → Lined (those after line')
      → Kept next after line' (row_of (those after run))
  onward k line' k-is same lined = record { same = same_next; row = row_next; lines = record { all = all; order = lined } }
    where
      stays : (q : ℕ → Bool) (i : ℕ) → i < length rows → (active (at after i) && q i) ≡ (active (at rows i) && (active (at after i) && q i))
      stays q i h = go (active (at after i)) refl
        where
          go : (b : Bool) → active (at after i) ≡ b → (b && q i) ≡ (active (at rows i) && (b && q i))
          go true e = ap (λ a. a && q i) (sym (was_active i h e))
          go false e = sym (and_right (active (at rows i)) false refl)

      front : (q : ℕ → Bool) → count_by (λ i. active (at after i) && q i) run ≡ count_by q (take k run)
      front q =
          active_first (at after) run q run_lined
          ∙ ap (λ n. count_by q (take n run)) (sym (k-is ∙ after_active it))

      back : (q : ℕ → Bool) → count_by (λ i. active (at after i) && q i) (drop m line) ≡ count_by q (drop m line)
      back q = count_same (λ i. active (at after i) && q i) q (drop m line)
          (λ i j. ap (λ a. a && q i) (ap active (waited i j) ∙ line_active rows line it.was.lines i (in_drop m line j)))

      all : (q : ℕ → Bool) → count_by q line' ≡ count_by (λ i. active (at after i) && q i) (range_with_len 0 (length after))
      all q =
          let joined = sum_by-append (λ i. bit (q i)) (take k run) (drop m line) in
          let split = sum_by-take-drop (λ i. bit (active (at after i) && q i)) line m in
          let whole = it.was.lines.all (λ i. active (at after i) && q i) in
          let before = count_same (λ i. active (at after i) && q i) (λ i. active (at rows i) && (active (at after i) && q i)) (range_with_len 0 (length rows))
          (λ i j. stays q i (omega (arith, in_counting i 0 (length rows) j))) in
          let as_many = ap (λ n. count_by (λ i. active (at after i) && q i) (range_with_len 0 n)) (after_long it) in
          omega (arith, same q, front q, back q)
