-- A step of a line: what its parts need, and what they come to.
use Rattle.std.proofs.Common.{◌≡◌, ℕ, ◌-◌, ◌^◌, ◌<◌, ◌≤◌, min, Bool, eqb, List, ◌++◌, map, length, take, drop, count_by, sym, ap, ◌∙◌, subst, arith}
use mathlib.Core.Path.{transport}
use Rattle.std.proofs.ByRecursion.{All-take}
use Rattle.std.proofs.lemmas.List.{take-take, take_min, drop_min, length-map, length-take, length-take-le}
use Rattle.std.proofs.lemmas.List.Sums.{count_by-le-length, sum_by-take-drop}
use Rattle.model.proofs.Counts.{bit}
use Rattle.rows.specs.declared.memory.Token.{Token}
use Rattle.rules.specs.Keys.{Key, Lawful, ByLeft, largest_first}
use Rattle.model.specs.Steps.{active, chosen, distance, moved, event, row_of, step}
use Rattle.model.proofs.Bounds.{Reach, reach}
use Rattle.model.proofs.Largest.{lawful}
use Rattle.planner.specs.Runs.{Ready}
use Rattle.planner.specs.Looking.{least_left, most_left, nearest_kind}
use Rattle.planner.specs.Lining.{Lined, Alike, Places, Changed, at, those, seated, settled, with_seat, least_in, most_in, Ran, Kept, Strides}
use Rattle.planner.proofs.Chooses.{far_is, most_low, nearest_is}
use Rattle.planner.proofs.Nearest.{least_is, most_is}
use Rattle.planner.proofs.After.{Stepped}
use Rattle.planner.proofs.Onward.{row_next, ran_lined, rest_lined, onward}
use Rattle.planner.proofs.RunOn.{same_places}
use Rattle.planner.proofs.Standing.{places_of}

pub by_largest : ByLeft largest_first
by_largest span left left' p p' tag tag' short low low' on on' t t' = (λ h. omega arith, λ e. ap (λ k. 2 ^ 54 - k) e)

-- the first of a line, from a copy of its first r places
pub copy_front : (line copy : List ℕ) (r left : ℕ) → take (length (take r line)) copy ≡ take r line → r ≤ length line → left ≤ r → take left copy ≡ take left line
copy_front line copy r left same within few =
    let whole : take r copy ≡ take r line = ap (λ k. take k copy) (sym (length-take-le r line within)) ∙ same in
    sym (take-take left r copy few) ∙ ap (take left) whole ∙ take-take left r line few

pub copy_long : (line copy : List ℕ) (r left : ℕ) → take left copy ≡ take left line → r ≤ length line → left ≤ r → length (take left copy) ≡ left
copy_long line copy r left is within few = ap length is ∙ length-take-le left line (omega arith)

-- the first places of a line are places
pub front_places : (rows : List Token) (r : ℕ) (line : List ℕ) → Places rows line → Places rows (take r line)
front_places rows r line ok = record {
  inside = All-take (λ i. i < length rows) r line ok.inside;
  apart = λ i. omega (arith, sum_by-take-drop (λ j. bit (eqb j i)) line r, ok.apart i);
}

pub most_fits : {m span : ℕ} {rows : List Token} {line places : List ℕ} {r : ℕ} → Ready m span (map (seated places) rows) → Kept (map (seated places) rows) rows line places → r ≡ min m (length line) → most_in rows line r ≤ span
most_fits ready is r-is = most_low largest_first lawful ready (least_is largest_first by_largest ready is r-is) (most_is largest_first by_largest ready is r-is)

-- The first r places of a line have run for d units, to the next event.
pub record Went (m span : ℕ) (rows : List Token) (line places : List ℕ) (r d left : ℕ) (after : List Token) (next : List ℕ) : Type 0 where
  pub ready : Ready m span (map (seated places) rows)
  pub was : Kept (map (seated places) rows) rows line places
  pub running : r ≡ min m (length line)
  pub units : d ≡ min (least_in rows line r span) (span - most_in rows line r)
  pub ran : Ran m d rows (take r line) places after next left

module _ {m span : ℕ} {rows : List Token} {line places : List ℕ} {r d left : ℕ} {after : List Token} {next : List ℕ} (it : Went m span rows line places r d left after next) where
  abbrev now : List Token
  now = map (seated places) rows

  run_is : take r line ≡ take m line
  run_is = ap (λ k. take k line) it.running ∙ take_min m line

  rest_is : drop r line ≡ drop m line
  rest_is = ap (λ k. drop k line) it.running ∙ drop_min m line

  settles : Changed (settled places d) (take m line) rows it.ran.mid
  settles = subst (λ run. Changed (settled places d) run rows it.ran.mid) run_is it.ran.settles

  seats : Changed (with_seat m (those it.ran.mid (take m line))) (take m line) it.ran.mid after
  seats = subst (λ run. Changed (with_seat m (those it.ran.mid run)) run it.ran.mid after) run_is it.ran.seats

  left_is : left ≡ count_by active (those it.ran.mid (take m line))
  left_is = it.ran.left_is ∙ ap (λ run. count_by active (those it.ran.mid run)) run_is

  pub few_left : left ≤ r
  few_left = omega (arith, it.ran.left_is, count_by-le-length active (those it.ran.mid (take r line)), length-map (take r line) (at it.ran.mid), length-take r line)

  pub after_places : Places after line
  after_places = same_places (with_seat m (those it.ran.mid (take m line))) (take m line) it.ran.mid after seats line
      (same_places (settled places d) (take m line) rows it.ran.mid settles line (places_of rows line it.was.lines))

  kept_front : take left (take m line) ≡ take left line
  kept_front = ap (take left) (sym run_is) ∙ take-take left r line few_left

  module _ (key : Key) (law : Lawful key) (by : ByLeft key) where
    abbrev picks : Token → Bool
    picks = chosen m key span now

    least_now : least_in rows line r span ≡ least_left picks span now
    least_now = least_is key by it.ready it.was it.running

    most_now : most_in rows line r ≡ most_left picks now
    most_now = most_is key by it.ready it.was it.running

    far : d ≡ distance picks span now
    far = it.units ∙ far_is key law it.ready least_now most_now

    to : Reach span now picks d
    to = subst (Reach span now picks) (sym far) (reach picks span now)

    whole : Stepped m key span now rows line places d it.ran.mid after
    whole = record { law = law; by = by; ready = it.ready; was = it.was; to = to; settles = settles; seats = seats }

    pub front_lined : Lined (those after (take left line))
    front_lined = subst (λ l. Lined (those after l)) kept_front (ran_lined whole left left_is)

    pub back_lined : Lined (those after (drop r line))
    back_lined = subst (λ l. Lined (those after l)) (sym rest_is) (rest_lined whole)

    pub strides : (k : ℕ) (line' : List ℕ) → k ≡ nearest_kind (least_in rows line r span) (most_in rows line r) span
        → Alike (take left line ++ drop r line) line' → Lined (those after line') → Strides m key span now after line' next d k
    strides k line' k-is same lined =
        let row : next ≡ row_of (those after (take m line)) = it.ran.next_is ∙ ap (λ run. row_of (those after run)) run_is in
        let kind : k ≡ event picks d (span - d) now =
        k-is ∙ nearest_is key law it.ready least_now most_now
        ∙ ap (λ n. event picks n (span - n) now) (sym far) in
        let tokens : map (moved m picks now d) now ≡ (step m key span now).tokens = ap (λ n. map (moved m picks now n) now) far in
        let like : Alike (take left (take m line) ++ drop m line) line' = subst (λ l. Alike l line') (λ j. sym kept_front j ++ rest_is j) same in
        let kept : Kept (map (moved m picks now d) now) after line' (row_of (those after (take m line))) =
        onward whole left line' left_is like lined in
        record {
          segment = λ j. record {
            units = far j;
            kind = (kind ∙ ap (λ n. event picks n (span - n) now) far) j;
            row = (row ∙ row_next whole ∙ ap row_of tokens) j;
          };
          kept = transport (λ j. Kept (tokens j) after line' (sym row j)) kept;
        }
