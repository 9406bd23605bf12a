-- The course of a finish: steps made so far, and their records.
use Rattle.std.proofs.Common.{◌≡◌, ℕ, zero, suc, ◌+◌, ◌-◌, ◌*◌, ◌<◌, ◌≤◌, cond, List, [], ◌∷◌, ◌++◌, length, take, drop, None, Ok, Result, sym, refl, ap, ◌∙◌, subst, mul-le-mul_right, arith, ne_eqb}
use mathlib.Core.Path.{transport}
use Rattle.std.proofs.lemmas.List.{append_assoc, append-nil, length-append, take_at, drop_at, drop-drop, length-drop}
use Rattle.std.proofs.lemmas.Bool.Decides.{nat_tests}
use Rattle.rows.specs.declared.memory.Token.{Token}
use Rattle.rows.specs.declared.refusal.Refusal.{Refusal}
use Rattle.plan_file.specs.Faults.{answered}
use Rattle.rules.specs.Keys.{Key, Lawful}
use Rattle.plan_file.specs.Records.{Segment, record_size, record_bytes, records_bytes}
use Rattle.plan_file.specs.Writing.{write_fault}
use Rattle.model.specs.Steps.{step}
use Rattle.model.specs.Planes.{steps}
use Rattle.model.proofs.Finishes.{Going, first, step_going}
use Rattle.model.proofs.Readback.{length_record}
use Rattle.model.proofs.Segments.{Good, step_good}
use Rattle.planner.specs.Runs.{Finishes, RunsOut}
use Rattle.planner.specs.Segments.{written}

abbrev Done : Type 0
Done = List Segment × ℕ × List Token

-- segments before what more steps give
abbrev pub behind : List Segment → Done → Done
behind ss more = (ss ++ more.0, more.1, more.2)

one_more : (left m : ℕ) (key : Key) (span : ℕ) (ts : List Token) → 0 < span
    → steps (suc left) m key span ts ≡ behind ((step m key span ts).segment ∷ []) (steps left m key (step m key span ts).span (step m key span ts).tokens)
one_more left m key span ts some =
    let s = step m key span ts in
    let more = steps left m key s.span s.tokens in
    ap (λ b. cond {A = Done} b ([], span, ts) (s.segment ∷ more.0, more.1, more.2)) (ne_eqb span 0 (λ e. omega arith))

none_more : (left m : ℕ) (key : Key) (ts : List Token) → steps left m key 0 ts ≡ ([], 0, ts)
none_more zero m key ts = refl
none_more (suc left) m key ts = refl

records_push : (m : ℕ) (ss : List Segment) (s : Segment) → records_bytes m (ss ++ s ∷ []) ≡ records_bytes m ss ++ record_bytes m s
records_push m [] s = append-nil (record_bytes m s)
records_push m (t ∷ ss) s = ap (λ l. record_bytes m t ++ l) (records_push m ss s) ∙ sym (append_assoc (record_bytes m t) (records_bytes m ss) (record_bytes m s))

behind_none : (more : Done) → more ≡ behind [] more
behind_none more = refl

behind_push : (made : List Segment) (s : Segment) (more : Done) → behind made (behind (s ∷ []) more) ≡ behind (made ++ s ∷ []) more
behind_push made s more = ap (λ l. (l, more.1, more.2)) (sym (append_assoc made (s ∷ []) more.0))

-- a record that has nothing wrong in it can be written where there is room
pub fault_free : (m : ℕ) (s : Segment) (room : ℕ) → write_fault m s (record_size m) ≡ None → record_size m ≤ room → write_fault m s room ≡ None
fault_free m s room f h = grind (arith, nat_tests)

-- one more record behind those that are written
more_text : (m : ℕ) (made : List Segment) (s : Segment) (buffer plan : List ℕ) (at : ℕ) → at ≡ length (records_bytes m made)
    → length (record_bytes m s) ≡ record_size m → plan ≡ written m made buffer
    → (take at plan ++ record_bytes m s) ++ drop (at + record_size m) plan ≡ written m (made ++ s ∷ []) buffer
more_text m made s buffer plan at at-is long is =
    let front = records_bytes m made in
    let one = record_bytes m s in
    let tail = drop (length front) buffer in
    let text : records_bytes m (made ++ s ∷ []) ≡ front ++ one = records_push m made s in
    let size : length (records_bytes m (made ++ s ∷ [])) ≡ at + record_size m = ap length text ∙ length-append front one ∙ omega (arith, at-is, long) in
    let before : take at plan ≡ front = ap (take at) is ∙ take_at front tail at (sym at-is) in
    let behind-it : drop (at + record_size m) plan ≡ drop (at + record_size m) buffer =
    ap (drop (at + record_size m)) is ∙ ap (λ k. drop k (front ++ tail)) (ap (λ k. k + record_size m) at-is)
    ∙ skip front tail (record_size m) ∙ drop-drop (record_size m) (length front) buffer ∙ ap (λ k. drop (k + record_size m) buffer) (sym at-is) in
    (λ j. (before j ++ one) ++ behind-it j) ∙ (λ j. sym text j ++ drop (sym size j) buffer)
  where
    skip : (xs ys : List ℕ) (k : ℕ) → drop (length xs + k) (xs ++ ys) ≡ drop k ys
    skip xs ys k = sym (drop-drop k (length xs) (xs ++ ys)) ∙ ap (drop k) (drop_at xs ys (length xs) refl)

-- writing changes no length
length_written : (m : ℕ) (ss : List Segment) (buffer : List ℕ) → length (records_bytes m ss) ≤ length buffer → length (written m ss buffer) ≡ length buffer
length_written m ss buffer h = length-append (records_bytes m ss) (drop (length (records_bytes m ss)) buffer) ∙ omega (arith, length-drop (length (records_bytes m ss)) buffer)

module _ (m : ℕ) (key : Key) (law : Lawful key) (span : ℕ) (ts : List Token) (buffer : List ℕ) where
  pub record Course (left : ℕ) (rows : List Token) (plan : List ℕ) (count at : ℕ) : Type 0 where
    pub made : List Segment
    pub going : Going m (length ts) left rows (length made)
    pub rest : steps (length ts + 1) m key span ts ≡ behind made (steps (length ts + 1 - length made) m key left rows)
    pub sized : length (records_bytes m made) ≡ length made * record_size m
    pub text : plan ≡ written m made buffer
    pub counted : count ≡ length made
    pub placed : at ≡ length (records_bytes m made)

module _ {m : ℕ} {key : Key} {law : Lawful key} {span : ℕ} {ts : List Token} {buffer : List ℕ} where
  pub course_is : {left left' : ℕ} {rows rows' : List Token} {plan : List ℕ} {count at at' : ℕ} → left' ≡ left → rows' ≡ rows → at' ≡ at
      → Course m key law span ts buffer left rows plan count at → Course m key law span ts buffer left' rows' plan count at'
  course_is {plan} {count} a b c h = transport (λ j. Course m key law span ts buffer (sym a j) (sym b j) plan count (sym c j)) h

  -- nothing is left: all steps are made
  pub runs_out : {left : ℕ} {rows after : List Token} {plan : List ℕ} {count at : ℕ} → left ≤ 0 → after ≡ rows → Course m key law span ts buffer left rows plan count at
      → RunsOut m key span ts buffer after plan (record { steps = count; bytes = at })
  runs_out {left} {rows} {after} {plan} {count} {at} over same now =
      let none : 0 ≡ left = omega arith in
      let was : Course m key law span ts buffer 0 rows plan count at = course_is none refl refl now in
      let ss = was.made in
      let all : steps (length ts + 1) m key span ts ≡ (ss, 0, rows) =
      was.rest ∙ ap (behind ss) (none_more (length ts + 1 - length ss) m key rows) ∙ ap (λ l. (l, 0, rows)) (append-nil ss) in
      record {
        rows = same ∙ ap (λ (d : Done). d.2) (sym all);
        plan_is = was.text ∙ ap (λ (d : Done). written m d.0 buffer) (sym all);
        steps_are = was.counted ∙ ap (λ (d : Done). length d.0) (sym all);
        bytes_are = was.placed ∙ ap (λ (d : Done). length (records_bytes m d.0)) (sym all);
      }

  module _ (fits : Finishes m span ts buffer) where
    pub course_none : Course m key law span ts buffer span ts buffer 0 0
    course_none =
        let all : length ts + 1 ≡ length ts + 1 - 0 = omega arith in
        record {
          made = [];
          going = first m (length ts) span ts refl fits.sound fits.short key law;
          rest = ap (λ k. steps k m key span ts) all ∙ behind_none (steps (length ts + 1 - 0) m key span ts);
          sized = omega arith;
          text = refl;
          counted = refl;
          placed = refl;
        }

    module _ {left : ℕ} {rows : List Token} {plan : List ℕ} {count at : ℕ} (some : 0 < left) (was : Course m key law span ts buffer left rows plan count at) where
      abbrev s : Segment
      s = (step m key left rows).segment

      good : Good m s
      good = step_good m key law left rows was.going.sound some was.going.short

      going_on : length was.made ≤ length ts
      going_on = omega (arith, was.going.slow.going some)

      enough : (length was.made + 1) * record_size m ≤ length buffer
      enough = omega (arith, fits.room, mul-le-mul_right {m = length was.made + 1} {n = length ts + 1} (record_size m) (omega (arith, going_on)))

      long : length plan ≡ length buffer
      long = ap length was.text ∙ length_written m was.made buffer (omega (arith, was.sized, enough))

      pub room : at + record_size m ≤ length plan
      room = omega (arith, long, enough, was.sized, was.placed)

      pub writes : write_fault m s (length plan - at) ≡ None
      writes = fault_free m s (length plan - at) good.fits.faultless (omega (arith, room))

      -- so the writer answers where the next record goes
      pub appended : {seg : Segment} {r : Result ℕ Refusal} → seg ≡ s → r ≡ answered (write_fault m seg (length plan - at)) (at + record_size m) → r ≡ Ok (at + record_size m)
      appended same told = told ∙ ap (λ x. answered (write_fault m x (length plan - at)) (at + record_size m)) same ∙ ap (λ f. answered f (at + record_size m)) writes

      pub falls : 0 < s.units
      falls = good.long

      pub more : (plan' : List ℕ) → plan' ≡ (take at plan ++ record_bytes m s) ++ drop (at + record_size m) plan
          → Course m key law span ts buffer (step m key left rows).span (step m key left rows).tokens plan' (count + 1) (at + record_size m)
      more plan' wrote =
          let made = was.made in
          let next = steps (length ts - length made) m key (step m key left rows).span (step m key left rows).tokens in
          let size = length_record m s good.fits in
          let one-longer : length (made ++ s ∷ []) ≡ length made + 1 = length-append made (s ∷ []) in
          let bytes : length (records_bytes m (made ++ s ∷ [])) ≡ length (records_bytes m made) + record_size m =
          ap length (records_push m made s) ∙ length-append (records_bytes m made) (record_bytes m s) ∙ ap (λ k. length (records_bytes m made) + k) size in
          let fuel : length ts + 1 - length made ≡ suc (length ts - length made) = omega (arith, going_on) in
          let left_over : length ts - length made ≡ length ts + 1 - length (made ++ s ∷ []) = omega (arith, one-longer) in
          let count-is : suc (length made) ≡ length (made ++ s ∷ []) = omega (arith, one-longer) in
          record {
            made = made ++ s ∷ [];
            going = subst (Going m (length ts) (step m key left rows).span (step m key left rows).tokens) count-is (step_going m key law (length ts) left rows (length made) some was.going);
            rest = was.rest ∙ ap (λ k. behind made (steps k m key left rows)) fuel ∙ ap (behind made) (one_more (length ts - length made) m key left rows some)
                ∙ behind_push made s next
                ∙ ap (λ k. behind (made ++ s ∷ []) (steps k m key (step m key left rows).span (step m key left rows).tokens)) left_over;
            sized = bytes ∙ omega (arith, was.sized, ap (λ k. k * record_size m) one-longer);
            text = wrote ∙ more_text m made s buffer plan at was.placed size was.text;
            counted = ap (λ k. k + 1) was.counted ∙ sym one-longer;
            placed = ap (λ k. k + record_size m) was.placed ∙ sym bytes;
          }
