-- The course of a finish whose tokens stay in line.
use Rattle.std.proofs.Common.{◌≡◌, ℕ, ◌+◌, ◌-◌, ◌<◌, ◌≤◌, Bool, true, false, cond, not, ◌||◌, eqb, List, [], ◌∷◌, ◌++◌, map, length, get_or, take, drop, sym, refl, ap, ◌∙◌, inl, inr, arith, eq-eqb, ne_eqb, le-leb}
use mathlib.Core.Path.{transport}
use borrow.Rule.Slice.PartMut.{put_mid}
use Rattle.std.proofs.lemmas.List.{map-id, drop-drop, length-append, length-drop, length-take-le}
use Rattle.std.proofs.lemmas.Bool.{and_parts, and_from, lt-ltb, cases_eq}
use Rattle.rows.specs.declared.memory.Token.{Token}
use Rattle.rows.specs.Tests.{has, distinct}
use Rattle.rules.specs.Keys.{Key, Lawful}
use Rattle.plan_file.specs.Bytes.{be64}
use Rattle.plan_file.specs.Records.{Segment, record_size, record_bytes, tag_bytes}
use Rattle.plan_file.proofs.Lent.{lent_written}
use Rattle.model.specs.Steps.{row_of, step}
use Rattle.model.specs.Members.{In, here, there}
use Rattle.model.proofs.Bounds.{Sound}
use Rattle.model.proofs.Order.{same_token}
use Rattle.model.proofs.Runners.{row_at}
use Rattle.model.proofs.Stepping.{Unshared, map_in}
use Rattle.planner.specs.Runs.{Finishes}
use Rattle.planner.specs.Lining.{Kept, Lines, Strides, holds, seated}
use Rattle.planner.proofs.Seats.{row_length}
use Rattle.planner.proofs.Courses.{Course, course_is, course_none, falls, more}
use Rattle.planner.proofs.Writes.{lent_part}
use Rattle.planner.proofs.Members.{in_has, map_same}

-- what stands twice is none
twice : (x : Token) (xs : List Token) (v : Token) → In v xs → distinct (map (λ t. t.processor) (x ∷ xs)) ≡ true → x.processor ≡ v.processor → (x.processor ≡ 0 → ⊥) → ⊥
twice x xs v j h e z =
    let again : has x.processor (map (λ t. t.processor) xs) ≡ true =
    ap (λ p. has p (map (λ (t : Token). t.processor) xs)) e ∙ in_has v.processor (map (λ t. t.processor) xs) (map_in (λ t. t.processor) xs j) in
    let off : eqb x.processor 0 ≡ false = ne_eqb x.processor 0 z in
    let both : (false || not true) ≡ true =
    sym (λ i. off i || not (again i)) ∙ (and_parts (eqb x.processor 0 || not (has x.processor (map (λ t. t.processor) xs))) (distinct (map (λ t. t.processor) xs)) h).0 in
    let never : ◌≡◌ {A = ℕ} 0 1 = cc in
    omega arith

-- no two share a processor where none stands twice
own_of : (us : List Token) → distinct (map (λ t. t.processor) us) ≡ true → Unshared us
own_of [] h u v i j e z = elim i [ ]
own_of (x ∷ xs) h u v here here e z = refl
own_of (x ∷ xs) h u v here (there j) e z = absurd (twice x xs v j h e z)
own_of (x ∷ xs) h u v (there i) here e z = absurd (twice x xs u i h (sym e) (λ q. z (e ∙ q)))
own_of (x ∷ xs) h u v (there i) (there j) e z =
    own_of xs (and_parts (eqb x.processor 0 || not (has x.processor (map (λ t. t.processor) xs))) (distinct (map (λ t. t.processor) xs)) h).1 u v i j e z

none_either : (b : Bool) (p : ℕ) → p ≡ 0 → cond b p 0 ≡ p
none_either true p z = refl
none_either false p z = sym z

-- at first every token has its processor
pub seated_first : (m span : ℕ) (ts : List Token) → Sound m span ts → map (seated (row_of ts)) ts ≡ ts
seated_first m span ts ok = map_same (seated (row_of ts)) (λ x. x) ts stays ∙ map-id ts
  where
    single : (u v : Token) → In u ts → In v ts → u.tag ≡ v.tag → u.processor ≡ v.processor
    single u v i j e = ap (λ (x : Token). x.processor) (same_token 0 ts ok.tagged u v i j e)

    stays : (x : Token) → In x ts → seated (row_of ts) x ≡ x
    stays x i = elim (cases_eq x.processor 0) [
      | inl z ↦ λ j. record { left = x.left; tag = x.tag; processor = none_either (holds (row_of ts) x) x.processor z j }
      | inr z ↦
          let some : 1 ≤ x.processor = omega arith in
          let few : x.processor ≤ 16 = omega (arith, ok.on x i, ok.few) in
          let holding : holds (row_of ts) x ≡ true =
          and_from _ _ (lt-ltb 0 x.processor some) (and_from _ _ (le-leb x.processor 16 few)
          (eq-eqb (get_or (row_of ts) (x.processor - 1) 0) x.tag (row_at ts (own_of ts ok.own) single x i some few))) in
          λ j. record { left = x.left; tag = x.tag; processor = cond (holding j) x.processor 0 }
    ]

put_long : (xs ys : List ℕ) (n : ℕ) → n ≤ length xs → length ys ≡ length xs - n → length (put_mid n (length xs - n) xs ys) ≡ length xs
put_long xs ys n h e = simp (length-append, length-drop) (omega (arith, length-take-le n xs h))

module _ (m : ℕ) (key : Key) (law : Lawful key) (span : ℕ) (ts : List Token) (buffer : List ℕ) where
  pub record Racing (left : ℕ) (rows : List Token) (line : List ℕ) (first : ℕ) (places plan : List ℕ) (count at : ℕ) : Type 0 where
    pub course : Course m key law span ts buffer left (map (seated places) rows) plan count at
    pub kept : Kept (map (seated places) rows) rows (drop first line) places
    pub inside : first ≤ length line

module _ {m : ℕ} {key : Key} {law : Lawful key} {span : ℕ} {ts : List Token} {buffer : List ℕ} (fits : Finishes m span ts buffer) where
  pub racing_none : {line : List ℕ} {first : ℕ} {places : List ℕ} → first ≤ length line → Lines ts (drop first line) → places ≡ row_of ts
      → Racing m key law span ts buffer span ts line first places buffer 0 0
  racing_none {places} inside lines is =
      let same : map (seated places) ts ≡ ts = ap (λ p. map (seated p) ts) is ∙ seated_first m span ts fits.sound in
      record {
        course = course_is refl same refl (course_none fits);
        kept = record { same = refl; row = is ∙ ap row_of (sym same); lines = lines };
        inside = inside;
      }

  module _ {left : ℕ} {rows : List Token} {line : List ℕ} {first : ℕ} {places plan : List ℕ} {count at : ℕ} (some : 0 < left) (was : Racing m key law span ts buffer left rows line first places plan count at)
      {after : List Token} {next : List ℕ} {units kind : ℕ} (part : List ℕ) (freed : ℕ) (told : Strides m key left (map (seated places) rows) after (drop freed part) next units kind) where
    abbrev now : List Token
    now = map (seated places) rows

    pub units_is : units ≡ (step m key left now).segment.units
    units_is = ap (λ (s : Segment). s.units) told.segment

    pub some_run : 0 < units
    some_run = omega (arith, units_is, falls fits some was.course)

    next_long : length next ≡ 16
    next_long = ap (λ (s : Segment). length s.row) told.segment ∙ row_length (step m key left now).tokens

    pub tags_long : length (take m next) ≡ m
    tags_long = length-take-le m next (omega (arith, next_long, fits.sound.few)) ∙ omega arith

    pub goes_on : (wrote : List ℕ) (line' : List ℕ) → line' ≡ put_mid first (length line - first) line part → freed ≤ length part → length part ≡ length line - first
        → wrote ≡ (be64 units ++ kind ∷ tag_bytes (take m next)) ++ drop (record_size (length (take m next))) (take (length plan - at) (drop at plan))
        → (size : ℕ) → size ≡ record_size m
        → Racing m key law span ts buffer (left - units) after line' (first + freed) next (put_mid at (length plan - at) plan wrote) (count + 1) (at + size)
    goes_on wrote line' line-is short long wrote-is size size-is =
        let text : wrote ≡ record_bytes m (step m key left now).segment ++ drop (record_size m) (take (length plan - at) (drop at plan)) =
        wrote-is ∙ (λ j. (be64 units ++ kind ∷ tag_bytes (take m next)) ++ drop (record_size (tags_long j)) (take (length plan - at) (drop at plan)))
        ∙ ap (λ s. record_bytes m s ++ drop (record_size m) (take (length plan - at) (drop at plan))) told.segment in
        let written-so = lent_written plan wrote (record_bytes m (step m key left now).segment) at (record_size m) text in
        let rest : drop (first + freed) line' ≡ drop freed part =
        sym (drop-drop freed first line') ∙ ap (λ l. drop freed (drop first l)) line-is ∙ ap (drop freed) (lent_part line part first was.inside) in
        record {
          course = course_is (ap (λ k. left - k) units_is) (sym told.kept.same) (ap (λ z. at + z) size-is)
              (more fits some was.course (put_mid at (length plan - at) plan wrote) written-so);
          kept = transport (λ j. Kept (told.kept.same j) after (sym rest j) next) told.kept;
          inside = omega (arith, ap length line-is, put_long line part first was.inside long, was.inside);
        }
