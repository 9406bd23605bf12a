-- Under "largest first" a step is that of LLREF.
use Rattle.std.proofs.Common.{◌≡◌, ℕ, ◌+◌, ◌-◌, ◌^◌, ◌<◌, ◌≤◌, min, Bool, true, false, cond, not, ◌&&◌, eqb, List, [], ◌∷◌, ◌++◌, map, length, get_or, take, drop, count_by, sym, refl, ap, ◌∙◌, subst, inl, inr, ⊎_elim, arith, take_at}
use Rattle.std.proofs.lemmas.List.{length-map}
use Rattle.std.proofs.lemmas.Bool.{and_parts, and_from, eqb-true, eq-eqb, ne_eqb, cases_Bool, cases_lt, both_ways, cond-true, cond-false, not_from_false}
use Rattle.std.proofs.lemmas.Bool.Decides.{nat_tests}
use Rattle.rows.specs.declared.memory.Token.{Token}
use Rattle.rows.specs.Tests.{has, any}
use Rattle.rules.specs.Keys.{Key, Lawful, largest_first}
use Rattle.plan_file.specs.Records.{Segment}
use Rattle.model.specs.Members.{In, Each, here, there}
use Rattle.model.specs.Steps
use Rattle.model.specs.Steps.{active, before, chosen, distance, event, moved}
use Rattle.model.specs.Planes.{AfterStep, segment_of}
use Rattle.model.specs.Llref.{runs, LargestRun, UsedUp, MeetsCeiling, FirstEvent, EventNamed, AfterSegment, LlrefStep, LargestFirstIsLlref}
use Rattle.model.proofs.Counts.{count_le, count_same}
use Rattle.model.proofs.Ranks.{filled, rises}
use Rattle.model.proofs.Order.{same, says, total, ordered, same_token}
use Rattle.model.proofs.Distances.{at_most, attained, gap_picked, gap_other}
use Rattle.model.proofs.Bounds.{Sound, Choice, reach, has_length}
use Rattle.model.proofs.Chosen.{at_most_m, fair}
use Rattle.model.proofs.Stepping.{step_sound, row_says, falls_by, chosen_on, other_off, unshared, one, map_in}
use Rattle.model.proofs.Turns.{lower_taken}
use Rattle.model.proofs.Runners.{row_at}
use Rattle.model.proofs.Segments.{any_in, none_of}
use Rattle.model.proofs.Fits.{fit_widths}
use Rattle.model.proofs.Accepted.{stepped_ok}

pub lawful : Lawful largest_first
lawful span left p p' tag tag' a b c d e f g h = omega arith

each_map : {X Y : Type 0} (R : X → Y → Type 0) (f : X → Y) (xs : List X) → ((x : X) → In x xs → R x (f x)) → Each R xs (map f xs)
each_map R f [] h = tt
each_map R f (x ∷ xs) h = (h x here, each_map R f xs (λ y i. h y (there i)))

-- For every rule: it chooses as many as it can, and the first in its order.
module _ (m : ℕ) (key : Key) (span : ℕ) (ts : List Token) (ok : Sound m span ts) where
  abbrev picks : Token → Bool
  picks = chosen m key span ts

  as_many : count_by picks ts ≡ min m (count_by active ts)
  as_many = ⊎_elim
      (λ l. omega (arith, l, some, count_le active picks ts (λ x i a. let f = filled active (before key span) ts m same (ordered key span m ts ok.tagged) x i a in grind arith)))
      (λ g. omega (arith, some, most))
      (cases_lt (count_by picks ts) m)
    where
      some : count_by picks ts ≤ count_by active ts
      some = count_le picks active ts (λ x i p. (and_parts (active x) _ p).0)

      most : count_by picks ts ≤ m
      most = at_most_m m key span ts ok

  -- one that is chosen stands before every active one that is not
  goes_before : (x y : Token) → In x ts → In y ts → picks x ≡ true → picks y ≡ false → active y ≡ true → before key span x y ≡ true
  goes_before x y i j p q a = ⊎_elim
      (⊎_elim (λ b. b) (λ b. grind (arith, nat_tests, rises active (before key span) ts m same (ordered key span m ts ok.tagged) y x j a b)))
      (λ s. absurd (both_ways _ q (rw (← same_token 0 ts ok.tagged x y i j (eqb-true x.tag y.tag s)) p)))
      (total key span x y)

-- For every fair choice: its step comes to the first event, names it, and moves its tokens.
module _ (m span : ℕ) (ts : List Token) (ok : Sound m span ts) (picks : Token → Bool) (choice : Choice m span ts picks) (pos : 0 < span) where
  abbrev d : ℕ
  d = distance picks span ts

  abbrev seg : Segment
  seg = (Steps.run m picks span ts d).segment

  abbrev us : List Token
  us = (Steps.run m picks span ts d).tokens

  -- who runs is who was chosen
  pub ran : (x : Token) → In x ts → runs seg x ≡ picks x
  ran x i = row_says m span ts ok picks choice d (reach picks span ts) x i

  picked : (x : Token) → In x ts → runs seg x ≡ true → picks x ≡ true
  picked x i h = sym (ran x i) ∙ h

  passed : (x : Token) → In x ts → runs seg x ≡ false → picks x ≡ false
  passed x i h = sym (ran x i) ∙ h

  used_up : (x : Token) → In x ts → picks x ≡ true → x.left ≡ d → UsedUp seg ts
  used_up x i p e = (x, i, ran x i ∙ p, e)

  meets : (x : Token) → In x ts → picks x ≡ false → x.left + d ≡ span → MeetsCeiling span seg ts
  meets x i p e = (x, i, ran x i ∙ p, e)

  pub first_event : FirstEvent span seg ts
  first_event = record {
    some_time = has_length m span ts ok picks choice pos;
    none_sooner = λ x i. (
      (λ h. (reach picks span ts).picked x i (picked x i h)),
      (λ h. omega (arith, (reach picks span ts).others x i (passed x i h), ok.low x i)),
    );
    one_then = ⊎_elim inl
        (λ s. inr (⊎_elim
        (λ p. inl (used_up s.0 s.1 p (omega (arith, s.2, gap_picked picks span s.0 p))))
        (λ p. inr (meets s.0 s.1 p (omega (arith, s.2, gap_other picks span s.0 p, ok.low s.0 s.1))))
        (cases_Bool (picks s.0))))
        (attained picks span ts);
  }

  -- The tests in the name of an event say what they mean.
  abbrev emptied : Token → Bool
  emptied x = picks x && eqb x.left d

  abbrev topped : Token → Bool
  topped x = not (picks x) && eqb x.left (span - d)

  emptied_yes : UsedUp seg ts → any emptied ts ≡ true
  emptied_yes u = any_in emptied ts u.1 (and_from _ _ (picked u.0 u.1 u.2) (eq-eqb u.0.left d u.3))

  emptied_no : (UsedUp seg ts → ⊥) → any emptied ts ≡ false
  emptied_no n = none_of emptied ts (λ x i e. n (used_up x i (and_parts _ _ e).0 (eqb-true x.left d (and_parts _ _ e).1)))

  topped_yes : MeetsCeiling span seg ts → any topped ts ≡ true
  topped_yes u =
      any_in topped ts u.1 (and_from _ _ (not_from_false _ (passed u.0 u.1 u.2)) (eq-eqb u.0.left (span - d) (omega (arith, u.3))))

  topped_no : (MeetsCeiling span seg ts → ⊥) → any topped ts ≡ false
  topped_no n = none_of topped ts (λ x i e. n (meets x i (grind arith) (grind (arith, nat_tests, at_most picks span ts))))

  going : d < span → eqb (span - d) 0 ≡ false
  going l = ne_eqb (span - d) 0 (λ e. omega arith)

  name : (z a b : Bool) → z ≡ eqb (span - d) 0 → a ≡ any emptied ts → b ≡ any topped ts → seg.kind ≡ cond z 4 (cond a 1 0 + cond b 2 0)
  name z a b e f g = rw (e, f, g) refl

  pub event_named : EventNamed span seg ts
  event_named = record {
    plane_end = λ e. name true _ _ (sym (eq-eqb (span - d) 0 (omega (arith, e)))) refl refl;
    bottom = λ l u n. name false true false (sym (going l)) (sym (emptied_yes u)) (sym (topped_no n));
    ceiling = λ l n u. name false false true (sym (going l)) (sym (emptied_no n)) (sym (topped_yes u));
    both = λ l u v. name false true true (sym (going l)) (sym (emptied_yes u)) (sym (topped_yes v));
  }

  -- where the row has a chosen token
  placed_at : (x : Token) → In x ts → picks x ≡ true → get_or seg.row ((moved m picks ts d x).processor - 1) 0 ≡ x.tag
  placed_at x i p =
      let on = chosen_on m span ts ok picks choice d (reach picks span ts) x i p in
      row_at us (unshared m span ts ok picks choice d (reach picks span ts)) (one m span ts ok picks choice d (reach picks span ts))
      (moved m picks ts d x) (map_in (moved m picks ts d) ts i) on.0 (omega (arith, on, ok.few))

  pub after : Each (AfterSegment m ts seg) ts us
  after = each_map (AfterSegment m ts seg) (moved m picks ts d) ts (λ x i. record {
    same_tag = refl;
    waited = λ h. (
      cond-false (picks x) _ _ (passed x i h),
      other_off m span ts ok picks choice d (reach picks span ts) x (passed x i h),
    );
    fell = λ h. omega (arith, falls_by m span ts ok picks choice d (reach picks span ts) x i, cond-true (has x.tag seg.row) d 0 h);
    in_row = λ h.
        let on = chosen_on m span ts ok picks choice d (reach picks span ts) x i (picked x i h) in
        (on.0, on.1, placed_at x i (picked x i h));
    stayed = λ h some.
        cond-true (picks x) _ _ (picked x i h) ∙ cond-false (eqb x.processor 0) _ _ (ne_eqb x.processor 0 (λ e. omega arith));
    lowest = λ h z q l u.
        let t = lower_taken m picks ts ok.tagged choice.most ok.on ok.own x i (picked x i h) z q l u in
        (t.0, t.1, ap (λ k. get_or seg.row (k - 1) 0) (sym t.3) ∙ placed_at t.0 t.1 t.2, t.4);
  })

largest_run : (m span : ℕ) (ts : List Token) (ok : Sound m span ts) (pos : 0 < span) → span ≤ 2 ^ 54 → LargestRun m (Steps.step m largest_first span ts).segment ts
largest_run m span ts ok pos short =
    let picks = chosen m largest_first span ts in
    let says_so = ran m span ts ok picks (fair m largest_first lawful span ts ok pos short) pos in
    record {
      only_active = λ x i p. (and_parts (active x) _ (sym (says_so x i) ∙ p)).0;
      as_many = count_same _ picks ts says_so ∙ as_many m largest_first span ts ok;
      largest = λ x y i j p q a.
          let low_x = ok.low x i in
          let low-y = ok.low y j in
          ⊎_elim (λ l. inl (omega arith)) (λ e. inr (omega arith, e.1))
          (says largest_first span x y (goes_before m largest_first span ts ok x y i j (sym (says_so x i) ∙ p) (sym (says_so y j) ∙ q) a));
    }

pub largest_first_is_llref : LargestFirstIsLlref
largest_first_is_llref p memory widths r e =
    let n = p.board.count in
    let m = p.board.processors in
    let ts = take n memory in
    let k = stepped_ok p memory largest_first r e in
    let s = fit_widths p memory widths k.fits in
    let ok = s.1 in
    let picks = chosen m largest_first p.span ts in
    let choice = fair m largest_first lawful p.span ts ok k.going widths.short in
    let us = (Steps.step m largest_first p.span ts).tokens in
    let there : length us ≡ n = length-map ts _ ∙ s.0 in
    let front : take n (us ++ drop n memory) ≡ us = take_at us (drop n memory) n there in
    let P : AfterStep → Type 0 = λ r. LlrefStep m p.span ts (segment_of r) (take n r.0.1) × (r.0.0.span + r.1.0 ≡ p.span) in
    subst P k.is (
      subst (LlrefStep m p.span ts (Steps.step m largest_first p.span ts).segment) (sym front) (record {
        who = largest_run m p.span ts ok k.going widths.short;
        how_long = first_event m p.span ts ok picks choice k.going;
        event = event_named m p.span ts ok picks choice k.going;
        after = after m p.span ts ok picks choice k.going;
        own_processors = (step_sound m largest_first lawful p.span ts ok k.going widths.short).own;
      }),
      omega (arith, at_most picks p.span ts),
    )
