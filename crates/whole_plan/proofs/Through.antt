-- Planes one after the other: what the definitions give, whatever buffer the records go into.
use Rattle.std.proofs.Common.{◌≡◌, ℕ, zero, suc, ◌+◌, ◌-◌, ◌*◌, ◌<◌, ◌≤◌, Bool, true, false, cond, eqb, List, [], ◌∷◌, ◌++◌, length, take, drop, replicate, is_ok, Ok, Err, Result, sym, refl, ap, ◌∙◌, subst, ⊎_elim, mul-le-mul_right, add-one, arith}
use borrow.Rule.Slice.PartMut.{put_mid}
use Rattle.std.proofs.lemmas.List.{length-append, length-replicate, length-take, length-take-le, take_at, drop_at, drop-drop, take-append-drop}
use Rattle.std.proofs.lemmas.Bool.{cases_lt}
use Rattle.rows.specs.declared.refusal.Refusal.{Refusal}
use Rattle.rows.specs.declared.memory.Task.{Task}
use Rattle.rows.specs.declared.memory.Token.{Token}
use Rattle.rules.specs.Keys.{Key, largest_first}
use Rattle.plan_file.specs.Records.{Segment, record_size, record_bytes, records_bytes}
use Rattle.plan_file.proofs.Lent.{lent_written, length_rest}
use Rattle.plan_file.proofs.Tags.{length_tag_bytes}
use Rattle.model.specs.State.{Rest, Open, ended}
use Rattle.model.specs.Tables.{started}
use Rattle.model.specs.Planes.{steps, with_span, AfterFinish, finished}
use Rattle.model.specs.Steps
use Rattle.model.proofs.Accepted.{started_ok, finished_ok, ended_ok, finish_of}
use Rattle.planner.proofs.Fitting.{finish_accepted}
use Rattle.whole_plan.specs.Planning.{and_then, plane_room, plane_into, Planned, plane_planned, planes_planned, records}
use Rattle.whole_plan.proofs.Words.{value, then_ok, then_on}

-- a record has its size at the most
short_record : (m : ℕ) (s : Segment) → length (record_bytes m s) ≤ record_size m
short_record m s = omega (arith, length_tag_bytes (take m s.row), length-take m s.row)

short_records : (m : ℕ) (ss : List Segment) → length (records_bytes m ss) ≤ length ss * record_size m
short_records m [] = omega arith
short_records m (s ∷ ss) = omega (arith, length-append (record_bytes m s) (records_bytes m ss), short_record m s, short_records m ss)

-- no more steps than asked for
few_steps : (fuel m : ℕ) (key : Key) (r : ℕ) (ks : List Token) → length (steps fuel m key r ks).0 ≤ fuel
few_steps zero m key r ks = omega arith
few_steps (suc fuel) m key r ks = go (eqb r 0) (steps fuel m key _ _) (few_steps fuel m key _ _)
  where
    go : (b : Bool) (more : List Segment × ℕ × List Token) → length more.0 ≤ fuel
        → length (cond {A = List Segment × ℕ × List Token} b ([], r, ks) ((Steps.step m key r ks).segment ∷ more.0, more.1, more.2)).0 ≤ suc fuel
    go true more h = omega arith
    go false more h = omega arith

-- A plane that goes through with a buffer just long enough does so with any longer one, and its records are the same.
pub record Goes (b : Rest) (tasks : List Task) (tokens : List Token) (one : Planned) (buffer : List ℕ) : Type 0 where
  pub into : plane_into b tasks tokens buffer ≡ Ok ((one.0, one.1, one.2 ++ drop (length one.2) buffer), length one.2)
  pub few : length one.2 ≤ plane_room b
  pub room : plane_room one.0 ≡ plane_room b

-- what a plane that went through tells
pub record Into (b : Rest) (tasks : List Task) (tokens : List Token) (buffer : List ℕ) (r : (Rest × List Token × List ℕ) × ℕ) : Type 0 where
  pub start : Open × List Token
  pub finish : AfterFinish
  pub rest : Rest
  pub starts : started b tasks tokens ≡ Ok start
  pub finishes : finished start.0 start.1 largest_first buffer ≡ Ok finish
  pub ends : ended finish.0.0 ≡ Ok rest
  pub is : ◌≡◌ {A = (Rest × List Token × List ℕ) × ℕ} ((rest, finish.0.1, finish.0.2), finish.1.1) r

pub into_ok : (b : Rest) (tasks : List Task) (tokens : List Token) (buffer : List ℕ) (r : (Rest × List Token × List ℕ) × ℕ)
    → plane_into b tasks tokens buffer ≡ Ok r → Into b tasks tokens buffer r
into_ok b tasks tokens buffer r e =
    let s = then_ok (started b tasks tokens) _ r e in
    second s.0 s.1 s.2
  where
    third : (s : Open × List Token) (f : AfterFinish) → started b tasks tokens ≡ Ok s → finished s.0 s.1 largest_first buffer ≡ Ok f
        → and_then (ended f.0.0) (λ e. Ok ((e, f.0.1, f.0.2), f.1.1)) ≡ Ok r → Into b tasks tokens buffer r
    third s f a b e =
        let x = then_ok (ended f.0.0) _ r e in
        record { start = s; finish = f; rest = x.0; starts = a; finishes = b; ends = x.1; is = value _ r x.2 }

    second : (s : Open × List Token) → started b tasks tokens ≡ Ok s
        → and_then (finished s.0 s.1 largest_first buffer) (λ f. and_then (ended f.0.0) (λ e. Ok ((e, f.0.1, f.0.2), f.1.1))) ≡ Ok r
        → Into b tasks tokens buffer r
    second s a e =
        let f = then_ok (finished s.0 s.1 largest_first buffer) _ r e in
        third s f.0 a f.1 f.2

module _ (b : Rest) (tasks : List Task) (tokens : List Token) (one : Planned) (buffer : List ℕ) (room : plane_room b ≤ length buffer) where
  abbrev blank : List ℕ
  blank = replicate (plane_room b) 0

  any_buffer : (r : (Rest × List Token × List ℕ) × ℕ) → Into b tasks tokens blank r → ◌≡◌ {A = Planned} (r.0.0, r.0.1, take r.1 r.0.2) one
      → Goes b tasks tokens one buffer
  any_buffer r o h =
      let p = o.start.0 in
      let ks = o.start.1 in
      let n = p.board.count in
      let m = p.board.processors in
      let k = finished_ok p ks largest_first blank o.finish o.finishes in
      let board-is : p.board ≡ b = ap (λ a. a.0.board) (sym (started_ok b tasks tokens o.start o.starts).is) in
      let done = steps (n + 1) m largest_first p.span (take n ks) in
      let bytes = records_bytes m done.0 in
      let same : plane_room p.board ≡ plane_room b = ap plane_room board-is in
      let accepted : finished p ks largest_first buffer ≡ Ok (finish_of p ks largest_first buffer) = finish_accepted p ks largest_first buffer k.going k.fits (omega arith) in
      let ends : ended (with_span p done.1) ≡ Ok o.rest = ap (λ f. ended f.0.0) k.is ∙ o.ends in
      let front : take (length bytes) (bytes ++ drop (length bytes) blank) ≡ bytes = take_at bytes (drop (length bytes) blank) (length bytes) refl in
      let is : ◌≡◌ {A = Planned} (o.rest, done.2 ++ drop n ks, bytes) one =
      ap {B = Planned} (λ l. (o.rest, done.2 ++ drop n ks, l)) (sym front) ∙ ap {B = Planned} (λ f. (o.rest, f.0.1, take f.1.1 f.0.2)) k.is
      ∙ ap {B = Planned} (λ r. (r.0.0, r.0.1, take r.1 r.0.2)) o.is ∙ h in
      subst (λ one. Goes b tasks tokens one buffer) is (record {
        into = then_on _ o.starts ∙ then_on _ accepted ∙ then_on _ ends;
        few = omega (arith, short_records m done.0, mul-le-mul_right (record_size m) (few_steps (n + 1) m largest_first p.span (take n ks)));
        room = ap plane_room (sym (ended_ok (with_span p done.1) o.rest ends).is) ∙ same;
      })

pub planned_into : (b : Rest) (tasks : List Task) (tokens : List Token) (one : Planned) (buffer : List ℕ)
    → plane_planned b tasks tokens ≡ Ok one → plane_room b ≤ length buffer → Goes b tasks tokens one buffer
planned_into b tasks tokens one buffer e room =
    let blank = replicate (plane_room b) 0 in
    let i = then_ok (plane_into b tasks tokens blank) _ one e in
    any_buffer b tasks tokens one buffer room i.0 (into_ok b tasks tokens blank i.0 i.1) (value _ one i.2)

-- Many planes.

ok_first : {A B : Type 0} (r : Result A Refusal) (next : A → Result B Refusal) → is_ok (and_then r next) ≡ true → is_ok r ≡ true
ok_first (Ok a) next h = refl
ok_first (Err e) next h = h

-- planes that go through do so from the first on
pub ok_before : (b : Rest) (tasks : List Task) (tokens : List Token) (i k : ℕ) → i ≤ k → is_ok (planes_planned k b tasks tokens) ≡ true → is_ok (planes_planned i b tasks tokens) ≡ true
ok_before b tasks tokens i zero h ok = let e : i ≡ 0 = omega arith in ap (λ n. is_ok (planes_planned n b tasks tokens)) e ∙ ok
ok_before b tasks tokens i (suc k) h ok =
    ⊎_elim
    (λ l. ok_before b tasks tokens i k (omega arith) (ok_first (planes_planned k b tasks tokens) _ ok))
    (λ g. let e : i ≡ suc k = omega arith in ap (λ n. is_ok (planes_planned n b tasks tokens)) e ∙ ok)
    (cases_lt i (suc k))

-- one plane more, behind those that are done
abbrev onward : Planned → Result Planned Refusal → Result Planned Refusal
onward done r = and_then r (λ one. Ok (one.0, one.1, done.2 ++ one.2))

-- the next plane of those that go through
pub record Next (b : Rest) (tasks : List Task) (tokens : List Token) (i : ℕ) (done : Planned) : Type 0 where
  pub one : Planned
  pub goes : plane_planned done.0 tasks done.1 ≡ Ok one
  pub all : planes_planned (i + 1) b tasks tokens ≡ Ok (one.0, one.1, done.2 ++ one.2)

pub next_plane : (b : Rest) (tasks : List Task) (tokens : List Token) (i k : ℕ) (done : Planned) → i < k
    → is_ok (planes_planned k b tasks tokens) ≡ true → planes_planned i b tasks tokens ≡ Ok done → Next b tasks tokens i done
next_plane b tasks tokens i k done l ok e =
    go (plane_planned done.0 tasks done.1) refl (ap is_ok (sym both) ∙ ok_before b tasks tokens (suc i) k l ok)
  where
    both : planes_planned (suc i) b tasks tokens ≡ onward done (plane_planned done.0 tasks done.1)
    both = then_on _ e

    go : (r : Result Planned Refusal) → plane_planned done.0 tasks done.1 ≡ r → is_ok (onward done r) ≡ true → Next b tasks tokens i done
    go (Ok one) f h = record { one = one; goes = f; all = ap (λ n. planes_planned n b tasks tokens) (add-one i) ∙ both ∙ then_on _ f }
    go (Err e) f h = absurd (cc)

-- Records behind those that stand in the buffer: the buffer `plan` was `first` before anything was written into it.
pub more_records : (first plan part bytes : List ℕ) (at : ℕ) → at ≤ length plan → drop at plan ≡ drop at first
    → part ≡ bytes ++ drop (length bytes) (take (length plan - at) (drop at plan))
    → let after = put_mid at (length plan - at) plan part in
    (take (at + length bytes) after ≡ take at plan ++ bytes) × (drop (at + length bytes) after ≡ drop (at + length bytes) first)
    × (at + length bytes ≤ length after)
more_records first plan part bytes at l same e =
    let after = put_mid at (length plan - at) plan part in
    let w : after ≡ (take at plan ++ bytes) ++ drop (at + length bytes) plan = lent_written plan part bytes at (length bytes) e in
    let n : length (take at plan ++ bytes) ≡ at + length bytes = length-append (take at plan) bytes ∙ ap (λ k. k + length bytes) (length-take-le at plan l) in
    let d : drop (at + length bytes) plan ≡ drop (at + length bytes) first = later plan first at (length bytes) same in (
      ap (take (at + length bytes)) w ∙ take_at (take at plan ++ bytes) (drop (at + length bytes) plan) (at + length bytes) n,
      ap (drop (at + length bytes)) w ∙ drop_at (take at plan ++ bytes) (drop (at + length bytes) plan) (at + length bytes) n ∙ d,
      omega (arith, ap length w, length-append (take at plan ++ bytes) (drop (at + length bytes) plan), n),
    )
  where
    later : (xs ys : List ℕ) (a k : ℕ) → drop a xs ≡ drop a ys → drop (a + k) xs ≡ drop (a + k) ys
    later xs ys a k e = sym (drop-drop k a xs) ∙ ap (drop k) e ∙ drop-drop k a ys

-- Planes that are run one after the other, i of them done: the board is `b`, and `plan`, which was `first`, has their records in front.
pub record Done (b₀ b : Rest) (tasks : List Task) (tokens₀ tokens : List Token) (first plan : List ℕ) (i at : ℕ) : Type 0 where
  pub done : planes_planned i b₀ tasks tokens₀ ≡ Ok (b, tokens, take at plan)
  pub behind : drop at plan ≡ drop at first
  pub few : at ≤ i * plane_room b₀
  pub same : plane_room b ≡ plane_room b₀
  pub within : at ≤ length plan

-- one turn of k such planes, for which there is room
module _ {b₀ b : Rest} {tasks : List Task} {tokens₀ tokens : List Token} {first plan : List ℕ} {i at : ℕ} (d : Done b₀ b tasks tokens₀ tokens first plan i at)
    (k : ℕ) (less : i < k) (ok : is_ok (planes_planned k b₀ tasks tokens₀) ≡ true) (room : k * plane_room b₀ ≤ length plan) where
  abbrev part : List ℕ
  part = take (length plan - at) (drop at plan)

  inside : at + plane_room b₀ ≤ length plan
  inside = omega (arith, mul-le-mul_right (plane_room b₀) less, d.few)

  one_more : Next b₀ tasks tokens₀ i (b, tokens, take at plan)
  one_more = next_plane b₀ tasks tokens₀ i k (b, tokens, take at plan) less ok d.done

  goes_on : Goes b tasks tokens one_more.one part
  goes_on = planned_into b tasks tokens one_more.one part one_more.goes (omega (arith, length_rest plan at, d.same, inside))

  pub no_refusal : (e : Refusal) → plane_into b tasks tokens part ≡ Err e → ⊥
  no_refusal e h = cc (sym goes_on.into ∙ h)

  module _ (x : Rest) (us : List Token) (written : List ℕ) (bytes : ℕ) (e : plane_into b tasks tokens part ≡ Ok ((x, us, written), bytes)) where
    abbrev o : Planned
    o = one_more.one

    is : ◌≡◌ {A = (Rest × List Token × List ℕ) × ℕ} ((o.0, o.1, o.2 ++ drop (length o.2) part), length o.2) ((x, us, written), bytes)
    is = value _ _ (sym goes_on.into ∙ e)

    pub in_room : at + bytes ≤ length plan
    in_room = omega (arith, ap (λ r. r.1) is, goes_on.few, d.same, inside)

    pub turned : Done b₀ x tasks tokens₀ us first (put_mid at (length plan - at) plan written) (i + 1) (at + bytes)
    turned =
        let m = more_records first plan written o.2 at (omega (arith, inside)) d.behind (ap (λ r. r.0.2) (sym is)) in
        subst (λ n. Done b₀ x tasks tokens₀ us first (put_mid at (length plan - at) plan written) (i + 1) (at + n)) (ap (λ r. r.1) is) (record {
          done = one_more.all ∙ ap {B = Result Planned Refusal} (λ a. Ok (a, o.1, take at plan ++ o.2)) (ap (λ r. r.0.0) is)
              ∙ ap {B = Result Planned Refusal} (λ a. Ok (x, a, take at plan ++ o.2)) (ap (λ r. r.0.1) is)
              ∙ ap {B = Result Planned Refusal} (λ a. Ok (x, us, a)) (sym m.0);
          behind = m.1;
          few = omega (arith, goes_on.few, d.few, d.same);
          same = ap plane_room (ap (λ r. r.0.0) (sym is)) ∙ goes_on.room ∙ d.same;
          within = m.2;
        })

-- after the last turn
pub all_run : {b₀ b : Rest} {tasks : List Task} {tokens₀ tokens : List Token} {first plan : List ℕ} {i at : ℕ} → Done b₀ b tasks tokens₀ tokens first plan i at → (k : ℕ) → i ≡ k
    → let rs = records (planes_planned k b₀ tasks tokens₀) in (at ≡ length rs) × (plan ≡ rs ++ drop (length rs) first)
all_run {b₀} {b} {tasks} {tokens₀} {tokens} {first} {plan} {i} {at} d k e =
    let n : length (take at plan) ≡ at = length-take-le at plan d.within in
    let P : Result Planned Refusal → Type 0 = λ r. (at ≡ length (records r)) × (plan ≡ records r ++ drop (length (records r)) first) in
    let all : planes_planned k b₀ tasks tokens₀ ≡ Ok (b, tokens, take at plan) = ap (λ k. planes_planned k b₀ tasks tokens₀) (sym e) ∙ d.done in
    subst P (sym all) (sym n, sym (take-append-drop at plan) ∙ ap (λ x. take at plan ++ x) d.behind ∙ ap (λ k. take at plan ++ drop k first) (sym n))

-- The records of planes have no more bytes than there is room for.

few_more : (tasks : List Task) (k room : ℕ) (d one done : Planned) → plane_planned d.0 tasks d.1 ≡ Ok one → ◌≡◌ {A = Planned} (one.0, one.1, d.2 ++ one.2) done
    → (length d.2 ≤ k * room) × (plane_room d.0 ≡ room) → (length done.2 ≤ suc k * room) × (plane_room done.0 ≡ room)
few_more tasks k room d one done goes is few =
    let g = planned_into d.0 tasks d.1 one (replicate (plane_room d.0) 0) goes (omega (arith, length-replicate {A = ℕ} (plane_room d.0) 0)) in
    let P : Planned → Type 0 = λ done. (length done.2 ≤ suc k * room) × (plane_room done.0 ≡ room) in
    subst P is (omega (arith, length-append d.2 one.2, g.few, few.0, few.1), g.room ∙ few.1)

pub few_bytes : (b : Rest) (tasks : List Task) (tokens : List Token) (k : ℕ) (done : Planned) → planes_planned k b tasks tokens ≡ Ok done
    → (length done.2 ≤ k * plane_room b) × (plane_room done.0 ≡ plane_room b)
few_bytes b tasks tokens zero done e =
    let P : Planned → Type 0 = λ done. (length done.2 ≤ 0 * plane_room b) × (plane_room done.0 ≡ plane_room b) in
    subst P (value _ done e) (omega arith, refl)
few_bytes b tasks tokens (suc k) done e =
    let d = then_ok (planes_planned k b tasks tokens) _ done e in
    let o = then_ok (plane_planned d.0.0 tasks d.0.1) _ done d.2 in
    few_more tasks k (plane_room b) d.0 o.0 done o.1 (value _ done o.2) (few_bytes b tasks tokens k d.0 d.1)
