-- A finish over any memory that fits: the plane is over after it, and its records read back as the segments of its steps.
use Rattle.std.proofs.Common.{◌≡◌, ℕ, suc, ◌+◌, ◌^◌, ◌<◌, ◌≤◌, List, [], ◌++◌, length, take, drop, sym, refl, ap, ◌∙◌, subst, ⊎_elim, arith, take_at, drop_at}
use Rattle.std.specs.List.{AllByRecursion}
use Rattle.std.proofs.ByRecursion.{All-weaker}
use Rattle.std.proofs.lemmas.List.{length-map}
use Rattle.std.proofs.lemmas.List.Sums.{count_by-le-length}
use Rattle.rows.specs.declared.memory.Token.{Token}
use Rattle.rules.specs.Keys.{Key, Lawful}
use Rattle.plan_file.specs.Records.{Segment, records_bytes}
use Rattle.plan_file.specs.RoundTrip.{Writable}
use Rattle.model.specs.State.{Open}
use Rattle.model.specs.Steps
use Rattle.model.specs.Planes.{steps, StepsOut, over, more, AfterFinish, segments_of}
use Rattle.model.specs.Fitting.{FinishOver}
use Rattle.model.proofs.Counts.{all_in}
use Rattle.model.proofs.Bounds.{Sound, inner}
use Rattle.model.proofs.Stepping.{step_sound}
use Rattle.model.proofs.Readback.{read_back}
use Rattle.model.proofs.Segments.{Good, step_good}
use Rattle.model.proofs.Course.{Slow, step_slow, steps_by}
use Rattle.model.proofs.Fits.{fit_widths}
use Rattle.model.proofs.Accepted.{finish_of, finished_ok}

-- steps stop early only at the end of the plane
steps_all : (fuel m : ℕ) (key : Key) (r : ℕ) (ks : List Token) → 0 < (steps fuel m key r ks).1 → length (steps fuel m key r ks).0 ≡ fuel
steps_all fuel m key r ks =
    steps_by m key (λ fuel r ks out. 0 < out.1 → length out.0 ≡ fuel)
    (λ fuel r ks e pos. ⊎_elim sym (λ z. absurd (omega arith)) e)
    (λ fuel r ks rest pos again left. ap suc (again left)) fuel r ks

-- and are then all that there are
steps_out : (fuel m : ℕ) (key : Key) (r : ℕ) (ks : List Token) → (steps fuel m key r ks).1 ≡ 0
    → StepsOut m key r ks (steps fuel m key r ks).0 (steps fuel m key r ks).2
steps_out fuel m key r ks =
    steps_by m key (λ fuel r ks out. out.1 ≡ 0 → StepsOut m key r ks out.0 out.2)
    (λ fuel r ks e z. subst (λ r. StepsOut m key r ks [] ks) (sym z) (over ks))
    (λ fuel r ks rest pos again z. more r ks rest.0 rest.2 pos (again z)) fuel r ks

-- after k steps of a plane of n tasks
pub record Going (m n r : ℕ) (ks : List Token) (k : ℕ) : Type 0 where
  pub there : length ks ≡ n
  pub sound : Sound m r ks
  pub short : r ≤ 2 ^ 54
  pub slow : Slow n r ks k

pub step_going : (m : ℕ) (key : Key) → Lawful key → (n r : ℕ) (ks : List Token) (k : ℕ) → 0 < r → Going m n r ks k
    → Going m n (Steps.step m key r ks).span (Steps.step m key r ks).tokens (suc k)
step_going m key law n r ks k pos g = record {
  there = length-map ks _ ∙ g.there;
  sound = step_sound m key law r ks g.sound pos g.short;
  short = omega (arith, g.short);
  slow = step_slow m key law n r ks k g.sound pos g.short g.slow;
}

-- many steps keep it, and each segment is good
steps_going : (fuel m : ℕ) (key : Key) → Lawful key → (n r : ℕ) (ks : List Token) (k : ℕ) → Going m n r ks k
    → Going m n (steps fuel m key r ks).1 (steps fuel m key r ks).2 (length (steps fuel m key r ks).0 + k) × AllByRecursion (Good m) (steps fuel m key r ks).0
steps_going fuel m key law n r ks k g =
    steps_by m key (λ fuel r ks out. (k : ℕ) → Going m n r ks k → Going m n out.1 out.2 (length out.0 + k) × AllByRecursion (Good m) out.0)
    (λ fuel r ks e k g. (subst (Going m n r ks) (omega arith) g, tt))
    (λ fuel r ks rest pos again k g. let a = again (suc k) (step_going m key law n r ks k pos g) in (
      subst (Going m n rest.1 rest.2) (omega arith) a.0,
      (step_good m key law r ks g.sound pos g.short, a.1),
    )) fuel r ks k g

module _ (m n r : ℕ) (ks : List Token) (long : length ks ≡ n) (ok : Sound m r ks) (short : r ≤ 2 ^ 54) (key : Key) (law : Lawful key) where
  abbrev done : List Segment × ℕ × List Token
  done = steps (n + 1) m key r ks

  pub first : Going m n r ks 0
  first = record {
    there = long;
    sound = ok;
    short = short;
    slow = record { most = omega arith; going = λ pos. omega (arith, count_by-le-length (inner r) ks, long) };
  }

  last : Going m n done.1 done.2 (length done.0 + 0) × AllByRecursion (Good m) done.0
  last = steps_going (n + 1) m key law n r ks 0 first

  pub all_writable : AllByRecursion (Writable m) done.0
  all_writable = All-weaker (Good m) (Writable m) (λ s g. g.fits) done.0 last.1

  -- one step more than there are tasks is enough
  pub span_out : done.1 ≡ 0
  span_out = grind (arith, last.0.slow.going, steps_all (n + 1) m key r ks)

  tokens_out : AllByRecursion (λ x. x.left ≡ 0) done.2
  tokens_out = all_in (λ x. x.left ≡ 0) done.2 (λ x i. omega (arith, last.0.sound.low x i, span_out))

  all_out : StepsOut m key r ks done.0 done.2
  all_out = steps_out (n + 1) m key r ks span_out

-- the records of a finish, read from the buffer
pub finish_back : (p : Open) (memory : List Token) (key : Key) (buffer : List ℕ)
    → let n = p.board.count in AllByRecursion (Writable p.board.processors) (steps (n + 1) p.board.processors key p.span (take n memory)).0
    → segments_of (finish_of p memory key buffer) ≡ (steps (n + 1) p.board.processors key p.span (take n memory)).0
finish_back p memory key buffer w = read_back p.board.processors _ _ w

pub finish_over : FinishOver
finish_over p memory widths key law buffer r e =
    let n = p.board.count in
    let m = p.board.processors in
    let ks = take n memory in
    let k = finished_ok p memory key buffer r e in
    let s = fit_widths p memory widths k.fits in
    let d = done m n p.span ks s.0 s.1 widths.short key law in
    let there = (last m n p.span ks s.0 s.1 widths.short key law).0.there in
    let front : take n (d.2 ++ drop n memory) ≡ d.2 = take_at d.2 (drop n memory) n there in
    let back = finish_back p memory key buffer (all_writable m n p.span ks s.0 s.1 widths.short key law) in
    let P : AfterFinish → Type 0 = λ r.
    (r.0.0.span ≡ 0) × AllByRecursion (λ x. x.left ≡ 0) (take n r.0.1) × StepsOut m key p.span ks (segments_of r) (take n r.0.1)
    × (drop r.1.1 r.0.2 ≡ drop r.1.1 buffer) in
    subst P k.is (
      span_out m n p.span ks s.0 s.1 widths.short key law,
      subst (AllByRecursion (λ x. x.left ≡ 0)) (sym front) (tokens_out m n p.span ks s.0 s.1 widths.short key law),
      subst (λ us. StepsOut m key p.span ks (segments_of (finish_of p memory key buffer)) us) (sym front)
          (subst (λ ss. StepsOut m key p.span ks ss d.2) (sym back) (all_out m n p.span ks s.0 s.1 widths.short key law)),
      drop_at (records_bytes m d.0) _ (length (records_bytes m d.0)) refl,
    )
