-- What is true of a board at rest, through admissions and withdrawals, into a plane and out of it.
use Rattle.std.proofs.Common.{◌≡◌, ℕ, ◌+◌, ◌-◌, ◌*◌, ◌/◌, ◌%◌, ◌^◌, ◌<◌, ◌≤◌, true, false, eqb, List, [], ◌∷◌, map, length, Some, sum_by, sym, refl, ap, ◌∙◌, subst, ⊎_elim, mul-le-mul_right, mul-le-mul_left, arith}
use native.Mathlib.Nat.{div-le_of_le-mul}
use Rattle.std.specs.List.{AllByRecursion}
use Rattle.std.proofs.lemmas.List.{length-map}
use Rattle.std.proofs.lemmas.List.Sums.{sum_by-cons, count_by-le-length}
use Rattle.std.proofs.lemmas.Bool.{eq-eqb, ne_eqb, cond-true, cond-false}
use Rattle.rows.specs.declared.memory.Task.{Task}
use Rattle.rows.specs.declared.memory.Token.{Token}
use Rattle.rows.specs.Tests.{has, distinct}
use Rattle.model.specs.State.{Rest, Open, at_tick}
use Rattle.model.specs.Tables.{weight, tags, with_load, fresh, placed, found, without, token, earliest}
use Rattle.plan_file.specs.Records.{Segment}
use Rattle.model.specs.Histories.{Event, admission, beginning, ran_in, since_start, since_admission, total, run_by}
use Rattle.model.specs.Claims.{Paid}
use Rattle.model.specs.Members.{In, Each, here, there}
use Rattle.model.proofs.Distances.{sumBy_map}
use Rattle.model.proofs.Bounds.{Sound, inner}
use Rattle.model.proofs.Stepping.{map_map, in_map}
use Rattle.model.proofs.Segments.{Good}
use Rattle.model.proofs.Course.{BoardOk, TaskOk, Listed, Running}
use Rattle.model.proofs.Placing.{absent, length_placed, sum_placed, in_placed, placed_increasing, in_without, without_increasing, without_one}
use Rattle.model.proofs.Releases.{first_release, short_span}

-- a board at rest with its tasks and the history
pub record Resting (b : Rest) (ts : List Task) (h : List Event) : Type 0 where
  pub board : BoardOk b.processors b.scale b.load
  pub listed : Listed b.count b.scale b.load ts
  pub tasks : (t : Task) → In t ts → TaskOk b.scale b.tick t
  pub served : (t : Task) → In t ts → run_by t.tag (since_admission t.tag h) ≡ (b.tick - t.release) * weight b.scale t
  pub clock : b.tick * b.scale ≡ total (ran_in h)
  pub good : AllByRecursion (Good b.processors) (ran_in h)

-- the segments of one tag when another is admitted, or itself
other_admitted : (tag u : ℕ) (h : List Event) → (tag ≡ u → ⊥) → since_admission u (admission tag ∷ h) ≡ since_admission u h
other_admitted tag u h n = cond-false (eqb tag u) [] (since_admission u h) (ne_eqb tag u n)

just_admitted : (tag : ℕ) (h : List Event) → since_admission tag (admission tag ∷ h) ≡ []
just_admitted tag h = cond-true (eqb tag tag) [] (since_admission tag h) (eq-eqb tag tag refl)

none_due : (tick w : ℕ) → 0 ≡ (tick - tick) * w
none_due tick w = let e : tick - tick ≡ 0 = omega arith in omega (arith, ap (λ k. k * w) e)

pub admit_rests : (b : Rest) (ts : List Task) (h : List Event) (tag c p : ℕ) → Resting b ts h
    → tag < 2 ^ 16 → 0 < tag → 0 < c → c ≤ p → b.scale % p ≡ 0 → has tag (tags ts) ≡ false
    → b.load + weight b.scale (fresh b tag c p) ≤ b.processors * b.scale
    → Resting (with_load b (b.count + 1) (b.load + weight b.scale (fresh b tag c p))) (placed (fresh b tag c p) ts) (admission tag ∷ h)
admit_rests b ts h tag c p o short tagged some within divides new bound = record {
  board = record { some = o.board.some; few = o.board.few; scaled = o.board.scaled; fine = o.board.fine; bound = bound };
  listed = record {
    there = omega (arith, length_placed t ts new, o.listed.there);
    tagged = placed_increasing t 0 ts tagged o.listed.tagged;
    sum = omega (arith, sum_placed t (weight b.scale) ts new, o.listed.sum);
  };
  tasks = λ u i. ⊎_elim
      (λ e. subst (TaskOk b.scale b.tick) (sym e) (record { some = some; within = within; divides = divides; past = omega arith; short = short }))
      (o.tasks u) (in_placed t u ts i);
  served = λ u i. ⊎_elim
      (λ e. subst (λ u. run_by u.tag (since_admission u.tag (admission tag ∷ h)) ≡ (b.tick - u.release) * weight b.scale u) (sym e)
      (ap (run_by tag) (just_admitted tag h) ∙ none_due b.tick (weight b.scale t)))
      (λ j. ap (run_by u.tag) (other_admitted tag u.tag h (absent tag ts new u j)) ∙ o.served u j)
      (in_placed t u ts i);
  clock = o.clock;
  good = o.good;
}
  where
    t : Task
    t = fresh b tag c p

pub withdraw_rests : (b : Rest) (ts : List Task) (h : List Event) (tag : ℕ) (t : Task) → Resting b ts h → found tag ts ≡ Some t
    → Resting (with_load b (b.count - 1) (b.load - weight b.scale t)) (without tag ts) h
withdraw_rests b ts h tag t o e =
    let less = without_one tag (weight b.scale) 0 ts t o.listed.tagged e in
    record {
      board = record { some = o.board.some; few = o.board.few; scaled = o.board.scaled; fine = o.board.fine; bound = omega (arith, o.board.bound) };
      listed = record {
        there = omega (arith, less.0, o.listed.there);
        tagged = without_increasing tag 0 ts o.listed.tagged;
        sum = omega (arith, less.1, o.listed.sum);
      };
      tasks = λ u i. o.tasks u (in_without tag u ts i);
      served = λ u i. o.served u (in_without tag u ts i);
      clock = o.clock;
      good = o.good;
    }

-- Into a plane: the tokens of a start.

-- a sum of multiples
scaled : {X : Type 0} (k : ℕ) (f : X → ℕ) (xs : List X) → sum_by (λ x. k * f x) xs ≡ k * sum_by f xs
scaled k f [] = omega arith
scaled k f (x ∷ xs) = omega (arith, sum_by-cons (λ x. k * f x) x xs, ap (λ s. k * s) (sum_by-cons f x xs), scaled k f xs)

-- a task weighs at most a whole processor
pub light : (q c p : ℕ) → c ≤ p → (c * q) / p ≤ q
light q c p b = div-le_of_le-mul p (mul-le-mul_right q b)

no_processors : (q ticks : ℕ) (ts : List Task) → distinct (map (λ x. x.processor) (map (token q ticks) ts)) ≡ true
no_processors q ticks [] = refl
no_processors q ticks (t ∷ ts) = no_processors q ticks ts

paid_first : (q ticks : ℕ) (ts : List Task) → Each (Paid q ticks []) ts (map (token q ticks) ts)
paid_first q ticks [] = tt
paid_first q ticks (t ∷ ts) = ((refl, omega arith), paid_first q ticks ts)

pub first_tokens : (m q ticks load : ℕ) (ts : List Task) → BoardOk m q load → Listed (length ts) q load ts → (tick : ℕ) → ((t : Task) → In t ts → TaskOk q tick t)
    → Sound m (ticks * q) (map (token q ticks) ts)
first_tokens m q ticks load ts board listed tick tasks = record {
  some = board.some;
  few = board.few;
  tagged = rw (map_map (λ x. x.tag) (token q ticks) ts) listed.tagged;
  short_tags = in_map (λ x. x.tag < 2 ^ 16) (token q ticks) ts (λ t i. (tasks t i).short);
  low = in_map (λ x. x.left ≤ ticks * q) (token q ticks) ts (λ t i. mul-le-mul_left ticks (light q t.execution t.period (tasks t i).within));
  sum = omega (arith, sumBy_map (λ x. x.left) (token q ticks) ts, scaled ticks (weight q) ts, ap (λ k. ticks * k) listed.sum, mul-le-mul_left ticks board.bound);
  on = in_map (λ x. x.processor ≤ m) (token q ticks) ts (λ t i. omega arith);
  own = no_processors q ticks ts;
}

pub start_runs : (b : Rest) (ts : List Task) (h : List Event) → Resting b ts h → 0 < b.count
    → Running (record { board = b; end = earliest b.tick ts; span = (earliest b.tick ts - b.tick) * b.scale }) ts
    (map (token b.scale (earliest b.tick ts - b.tick)) ts) (beginning ∷ h)
start_runs b ts h o some = record {
  board = o.board;
  first = first_release b.scale b.tick ts long o.tasks;
  short = short_span b.scale b.tick ts long o.tasks o.board.scaled o.board.fine;
  there = length-map ts _ ∙ o.listed.there;
  sound = first_tokens b.processors b.scale ticks b.load ts o.board
      (record { there = refl; tagged = o.listed.tagged; sum = o.listed.sum }) b.tick o.tasks;
  slow = record {
    most = omega arith;
    going = λ pos. omega (arith, count_by-le-length (inner (ticks * b.scale)) (map (token b.scale ticks) ts), length-map ts (token b.scale ticks), o.listed.there);
  };
  listed = o.listed;
  tasks = o.tasks;
  served = λ t i. omega (arith, o.served t i);
  fallen = omega arith;
  paid = paid_first b.scale ticks ts;
  clock = omega (arith, o.clock);
  good = o.good;
}
  where
    ticks : ℕ
    ticks = earliest b.tick ts - b.tick

    long : 0 < length ts
    long = omega (arith, o.listed.there)

-- Out of a plane: each task has had its share.

paid_out : (q ticks : ℕ) (ss : List Segment) (ts : List Task) (ks : List Token) → ((x : Token) → In x ks → x.left ≡ 0) → Each (Paid q ticks ss) ts ks
    → (t : Task) → In t ts → run_by t.tag ss ≡ ticks * weight q t
paid_out q ticks ss [] ks z h t i = elim i [ ]
paid_out q ticks ss (u ∷ ts) [] z h t i = absurd h
paid_out q ticks ss (u ∷ ts) (k ∷ ks) z h t here = omega (arith, z k here, h.0.1)
paid_out q ticks ss (u ∷ ts) (k ∷ ks) z h t (there i) = paid_out q ticks ss ts ks (λ x j. z x (there j)) h.1 t i

-- two stretches of time make one
joins : (a b c w : ℕ) → c ≡ a + b → a * w + b * w ≡ c * w
joins a b c w e = omega (arith, ap (λ k. k * w) e)

pub end_rests : (p : Open) (ts : List Task) (ks : List Token) (h : List Event) → Running p ts ks h → p.span ≡ 0 → Resting (at_tick p.board p.end) ts h
end_rests p ts ks h o over = record {
  board = o.board;
  listed = o.listed;
  tasks = λ t i. record {
    some = (o.tasks t i).some;
    within = (o.tasks t i).within;
    divides = (o.tasks t i).divides;
    past = omega (arith, (o.tasks t i).past, o.first.later);
    short = (o.tasks t i).short;
  };
  served = λ t i.
      let paid = paid_out p.board.scale (p.end - p.board.tick) (since_start h) ts ks (λ x j. omega (arith, o.sound.low x j)) o.paid t i in
      let time : p.end - t.release ≡ (p.board.tick - t.release) + (p.end - p.board.tick) = omega (arith, (o.tasks t i).past, o.first.later) in
      o.served t i
      ∙ ap (λ k. (p.board.tick - t.release) * weight p.board.scale t + k) paid
      ∙ joins (p.board.tick - t.release) (p.end - p.board.tick) (p.end - t.release) (weight p.board.scale t) time;
  clock =
      let time : p.end ≡ p.board.tick + (p.end - p.board.tick) = omega (arith, o.first.later) in
      omega (arith, joins p.board.tick (p.end - p.board.tick) p.end p.board.scale time, o.clock, o.fallen);
  good = o.good;
}
