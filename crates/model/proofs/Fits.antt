-- What the tests of memory say, both ways.
use Rattle.std.proofs.Common.{◌≡◌, ℕ, ◌-◌, ◌*◌, ◌^◌, ◌<◌, ◌≤◌, Bool, true, List, [], ◌∷◌, map, length, take, refl, arith, length-take, length-take-le}
use Rattle.std.proofs.lemmas.Bool.{and_parts, and_from}
use Rattle.std.proofs.lemmas.Bool.Decides.{nat_tests}
use Rattle.rows.specs.declared.memory.Task.{Task}
use Rattle.rows.specs.declared.memory.Token.{Token}
use Rattle.rows.specs.Limits.{largest_scale, longest_span}
use Rattle.rows.specs.Tests.{all}
use Rattle.model.proofs.Tags.{rises, rises_from, above}
use Rattle.model.specs.State.{Rest, Open}
use Rattle.model.specs.Tables.{tags, sound_task, tasks_fit, earliest}
use Rattle.model.specs.Planes.{sound_token, tokens_fit}
use Rattle.model.specs.Fitting.{Widths}
use Rattle.model.specs.Members.{In, here, there}
use Rattle.model.proofs.Counts.{in_all}
use Rattle.model.proofs.Bounds.{Sound}
use Rattle.model.proofs.Course.{TaskOk, Listed}
use Rattle.model.proofs.Releases.{first_release, short_span}

all_from : {X : Type 0} (t : X → Bool) (xs : List X) → ((x : X) → In x xs → t x ≡ true) → all t xs ≡ true
all_from t [] h = refl
all_from t (x ∷ xs) h = and_from (t x) (all t xs) (h x here) (all_from t xs (λ y i. h y (there i)))

all_true : {X : Type 0} (t : X → Bool) (xs : List X) → all t xs ≡ true → (x : X) → In x xs → t x ≡ true
all_true t [] h x i = elim i [ ]
all_true t (y ∷ xs) h x here = (and_parts (t x) (all t xs) h).0
all_true t (y ∷ xs) h x (there i) = all_true t xs (and_parts (t y) (all t xs) h).1 x i

module _ (p : Open) (memory : List Token) where
  abbrev n : ℕ
  n = p.board.count

  abbrev m : ℕ
  m = p.board.processors

  abbrev ks : List Token
  ks = take n memory

  abbrev tag : Token → ℕ
  tag x = x.tag

  token_fit : Sound m p.span ks → (x : Token) → In x ks → sound_token p x ≡ true
  token_fit s x i = grind (arith, nat_tests, above tag 0 ks s.tagged x i, s.low x i, s.on x i)

  fit_token : (x : Token) → sound_token p x ≡ true → (0 < x.tag) × (x.left ≤ p.span) × (x.processor ≤ m)
  fit_token x f = (grind (arith, nat_tests), grind (arith, nat_tests), grind (arith, nat_tests))

  pub sound_fit : length ks ≡ n → Sound m p.span ks → tokens_fit p memory ≡ true
  sound_fit long s =
      grind (arith, nat_tests, length-take n memory, long, rises 0 (map tag ks) s.tagged, all_from (sound_token p) ks (token_fit s), s.sum, s.own)

  -- for a call that is given any memory: what its test leaves to know are the widths of the numbers
  pub fit_sound : 1 ≤ m → m ≤ 16 → ((x : Token) → In x ks → x.tag < 2 ^ 16) → tokens_fit p memory ≡ true → (length ks ≡ n) × Sound m p.span ks
  fit_sound some few short f =
      let row : (x : Token) → In x ks → (0 < x.tag) × (x.left ≤ p.span) × (x.processor ≤ m) =
      λ x i. fit_token x (all_true (sound_token p) ks (grind (arith, nat_tests)) x i) in (
        length-take-le n memory (grind (arith, nat_tests)),
        record {
          some = some;
          few = few;
          tagged = rises_from tag 0 ks (grind (arith, nat_tests)) (λ x i. (row x i).0);
          short_tags = short;
          low = λ x i. (row x i).1;
          sum = grind (arith, nat_tests);
          on = λ x i. (row x i).2;
          own = grind (arith, nat_tests);
        },
      )

-- for a plane and memory of which their types keep the widths
pub fit_widths : (p : Open) (memory : List Token) → Widths p memory → tokens_fit p memory ≡ true → (length (ks p memory) ≡ p.board.count) × Sound p.board.processors p.span (ks p memory)
fit_widths p memory w = fit_sound p memory w.some w.few (λ x i. in_all (λ x. x.tag < 2 ^ 16) w.tags i)

module _ (b : Rest) (memory : List Task) where
  abbrev ts : List Task
  ts = take b.count memory

  task_fit : (t : Task) → 0 < t.tag → TaskOk b.scale b.tick t → sound_task b t ≡ true
  task_fit t some k = grind (arith, nat_tests, k.some, k.within, k.divides, k.past)

  fit_task : (t : Task) → t.tag < 2 ^ 16 → sound_task b t ≡ true → (0 < t.tag) × TaskOk b.scale b.tick t
  fit_task t short f = (
    grind (arith, nat_tests),
    record {
      some = grind (arith, nat_tests);
      within = grind (arith, nat_tests);
      divides = grind (arith, nat_tests);
      past = grind (arith, nat_tests);
      short = short;
    },
  )

  pub listed_fit : Listed b.count b.scale b.load ts → ((t : Task) → In t ts → TaskOk b.scale b.tick t) → tasks_fit b memory ≡ true
  listed_fit l k =
      let rows = all_from (sound_task b) ts (λ t i. task_fit t (above (λ t. t.tag) 0 ts l.tagged t i) (k t i)) in
      grind (arith, nat_tests, length-take b.count memory, l.there, rises 0 (tags ts) l.tagged, rows, l.sum)

  pub fit_listed : ((t : Task) → In t ts → t.tag < 2 ^ 16) → tasks_fit b memory ≡ true
      → Listed b.count b.scale b.load ts × ((t : Task) → In t ts → TaskOk b.scale b.tick t)
  fit_listed short f =
      let row : (t : Task) → In t ts → (0 < t.tag) × TaskOk b.scale b.tick t =
      λ t i. fit_task t (short t i) (all_true (sound_task b) ts (grind (arith, nat_tests)) t i) in (
        record {
          there = length-take-le b.count memory (grind (arith, nat_tests));
          tagged = rises_from (λ t. t.tag) 0 ts (grind (arith, nat_tests)) (λ t i. (row t i).0);
          sum = grind (arith, nat_tests);
        },
        (λ t i. (row t i).1),
      )

  -- a start from any memory that fits: the plane ends later, and is short enough
  pub fit_start : 0 < b.scale → b.scale ≤ largest_scale → ((t : Task) → In t ts → t.tag < 2 ^ 16) → tasks_fit b memory ≡ true → 0 < b.count
      → (b.tick < earliest b.tick ts) × ((earliest b.tick ts - b.tick) * b.scale ≤ longest_span)
  fit_start scaled fine short f some =
      let l = fit_listed short f in
      let long : 0 < length ts = omega (arith, l.0.there) in (
        (first_release b.scale b.tick ts long l.1).later,
        short_span b.scale b.tick ts long l.1 scaled fine,
      )
