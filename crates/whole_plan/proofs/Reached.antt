-- The run of calls that a whole plan makes: its admissions.
use Rattle.std.proofs.Common.{◌≡◌, ℕ, ◌+◌, ◌^◌, ◌<◌, ◌≤◌, Bool, true, false, cond, eqb, ltb, List, [], ◌∷◌, ◌++◌, reverse, length, take, drop, Ok, filter, Result, sym, refl, ap, ◌∙◌, subst, ⊎_elim, arith, take_at}
use Rattle.std.specs.List.{AllByRecursion}
use Rattle.std.proofs.lemmas.Bool.{cases_lt, lt-ltb}
use Rattle.rows.specs.declared.refusal.Refusal.{Refusal}
use Rattle.rows.specs.declared.memory.Task.{Task}
use Rattle.rows.specs.Tests.{has}
use Rattle.plan_file.specs.Records.{Segment}
use Rattle.table_file.specs.declared.table.TableRow.{TableRow}
use Rattle.model.specs.State.{Rest}
use Rattle.model.specs.Tables.{tags, placed, fresh, admitted}
use Rattle.model.specs.Histories.{Event, admission, ran_in, since_admission}
use Rattle.model.specs.Runs.{World, resting, Memory, with_tasks, answered, Run, then, admit}
use Rattle.model.specs.Members.{In, here, there}
use Rattle.model.proofs.Counts.{in_cons}
use Rattle.model.proofs.Placing.{absent, length_placed}
use Rattle.model.proofs.Processors.{kept_in}
use Rattle.model.proofs.Resting.{Resting}
use Rattle.model.proofs.Accepted.{Admitted, admitted_ok}
use Rattle.model.proofs.Calls.{Inv, always}
use Rattle.whole_plan.specs.Planning.{rows_admitted}
use Rattle.whole_plan.proofs.Words.{value, then_ok}

-- A board at rest that a run has reached, with the segments so far, all of them made after the last admission.
pub record Reached (first : World) (b : Rest) (m : Memory) (ss : List Segment) : Type 0 where
  pub history : List Event
  pub run : Run first (resting b m history)
  pub made : ran_in history ≡ reverse ss
  pub since : (tag : ℕ) → since_admission tag history ≡ ran_in history

-- one call more, accepted
pub run_on : {A : Type 0} (first w : World) (next : A → World) (d : Result A Refusal) (a : A) → Run first (answered w next d) → d ≡ Ok a → Run first (next a)
run_on first w next d a run e = subst (λ d. Run first (answered w next d)) e run

-- Members of lists.

in_left : {X : Type 0} {u : X} (xs ys : List X) → In u xs → In u (xs ++ ys)
in_left [] ys i = elim i [ ]
in_left (x ∷ xs) ys here = here
in_left (x ∷ xs) ys (there i) = there (in_left xs ys i)

in_right : {X : Type 0} {u : X} (xs ys : List X) → In u ys → In u (xs ++ ys)
in_right [] ys i = i
in_right (x ∷ xs) ys i = there (in_right xs ys i)

-- a row that is placed stands there, and so do the others
placed_there : (t : Task) (ts : List Task) → In t (placed t ts)
placed_there t ts = in_right (filter (λ x. ltb x.tag t.tag) ts) _ here

placed_others : (t u : Task) (ts : List Task) → has t.tag (tags ts) ≡ false → In u ts → In u (placed t ts)
placed_others t u ts new i =
    ⊎_elim
    (λ l. in_left (filter (λ x. ltb x.tag t.tag) ts) _ (kept_in (λ x. ltb x.tag t.tag) u ts i (lt-ltb u.tag t.tag l)))
    (λ g. in_right (filter (λ x. ltb x.tag t.tag) ts) _ (there (kept_in (λ x. ltb t.tag x.tag) u ts i (lt-ltb t.tag u.tag (other g)))))
    (cases_lt u.tag t.tag)
  where
    other : t.tag ≤ u.tag → t.tag < u.tag
    other g = ⊎_elim (λ l. l) (λ h. absurd (absent t.tag ts new u i (omega arith))) (cases_lt t.tag u.tag)

module _ (first : World) (start : Inv first) where
  pub at_rest : {b : Rest} {m : Memory} {ss : List Segment} (r : Reached first b m ss) → Resting b (take b.count m.tasks) r.history
  at_rest {b} {m} r = always first (resting b m r.history) start r.run

  -- What admissions leave: the board has its tasks, those of the rows among them, and nothing has run.
  pub record Grown (b : Rest) (m : Memory) (rows : List TableRow) (r : Rest × List Task) : Type 0 where
    pub reached : Reached first r.0 (with_tasks m r.1) []
    pub processors : r.0.processors ≡ b.processors
    pub scale : r.0.scale ≡ b.scale
    pub tick : r.0.tick ≡ b.tick
    pub count : r.0.count ≡ b.count + length rows
    pub kept : (u : Task) → In u (take b.count m.tasks) → In u (take r.0.count r.1)
    pub new : (row : TableRow) → In row rows → In (fresh b row.tag row.execution row.period) (take r.0.count r.1)

  module _ (b : Rest) (m : Memory) (row : TableRow) (r : Rest × List Task) (short : row.tag < 2 ^ 16) (o : Reached first b m [])
      (e : admitted b m.tasks row.tag row.execution row.period ≡ Ok r) where
    abbrev t : Task
    t = fresh b row.tag row.execution row.period

    abbrev ts : List Task
    ts = take b.count m.tasks

    k : Admitted b m.tasks row.tag row.execution row.period r
    k = admitted_ok b m.tasks row.tag row.execution row.period r e

    stands : (u : Task) → In u (placed t ts) → In u (take r.0.count r.1)
    stands u i =
        let front : take (b.count + 1) (placed t ts ++ drop (b.count + 1) m.tasks) ≡ placed t ts =
        take_at (placed t ts) (drop (b.count + 1) m.tasks) (b.count + 1) (omega (arith, length_placed t ts k.new, (at_rest o).listed.there)) in
        subst (λ r. In u (take r.0.count r.1)) k.is (subst (In u) (sym front) i)

    admit_reached : Reached first r.0 (with_tasks m r.1) []
    admit_reached = record {
      history = admission row.tag ∷ o.history;
      run = run_on first (resting b m o.history) (λ r. resting r.0 (with_tasks m r.1) (admission row.tag ∷ o.history)) _ r
          (then o.run (admit b m o.history row.tag row.execution row.period short)) e;
      made = o.made;
      since = λ u. none_since (eqb row.tag u) _ _ (o.since u) o.made;
    }
      where
        none_since : (b : Bool) (since all : List Segment) → since ≡ all → all ≡ [] → cond b [] since ≡ all
        none_since true since all e n = sym n
        none_since false since all e n = e

    -- one admission and those behind it
    one_grown : (rows : List TableRow) (last : Rest × List Task) → Grown r.0 (with_tasks m r.1) rows last → Grown b m (row ∷ rows) last
    one_grown rows last g =
        let tick : r.0.tick ≡ b.tick = ap (λ r. r.0.tick) (sym k.is) in
        record {
          reached = g.reached;
          processors = g.processors ∙ ap (λ r. r.0.processors) (sym k.is);
          scale = g.scale ∙ ap (λ r. r.0.scale) (sym k.is);
          tick = g.tick ∙ tick;
          count = omega (arith, g.count, ap (λ r. r.0.count) (sym k.is));
          kept = λ u i. g.kept u (stands u (placed_others t u ts k.new i));
          new = λ x i. ⊎_elim
              (λ e. subst (λ x. In (fresh b x.tag x.execution x.period) (take last.0.count last.1)) (sym e) (g.kept t (stands t (placed_there t ts))))
              (λ j. subst (λ n. In (record { tag = x.tag; execution = x.execution; period = x.period; release = n }) (take last.0.count last.1)) tick (g.new x j))
              (in_cons x row rows i);
        }

  pub rows_grown : (b : Rest) (m : Memory) (rows : List TableRow) (r : Rest × List Task) → AllByRecursion (λ row. row.tag < 2 ^ 16) rows → Reached first b m []
      → rows_admitted b m.tasks rows ≡ Ok r → Grown b m rows r
  rows_grown b m [] r short o e =
      let is = value _ r e in
      subst (Grown b m []) is (record {
        reached = o;
        processors = refl;
        scale = refl;
        tick = refl;
        count = omega arith;
        kept = λ u i. i;
        new = λ x i. elim i [ ];
      })
  rows_grown b m (row ∷ rows) r short o e =
      let a = then_ok (admitted b m.tasks row.tag row.execution row.period) _ r e in
      one_grown b m row a.0 short.0 o a.1 rows r
      (rows_grown a.0.0 (with_tasks m a.0.1) rows r short.1 (admit_reached b m row a.0 short.0 o a.1) a.2)
