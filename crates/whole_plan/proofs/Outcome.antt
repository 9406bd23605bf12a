-- The whole plan of a table whose rows are all admitted: which of its ends it comes to.
use Rattle.std.proofs.Common.{◌≡◌, ℕ, zero, suc, ◌+◌, ◌*◌, ◌^◌, ◌<◌, ◌≤◌, Bool, true, false, leb, List, [], ◌∷◌, ◌++◌, map, length, take, is_ok, Some, None, Ok, Err, Result, sym, refl, ap, ◌∙◌, subst, mul-le-mul_right, mul-le-mul, le_of_mul-le-mul_right, arith}
use Rattle.std.specs.List.{range_with_len, AllByRecursion}
use Rattle.std.proofs.ByRecursion.{All-weaker}
use Rattle.std.proofs.lemmas.Bool.Decides.{nat_tests}
use Rattle.std.proofs.lemmas.Bool.{leb-true}
use Rattle.rows.specs.declared.refusal.Refusal.{Refusal}
use Rattle.rows.specs.declared.refusal.Refusal.TheVariants.{PastLastTick, PlanBuffer}
use Rattle.rows.specs.declared.memory.Task.{Task}
use Rattle.rows.specs.Limits.{last_tick}
use Rattle.rows.specs.Tests.{distinct}
use Rattle.plan_file.specs.Faults as faults
use Rattle.plan_file.specs.Records.{Segment, record_size, records_bytes}
use Rattle.plan_file.specs.RoundTrip.{Below, Writable, EachWritable}
use Rattle.plan_file.specs.Writing.{header_bytes}
use Rattle.plan_file.specs.Opening.{file_processors, file_scale}
use Rattle.plan_file.specs.Files.{file_bytes, file_fault, file_segments}
use Rattle.plan_file.proofs.WholeFile.{written_file_reads}
use Rattle.table_file.specs.declared.table.TableRow.{TableRow}
use Rattle.table_file.specs.Tables.{table_fault, table_processors, table_scale, table_planes, table_count, table_row_at, table_rows}
use Rattle.table_file.proofs.TableRows.{rows_count}
use Rattle.model.specs.State.{Rest, opened, unless}
use Rattle.model.specs.Tables.{fresh}
use Rattle.model.specs.Histories.{total}
use Rattle.model.specs.Runs.{resting, Memory, none}
use Rattle.model.specs.Members.{In}
use Rattle.model.proofs.Counts.{all_in}
use Rattle.model.proofs.Releases.{divides}
use Rattle.model.proofs.Resting.{Resting}
use Rattle.model.proofs.Accepted.{Opened, opened_ok}
use Rattle.model.proofs.Calls.{Inv}
use Rattle.whole_plan.specs.Planning.{rows_admitted, no_tasks, no_tokens, table_admitted, Planned, plane_room, planes_planned, plan_room, whole_plan, records}
use Rattle.whole_plan.specs.Ends.{tick_after, Released, planes_check}
use Rattle.whole_plan.proofs.Words.{then_ok, then_on, then_err}
use Rattle.whole_plan.proofs.Reached.{Grown, at_rest, rows_grown}
use Rattle.whole_plan.specs.Serving.{start_of, ServesEveryPeriod, PlanServesEveryPeriod}
use Rattle.whole_plan.proofs.Through.{few_bytes}
use Rattle.whole_plan.proofs.Headed.{header_fine}
use Rattle.whole_plan.proofs.Splits.{start, at_release, Split, Whole, in_time, late}
use Rattle.whole_plan.proofs.Periods.{Long, starts_later, served_within}

-- What is no table, and a table whose rows are not all admitted.

pub no_table : (table : List ℕ) (room : ℕ) (e : Refusal) → table_fault table ≡ Some e → whole_plan table room ≡ Err e
no_table table room e f = then_err _ (ap (λ f. faults.answered f table) f)

opens_table : (table : List ℕ) → table_fault table ≡ None → faults.answered (table_fault table) table ≡ Ok table
opens_table table f = ap (λ f. faults.answered f table) f

pub not_admitted : (table : List ℕ) (room : ℕ) (e : Refusal) → table_fault table ≡ None → table_admitted table ≡ Err e → whole_plan table room ≡ Err e
not_admitted table room e f h = then_on _ (opens_table table f) ∙ then_err _ h

each_writable : (m : ℕ) (ss : List Segment) → AllByRecursion (Writable m) ss → EachWritable m ss
each_writable m [] h = tt
each_writable m (s ∷ ss) h = (h.0, each_writable m ss h.1)

-- tags of 16 bits
short_tags : (table : List ℕ) → Below 256 table → (i n : ℕ) → AllByRecursion (λ row. row.tag < 2 ^ 16) (map (table_row_at table) (range_with_len i n))
short_tags table bytes i zero = tt
short_tags table bytes i (suc n) = (omega (arith, bytes (14 + 10 * i), bytes (14 + 10 * i + 1)), short_tags table bytes (i + 1) n)

module _ (table : List ℕ) (bytes : Below 256 table) (whole : table_fault table ≡ None) (b : Rest) (tasks : List Task) (set : table_admitted table ≡ Ok (b, tasks)) where
  pub opening : (b₀ : Rest) × (opened (table_processors table) (table_scale table) ≡ Ok b₀) × (rows_admitted b₀ no_tasks (table_rows table) ≡ Ok (b, tasks))
  opening = then_ok (opened (table_processors table) (table_scale table)) _ (b, tasks) set

  abbrev pub b₀ : Rest
  b₀ = opening.0

  abbrev pub memory : Memory
  memory = record { tasks = no_tasks; tokens = no_tokens }

  opens : Opened (table_processors table) (table_scale table) b₀
  opens = opened_ok (table_processors table) (table_scale table) b₀ opening.1

  pub inv : Inv (resting b₀ memory [])
  inv = start (table_processors table) (table_scale table) b₀ memory opening.1

  pub grown : Grown (resting b₀ memory []) inv b₀ memory (table_rows table) (b, tasks)
  grown = rows_grown (resting b₀ memory []) inv b₀ memory (table_rows table) (b, tasks) (short_tags table bytes 0 (table_count table))
      (record { history = []; run = none; made = refl; since = λ tag. refl }) opening.2

  abbrev pub ts : List Task
  ts = take b.count tasks

  -- the board and its tasks
  pub counted : b.count ≡ table_count table
  counted = omega (arith, grown.count, rows_count table, ap (λ x. x.count) opens.is)

  pub of_processors : b.processors ≡ table_processors table
  of_processors = grown.processors ∙ ap (λ x. x.processors) (sym opens.is)

  pub of_scale : b.scale ≡ table_scale table
  of_scale = grown.scale ∙ ap (λ x. x.scale) (sym opens.is)

  pub began : b.tick ≡ 0
  began = grown.tick ∙ ap (λ x. x.tick) (sym opens.is)

  sizes : (1 ≤ table_count table) × (table_count table ≤ 256)
  sizes = (grind (arith, nat_tests), grind (arith, nat_tests))

  rests : Resting b ts grown.reached.history
  rests = at_rest (resting b₀ memory []) inv grown.reached

  pub some : 0 < b.count
  some = omega (arith, counted, sizes.0)

  pub rows : 0 < length ts
  rows = omega (arith, rests.listed.there, some)

  pub ready : AllByRecursion (Released 0) ts
  ready = all_in (Released 0) ts (λ t i.
      let k = rests.tasks t i in
      record {
        past = omega (arith, k.past, began);
        some = omega (arith, k.some, k.within);
        few = omega (arith, divides b.scale t.period rests.board.scaled k.divides, rests.board.fine);
      })

  pub room : b.count ≤ length no_tokens
  room = omega (arith, counted, sizes.1)

  abbrev pub planes : ℕ
  planes = table_planes table

  pub planes_in_time : leb (tick_after planes ts) last_tick ≡ true → Whole (table_processors table) (table_scale table) b₀ memory opening.1 b (record { tasks = tasks; tokens = no_tokens }) grown.reached some room rows began ready planes
  planes_in_time h = in_time (table_processors table) (table_scale table) b₀ memory opening.1 b (record { tasks = tasks; tokens = no_tokens }) grown.reached some room rows began ready planes h

  pub few : b.count ≤ 256
  few = omega (arith, counted, sizes.1)

  -- Its ends.

  late_whole : (space : ℕ) → leb (tick_after planes ts) last_tick ≡ false → whole_plan table space ≡ Err PastLastTick
  late_whole space h =
      let l = late (table_processors table) (table_scale table) b₀ memory opening.1 b (record { tasks = tasks; tokens = no_tokens }) grown.reached some room rows began ready planes h in
      then_on _ (opens_table table whole) ∙ then_on _ set ∙ then_err _ l

  -- the plan file of planes that go through
  abbrev pub file : ℕ → List ℕ
  file k = header_bytes b.processors b.scale ++ records (planes_planned k b tasks no_tokens)

  judged : (space : ℕ) → leb (tick_after planes ts) last_tick ≡ true → whole_plan table space ≡ unless (leb (plan_room planes b) space) PlanBuffer (Ok (file planes))
  judged space h =
      let w = (planes_in_time h).goes in
      then_on _ (opens_table table whole) ∙ then_on _ set ∙ then_on _ w
      ∙ ap (λ d. unless (leb (plan_room planes b) space) PlanBuffer (Ok (header_bytes (table_processors table) (table_scale table) ++ records d))) (sym w)
      ∙ ap (λ m. unless (leb (plan_room planes b) space) PlanBuffer (Ok (header_bytes m (table_scale table) ++ records (planes_planned planes b tasks no_tokens)))) (sym of_processors)
      ∙ ap (λ q. unless (leb (plan_room planes b) space) PlanBuffer (Ok (header_bytes b.processors q ++ records (planes_planned planes b tasks no_tokens)))) (sym of_scale)

  -- It is no longer than the room that is asked for, and that is bounded.

  records_few : (k : ℕ) (d : Result Planned Refusal) → planes_planned k b tasks no_tokens ≡ d → length (records d) ≤ k * plane_room b
  records_few k (Ok done) e = (few_bytes b tasks no_tokens k done e).0
  records_few k (Err r) e = omega arith

  file_few : (k : ℕ) → length (file k) ≤ plan_room k b
  file_few k = omega (arith, records_few k (planes_planned k b tasks no_tokens) refl)

  room_bounded : plan_room planes b ≤ 690542305
  room_bounded =
      let few-planes : planes ≤ 65535 = omega (arith, bytes 10, bytes 11) in
      let records : b.count + 1 ≤ 257 = omega (arith, few) in
      let size : record_size b.processors ≤ 41 = omega (arith, rests.board.few) in
      let plane : plane_room b ≤ 257 * 41 = mul-le-mul records size in
      omega (arith, mul-le-mul few-planes plane)

  -- Read back, it serves every task of the table.

  module _ (h : leb (tick_after planes ts) last_tick ≡ true) where
    w : Whole (table_processors table) (table_scale table) b₀ memory opening.1 b (record { tasks = tasks; tokens = no_tokens }) grown.reached some room rows began ready planes
    w = planes_in_time h

    abbrev m : ℕ
    m = table_processors table

    abbrev q : ℕ
    q = table_scale table

    abbrev ss : List Segment
    ss = w.segments

    writable : AllByRecursion (Writable m) ss
    writable = subst (λ m. AllByRecursion (Writable m) ss) of_processors w.writable

    long : AllByRecursion Long ss
    long = All-weaker (Writable m) Long (λ s k. let f = k.faultless in grind (arith, nat_tests)) ss writable

    units : total ss ≡ tick_after planes ts * q
    units = (at_release m q b₀ memory opening.1 w.reached).0 ∙ ap (λ q. tick_after planes ts * q) of_scale

    file_is : file planes ≡ file_bytes m q ss
    file_is =
        ap (λ d. header_bytes b.processors b.scale ++ records d) w.goes
        ∙ ap (λ m. header_bytes m b.scale ++ records_bytes m ss) of_processors
        ∙ ap (λ q. header_bytes m q ++ records_bytes m ss) of_scale

    read_back : (file_fault (file_bytes m q ss) ≡ None) × (file_processors (file_bytes m q ss) ≡ m) × (file_scale (file_bytes m q ss) ≡ q) × (file_segments (file_bytes m q ss) ≡ ss)
    read_back = written_file_reads m q ss (header_fine m q 10 opens.some opens.few opens.scaled opens.fine (omega arith)) (each_writable m ss writable)

    row_served : (row : TableRow) → In row (table_rows table) → ServesEveryPeriod q ss row
    row_served row i k l =
        let t = fresh b₀ row.tag row.execution row.period in
        let there : In t ts = grown.new row i in
        let within : (k + 1) * row.period ≤ tick_after planes ts = le_of_mul-le-mul_right (omega (arith, units, l)) opens.scaled in
        let before : k * row.period ≤ tick_after planes ts = omega (arith, within) in
        served_within q t k ss long (subst (λ q. Split q t k ss) of_scale (w.splits t there k before)) (subst (λ q. Split q t (k + 1) ss) of_scale (w.splits t there (k + 1) within))

    serves : PlanServesEveryPeriod table (file planes)
    serves = subst (PlanServesEveryPeriod table) (sym file_is) (record {
      reads = read_back.0;
      processors = read_back.1;
      scale = read_back.2;
      each_start_is_later = subst (λ ss. (i : ℕ) → i + 1 < length ss → start_of ss i < start_of ss (i + 1)) (sym read_back.3) (starts_later ss long);
      no_task_twice = subst (AllByRecursion (λ s. distinct s.row ≡ true)) (sym read_back.3) (All-weaker (Writable m) _ (λ s k. k.apart) ss writable);
      every_period_served = subst (λ ss. AllByRecursion (ServesEveryPeriod q ss) (table_rows table)) (sym read_back.3) (all_in _ (table_rows table) row_served);
      long_enough = subst (λ ss. planes * q ≤ total ss) (sym read_back.3) (omega (arith, units, mul-le-mul_right q w.lasts));
    })

  -- what is known of the plan once the check has passed
  pub record Passed (k space : ℕ) : Type 0 where
    pub fine : is_ok (planes_planned k b tasks no_tokens) ≡ true
    pub room : plan_room k b ≤ space
    pub is : whole_plan table space ≡ Ok (file k)
    pub short : length (file k) ≤ space
    pub bounded : length (file k) ≤ 690542305
    pub serves : PlanServesEveryPeriod table (file k)

  module _ (k : ℕ) (is : k ≡ planes) (space : ℕ) where
    pub refused : (e : Refusal) → Err e ≡ planes_check k b tasks space → whole_plan table space ≡ Err e
    refused e h = go (leb (tick_after planes ts) last_tick) (leb (plan_room planes b) space) refl refl (h ∙ ap (λ k. planes_check k b tasks space) is)
      where
        same : (e f : Refusal) → ◌≡◌ {A = Result (Unit {0}) Refusal} (Err e) (Err f) → f ≡ e
        same e f h = cc

        go : (t u : Bool) → leb (tick_after planes ts) last_tick ≡ t → leb (plan_room planes b) space ≡ u
            → Err e ≡ unless t PastLastTick (unless u PlanBuffer (Ok (tt {0}))) → whole_plan table space ≡ Err e
        go true true p q h = absurd (cc)
        go true false p q h = judged space p ∙ ap (λ t. unless t PlanBuffer (Ok (file planes))) q ∙ ap Err (same e PlanBuffer h)
        go false u p q h = late_whole space p ∙ ap Err (same e PastLastTick h)

    pub passes : Ok (tt {0}) ≡ planes_check k b tasks space → Passed k space
    passes h = subst (λ k. Passed k space) (sym is)
        (go (leb (tick_after planes ts) last_tick) (leb (plan_room planes b) space) refl refl (h ∙ ap (λ k. planes_check k b tasks space) is))
      where
        go : (t u : Bool) → leb (tick_after planes ts) last_tick ≡ t → leb (plan_room planes b) space ≡ u
            → Ok (tt {0}) ≡ unless t PastLastTick (unless u PlanBuffer (Ok (tt {0}))) → Passed planes space
        go true true p q h =
            let r = leb-true (plan_room planes b) space q in
            record {
              fine = ap is_ok (planes_in_time p).goes;
              room = r;
              is = judged space p ∙ ap (λ t. unless t PlanBuffer (Ok (file planes))) q;
              short = omega (arith, file_few planes, r);
              bounded = omega (arith, file_few planes, room_bounded);
              serves = serves p;
            }
        go true false p q h = absurd (cc)
        go false u p q h = absurd (cc)
