-- Memory that fits a board is a table whose releases can be listed.
use Rattle.std.proofs.Common.{◌≡◌, ℕ, Bool, true, ◌&&◌, ltb, leb, List, length, take, Ok, Result, sym, ◌∙◌}
use Rattle.std.proofs.lemmas.List.{length-take-le}
use Rattle.std.proofs.lemmas.Bool.{and_from}
use Rattle.rows.specs.declared.memory.Task.{Task}
use Rattle.rows.specs.declared.refusal.Refusal.{Refusal}
use Rattle.rows.specs.declared.refusal.Refusal.TheVariants.{Memory, NoTask, Places}
use Rattle.rows.specs.Tests.{rising, all}
use Rattle.model.specs.State.{Rest, unless}
use Rattle.model.specs.Tables.{tags, tasks_fit}
use Rattle.ahead.specs.Ahead.{timely, most_places, answer_ahead}
use Rattle.planner.specs.Upcoming.{upcoming_answer}
use Rattle.planner.proofs.Releases.{sound_timely}
use Rattle.planner.proofs.Withdrawals.{fit_parts}

-- the same answer, by the board's own tests
pub fits_answer : (b : Rest) (ts : List Task) (memory places : ℕ) → tasks_fit b ts ≡ true → answer_ahead (take b.count ts) b.tick memory places ≡ upcoming_answer b ts memory places
fits_answer b ts memory places fits =
    let parts = fit_parts b ts fits in
    let rows = take b.count ts in
    let long = length-take-le b.count ts parts.there in
    let ok : (rising (tags rows) && all (timely b.tick) rows) ≡ tasks_fit b ts = and_from _ _ parts.sorted (sound_timely b rows parts.sound) ∙ sym fits in
    by (Ok tt) (length rows) b.count (rising (tags rows) && all (timely b.tick) rows) (tasks_fit b ts) long ok
  where
    by : (r : Result (Unit {0}) Refusal) (k n : ℕ) (c d : Bool) → k ≡ n → c ≡ d
        → unless c Memory (unless (ltb 0 k) NoTask (unless (leb places most_places && leb k memory) Places r))
        ≡ unless d Memory (unless (ltb 0 n) NoTask (unless (leb places most_places && leb n memory) Places r))
    by r k n c d e f = λ i. unless (f i) Memory (unless (ltb 0 (e i)) NoTask (unless (leb places most_places && leb (e i) memory) Places r))
