-- A script of calls, made one after the other on a board just opened, as the calls are defined.
use Rattle.std.specs.Prelude.{◌≡◌, ℕ, Bool, true, false, List, [], ◌∷◌, ◌++◌, map, reverse, take, set, replicate, Ok, Err, Result, nat_lt}
use Rattle.rows.specs.declared.refusal.Refusal.{Refusal}
use Rattle.rows.specs.declared.memory.Task.{Task}
use Rattle.rows.specs.declared.memory.Token.{Token}
use Rattle.rows.specs.Tests.{all}
use Rattle.rows.specs.Refusals.{refusal_number}
use Rattle.rules.specs.Keys.{Key, largest_first, ceiling_only, stayers}
use Rattle.plan_file.specs.Records.{Segment}
use Rattle.model.specs.State.{Rest, Open, opened, ended}
use Rattle.model.specs.Tables.{admitted, withdrawn, started}
use Rattle.model.specs.Planes.{stepped, segment_of, finished, segments_of}
use Rattle.model.specs.Histories.{admission, beginning, ran}
use Rattle.model.specs.Runs.{World, resting, running, Memory, with_tasks, with_tokens, Run}
use Rattle.cases.specs.declared.script.Choice.{Choice}
use Rattle.cases.specs.declared.script.Choice.TheVariants.{LargestFirst, CeilingOnly, Stayers}
use Rattle.cases.specs.declared.script.Change.{Change}
use Rattle.cases.specs.declared.script.Change.TheVariants.{Only, TaskAt, TokenAt}
use Rattle.cases.specs.declared.script.Ask.{Ask}
use Rattle.cases.specs.declared.script.Ask.TheVariants.{Admit, Withdraw, Start, Step, Finish, End, Bring, Show}
use Rattle.cases.specs.declared.script.Answer.{Answer}
use Rattle.cases.specs.declared.script.Answer.TheVariants.{AtRest, InPlane, Ran, Finished, TaskRow, TokenRow, Refused}

abbrev pub key : Choice → Key
key LargestFirst = largest_first
key CeilingOnly = ceiling_only
key Stayers = stayers

-- memory of so many rows, used before
abbrev pub old_task : Task
old_task = record { tag = 99; execution = 98; period = 97; release = 96 }

abbrev pub old_token : Token
old_token = record { tag = 99; left = 98; processor = 97 }

abbrev pub used : ℕ → Memory
used rows = record { tasks = replicate rows old_task; tokens = replicate rows old_token }

-- memory after the caller's own change
abbrev pub changed : Memory → Change → Memory
changed m (Only tasks tokens) = record { tasks = take tasks m.tasks; tokens = take tokens m.tokens }
changed m (TaskAt i tag execution period release) =
    with_tasks m (set m.tasks i (record { tag = tag; execution = execution; period = period; release = release }))
changed m (TokenAt i tag left processor) =
    with_tokens m (set m.tokens i (record { tag = tag; left = left; processor = processor }))

-- answers

abbrev pub at_rest : Rest → List Answer
at_rest b = AtRest b.tick b.count b.load ∷ []

abbrev pub task_row : Task → Answer
task_row t = TaskRow t.tag t.execution t.period t.release

abbrev pub token_row : Token → Answer
token_row x = TokenRow x.tag x.left x.processor

abbrev pub in_plane : Open → List Token → List Answer
in_plane p tokens = InPlane p.end p.span ∷ map token_row (take p.board.count tokens)

abbrev pub ran_as : Segment → Answer
ran_as s = Ran s.units s.kind s.row

abbrev pub shown : Memory → List Answer
shown m = map task_row m.tasks ++ map token_row m.tokens

-- the world and the answers after a call that gave `r`: a refusal leaves the world
abbrev pub told : {A : Type 0} → World → (A → World × List Answer) → Result A Refusal → World × List Answer
told w accepted (Ok r) = accepted r
told w accepted (Err e) = (w, Refused (refusal_number e) ∷ [])

-- One line of a script. A call out of order, which does not compile, is not made.
abbrev pub asked : World → Ask → World × List Answer
asked (resting b m h) (Admit tag execution period) =
    told (resting b m h) (λ r. (resting r.0 (with_tasks m r.1) (admission tag ∷ h), at_rest r.0))
    (admitted b m.tasks tag execution period)
asked (resting b m h) (Withdraw tag) =
    told (resting b m h) (λ r. (resting r.0 (with_tasks m r.1) h, at_rest r.0))
    (withdrawn b m.tasks tag)
asked (resting b m h) Start =
    told (resting b m h) (λ r. (running r.0 (with_tokens m r.1) (beginning ∷ h), in_plane r.0 r.1))
    (started b m.tasks m.tokens)
asked (resting b m h) (Step rule) = (resting b m h, [])
asked (resting b m h) (Finish rule room) = (resting b m h, [])
asked (resting b m h) End = (resting b m h, [])
asked (resting b m h) (Bring change) = (resting b (changed m change) h, [])
asked (resting b m h) Show = (resting b m h, shown m)
asked (running p m h) (Admit tag execution period) = (running p m h, [])
asked (running p m h) (Withdraw tag) = (running p m h, [])
asked (running p m h) Start = (running p m h, [])
asked (running p m h) (Step rule) =
    told (running p m h) (λ r. (running r.0.0 (with_tokens m r.0.1) (ran (segment_of r) ∷ h), ran_as (segment_of r) ∷ []))
    (stepped p m.tokens (key rule))
asked (running p m h) (Finish rule room) =
    told (running p m h)
    (λ r. (
      running r.0.0 (with_tokens m r.0.1) (map ran (reverse (segments_of r)) ++ h),
      Finished r.1.0 r.1.1 ∷ map ran_as (segments_of r),
    ))
    (finished p m.tokens (key rule) (replicate room 0))
asked (running p m h) End =
    told (running p m h) (λ b. (resting b m h, at_rest b))
    (ended p)
asked (running p m h) (Bring change) = (running p (changed m change) h, [])
asked (running p m h) Show = (running p m h, shown m)

-- the world after all lines
abbrev pub after : World → List Ask → World
after w [] = w
after w (a ∷ script) = after (asked w a).0 script

-- a line that brings no other memory, and whose tag has 16 bits
abbrev pub is_call : Ask → Bool
is_call (Admit tag execution period) = nat_lt tag 65536
is_call (Withdraw tag) = true
is_call Start = true
is_call (Step rule) = true
is_call (Finish rule room) = true
is_call End = true
is_call (Bring change) = false
is_call Show = true

-- A script of calls is a run, so that what holds after every run holds after it.
abbrev pub ScriptsAreRuns : Type 0
ScriptsAreRuns = (w : World) (script : List Ask) → all is_call script ≡ true → Run w (after w script)

-- the answers to each line
abbrev pub played : World → List Ask → List (List Answer)
played w [] = []
played w (a ∷ script) = (asked w a).1 ∷ played (asked w a).0 script

-- the answers to opening a board and then to each line, over memory of so many rows
abbrev pub outcome : ℕ → ℕ → ℕ → List Ask → List (List Answer)
outcome processors scale rows script =
    elim (opened processors scale) [
      | Ok b ↦ at_rest b ∷ played (resting b (used rows) []) script
      | Err e ↦ (Refused (refusal_number e) ∷ []) ∷ []
    ]
