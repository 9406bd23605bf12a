-- Cases worked by hand: boards, what is asked of them line by line, and what is answered.
use Rattle.std.specs.Prelude.{◌≡◌, ℕ, ◌-◌, ◌*◌, true, List, [], ◌∷◌, ◌++◌, map, length, replicate}
use Rattle.std.specs.List.{range_with_len}
use Rattle.rows.specs.Tests.{all}
use Rattle.rows.specs.declared.memory.Task.{Task}
use Rattle.ahead.specs.declared.release.Release.{Release}
use Rattle.ahead.specs.Ahead.{Ahead}
use Rattle.cases.specs.declared.script.Choice.TheVariants.{LargestFirst, CeilingOnly, Stayers}
use Rattle.cases.specs.declared.script.Change.{Change}
use Rattle.cases.specs.declared.script.Change.TheVariants.{Only, TaskAt, TokenAt}
use Rattle.cases.specs.declared.script.Ask.{Ask}
use Rattle.cases.specs.declared.script.Ask.TheVariants.{Admit, Withdraw, Start, Step, Finish, End, Bring, Show}
use Rattle.cases.specs.declared.script.Script.{Script}
use Rattle.cases.specs.declared.script.Answer.{Answer}
use Rattle.cases.specs.declared.script.Answer.TheVariants.{AtRest, InPlane, Ran, Finished, TaskRow, TokenRow, Refused}
use Rattle.cases.specs.Playing.{outcome, is_call}

infix 70 ◌⇒◌
infix 70 ◌⇉◌
-- a line of a script, with its answers
pub record Line : Type 0 where
  pub asks : Ask
  pub answers : List Answer

abbrev pub ◌⇉◌ : Ask → List Answer → Line
asks ⇉ answers = record { asks = asks; answers = answers }

abbrev pub ◌⇒◌ : Ask → Answer → Line
asks ⇒ answer = asks ⇉ (answer ∷ [])

abbrev pub brings : Change → Line
brings change = Bring change ⇉ []

-- what is asked
abbrev pub asked_in : List Line → List Ask
asked_in lines = map (λ l. l.asks) lines

pub record Case : Type 0 where
  pub processors : ℕ
  pub scale : ℕ
  pub rows : ℕ
  pub opens : Answer
  pub lines : List Line

abbrev pub script_of : Case → List Ask
script_of c = asked_in c.lines

-- a script in code is that of a case
abbrev pub Is : Script → Case → Type 0
Is s c = (s.processors ≡ c.processors) × (s.scale ≡ c.scale) × (s.rows ≡ c.rows) × (s.asks.now ≡ script_of c)

-- a board that opens, and memory of so many rows
abbrev pub on : ℕ → ℕ → ℕ → List Line → Case
on m q rows lines = record { processors = m; scale = q; rows = rows; opens = AtRest 0 0 0; lines = lines }

-- one that does not
abbrev pub none_on : ℕ → ℕ → ℕ → Case
none_on m q refusal = record { processors = m; scale = q; rows = 0; opens = Refused refusal; lines = [] }

-- the rows of memory as it was brought
abbrev pub old_task_row : Answer
old_task_row = TaskRow 99 98 97 96

abbrev pub old_token_row : Answer
old_token_row = TokenRow 99 98 97

-- a segment with the tags of the first processors
abbrev pub segment : ℕ → ℕ → List ℕ → Answer
segment units kind tags = Ran units kind (tags ++ replicate (16 - length tags) 0)

-- Three tasks (2, 3) on two processors, scale 3.

abbrev pub three_tasks : List Line
three_tasks =
    Admit 1 2 3 ⇒ AtRest 0 1 2
    ∷ Admit 2 2 3 ⇒ AtRest 0 2 4
    ∷ Admit 3 2 3 ⇒ AtRest 0 3 6
    ∷ Start ⇉ (InPlane 3 9 ∷ TokenRow 1 6 0 ∷ TokenRow 2 6 0 ∷ TokenRow 3 6 0 ∷ [])
    ∷ []

abbrev pub three_tasks_by_steps : Case
three_tasks_by_steps =
    on 2 3 3
    (three_tasks
    ++ Step LargestFirst ⇒ segment 3 2 (1 ∷ 2 ∷ [])
    ∷ Step LargestFirst ⇒ segment 3 3 (1 ∷ 3 ∷ [])
    ∷ Step LargestFirst ⇒ segment 3 4 (2 ∷ 3 ∷ [])
    ∷ End ⇒ AtRest 3 3 6
    ∷ [])

-- a buffer of one byte less than four records is refused
abbrev pub three_tasks_by_a_finish : Case
three_tasks_by_a_finish =
    on 2 3 3
    (three_tasks
    ++ Finish LargestFirst 51 ⇒ Refused 16
    ∷ Finish LargestFirst 52 ⇉ (Finished 3 39 ∷ segment 3 2 (1 ∷ 2 ∷ []) ∷ segment 3 3 (1 ∷ 3 ∷ []) ∷ segment 3 4 (2 ∷ 3 ∷ []) ∷ [])
    ∷ End ⇒ AtRest 3 3 6
    ∷ [])

-- Tasks (1, 6) and (4, 6) on one processor, scale 6, under two rules.

abbrev pub two_tasks : List Line
two_tasks =
    Admit 1 1 6 ⇒ AtRest 0 1 1
    ∷ Admit 2 4 6 ⇒ AtRest 0 2 5
    ∷ Start ⇉ (InPlane 6 36 ∷ TokenRow 1 6 0 ∷ TokenRow 2 24 0 ∷ [])
    ∷ []

abbrev pub two_tasks_largest_first : Case
two_tasks_largest_first =
    on 1 6 2
    (two_tasks
    ++ Step LargestFirst ⇒ segment 24 1 (2 ∷ [])
    ∷ Step LargestFirst ⇒ segment 6 1 (1 ∷ [])
    ∷ Step LargestFirst ⇒ segment 6 4 []
    ∷ [])

abbrev pub two_tasks_ceiling_only : Case
two_tasks_ceiling_only =
    on 1 6 2
    (two_tasks
    ++ Finish CeilingOnly 33 ⇉ (Finished 3 33 ∷ segment 6 1 (1 ∷ []) ∷ segment 24 1 (2 ∷ []) ∷ segment 6 4 [] ∷ [])
    ∷ End ⇒ AtRest 6 2 5
    ∷ [])

-- Three rules in one plane, over rows that came in another order.

abbrev pub four_tasks : List Line
four_tasks =
    Admit 3 4 6 ⇒ AtRest 0 1 4
    ∷ Admit 1 1 6 ⇒ AtRest 0 2 5
    ∷ Admit 4 3 6 ⇒ AtRest 0 3 8
    ∷ Admit 2 1 6 ⇒ AtRest 0 4 9
    ∷ Start ⇉ (InPlane 6 36 ∷ TokenRow 1 6 0 ∷ TokenRow 2 6 0 ∷ TokenRow 3 24 0 ∷ TokenRow 4 18 0 ∷ [])
    ∷ []

-- task 3 stays where it runs, though 1 and 2 have as much time left and lower tags
abbrev pub three_rules : Case
three_rules =
    on 2 6 4
    (four_tasks
    ++ Step LargestFirst ⇒ segment 18 1 (3 ∷ 4 ∷ [])
    ∷ Step Stayers ⇒ segment 6 1 (3 ∷ 1 ∷ [])
    ∷ Finish CeilingOnly 65 ⇉ (Finished 2 26 ∷ segment 6 1 (2 ∷ []) ∷ segment 6 4 [] ∷ [])
    ∷ End ⇒ AtRest 6 4 9
    ∷ [])

-- The eight-task table of the LLREF study.

abbrev pub seven_tasks : List Line
seven_tasks =
    Admit 1 3 7 ⇒ AtRest 0 1 29225040
    ∷ Admit 2 1 16 ⇒ AtRest 0 2 33487025
    ∷ Admit 3 5 19 ⇒ AtRest 0 3 51432225
    ∷ Admit 4 4 5 ⇒ AtRest 0 4 105985633
    ∷ Admit 5 2 26 ⇒ AtRest 0 5 111231153
    ∷ Admit 6 15 26 ⇒ AtRest 0 6 150572553
    ∷ Admit 7 20 29 ⇒ AtRest 0 7 197601353
    ∷ []

abbrev pub eight_tasks : Case
eight_tasks =
    on 4 68191760 8
    (seven_tasks
    ++ Admit 8 14 17 ⇒ AtRest 0 8 253759273
    ∷ Start
    ⇉ (InPlane 5 340958800 ∷ TokenRow 1 146125200 0 ∷ TokenRow 2 21309925 0 ∷ TokenRow 3 89726000 0 ∷ TokenRow 4 272767040 0 ∷ TokenRow 5 26227600 0 ∷ TokenRow 6 196707000 0 ∷ TokenRow 7 235144000 0 ∷ TokenRow 8 280789600 0 ∷ [])
    ∷ Finish LargestFirst 153
    ⇉ (Finished 9 153
    ∷ segment 194833600 2 (4 ∷ 6 ∷ 7 ∷ 8 ∷ [])
    ∷ segment 77933440 1 (4 ∷ 1 ∷ 3 ∷ 8 ∷ [])
    ∷ segment 21309925 1 (2 ∷ 1 ∷ 5 ∷ 7 ∷ [])
    ∷ segment 8022560 1 (3 ∷ 1 ∷ 8 ∷ 7 ∷ [])
    ∷ segment 3770000 1 (3 ∷ 1 ∷ 5 ∷ 7 ∷ [])
    ∷ segment 1147675 1 (6 ∷ 1 ∷ 5 ∷ 7 ∷ [])
    ∷ segment 725725 1 (6 ∷ 1 ∷ 0 ∷ 7 ∷ [])
    ∷ segment 5334515 1 (0 ∷ 1 ∷ 0 ∷ 7 ∷ [])
    ∷ segment 27881360 4 (0 ∷ 1 ∷ 0 ∷ 0 ∷ [])
    ∷ [])
    ∷ End ⇒ AtRest 5 8 253759273
    ∷ [])

abbrev pub eight_tasks_on_three : Case
eight_tasks_on_three = on 3 68191760 8 (seven_tasks ++ Admit 8 14 17 ⇒ Refused 9 ∷ [])

-- What is admitted: the first refusal that applies, up to a load of all that the processors have.

abbrev pub admissions : Case
admissions =
    on 1 6 2
    (Start ⇒ Refused 12
    ∷ Admit 0 4 3 ⇒ Refused 4
    ∷ Admit 1 4 3 ⇒ Refused 5
    ∷ Admit 1 0 3 ⇒ Refused 5
    ∷ Admit 1 1 0 ⇒ Refused 5
    ∷ Admit 1 1 4 ⇒ Refused 6
    ∷ Admit 65535 3 3 ⇒ AtRest 0 1 6
    ∷ Admit 65535 1 4 ⇒ Refused 6
    ∷ Admit 65535 1 6 ⇒ Refused 7
    ∷ Admit 1 1 6 ⇒ Refused 9
    ∷ Withdraw 0 ⇒ Refused 10
    ∷ Withdraw 65535 ⇒ AtRest 0 0 0
    ∷ Withdraw 65535 ⇒ Refused 10
    ∷ [])

-- memory of just as many rows as there are tasks
abbrev pub full_memory : Case
full_memory =
    on 1 6 2
    (Admit 2 1 2 ⇒ AtRest 0 1 3
    ∷ Admit 1 1 3 ⇒ AtRest 0 2 5
    ∷ Admit 2 1 6 ⇒ Refused 7
    ∷ Admit 3 2 6 ⇒ Refused 8
    ∷ Show ⇉ (TaskRow 1 1 3 0 ∷ TaskRow 2 1 2 0 ∷ old_token_row ∷ old_token_row ∷ [])
    ∷ Start ⇉ (InPlane 2 12 ∷ TokenRow 1 4 0 ∷ TokenRow 2 6 0 ∷ [])
    ∷ Finish Stayers 33 ⇉ (Finished 3 33 ∷ segment 4 1 (1 ∷ []) ∷ segment 6 1 (2 ∷ []) ∷ segment 2 4 [] ∷ [])
    ∷ [])

-- Between planes. Tasks (1, 2) and (1, 3) on one processor, scale 6: at tick 2 task 1 may leave and task 2 may not.

abbrev pub leaving : Case
leaving =
    on 1 6 3
    (Admit 1 1 2 ⇒ AtRest 0 1 3
    ∷ Admit 2 1 3 ⇒ AtRest 0 2 5
    ∷ Start ⇉ (InPlane 2 12 ∷ TokenRow 1 6 0 ∷ TokenRow 2 4 0 ∷ [])
    ∷ Finish LargestFirst 33 ⇉ (Finished 3 33 ∷ segment 6 1 (1 ∷ []) ∷ segment 4 1 (2 ∷ []) ∷ segment 2 4 [] ∷ [])
    ∷ End ⇒ AtRest 2 2 5
    ∷ Withdraw 2 ⇒ Refused 11
    ∷ Withdraw 3 ⇒ Refused 10
    ∷ Withdraw 1 ⇒ AtRest 2 1 2
    ∷ Show
    ⇉ (TaskRow 2 1 3 0 ∷ TaskRow 0 0 0 0 ∷ old_task_row ∷ TokenRow 1 0 0 ∷ TokenRow 2 0 0 ∷ old_token_row ∷ [])
    ∷ Admit 1 2 3 ⇒ AtRest 2 2 6
    ∷ Start ⇉ (InPlane 3 6 ∷ TokenRow 1 4 0 ∷ TokenRow 2 2 0 ∷ [])
    ∷ Finish CeilingOnly 33 ⇉ (Finished 2 22 ∷ segment 4 3 (1 ∷ []) ∷ segment 2 4 (2 ∷ []) ∷ [])
    ∷ End ⇒ AtRest 3 2 6
    ∷ Withdraw 1 ⇒ Refused 11
    ∷ Withdraw 2 ⇒ AtRest 3 1 4
    ∷ Show
    ⇉ (TaskRow 1 2 3 2 ∷ TaskRow 0 0 0 0 ∷ old_task_row ∷ TokenRow 1 0 0 ∷ TokenRow 2 0 1 ∷ old_token_row ∷ [])
    ∷ [])

-- Sixteen of the longest planes end at the last tick, and no other starts; tasks still come and go.

abbrev pub longest_plane : ℕ → List Line
longest_plane k =
    Start ⇉ (InPlane (k * 134217728) 18014398509481984 ∷ TokenRow 1 134217728 0 ∷ [])
    ∷ Finish LargestFirst 22 ⇉ (Finished 2 22 ∷ segment 134217728 1 (1 ∷ []) ∷ segment 18014398375264256 4 [] ∷ [])
    ∷ End ⇒ AtRest (k * 134217728) 1 1
    ∷ []

abbrev pub longest_planes : List ℕ → List Line
longest_planes [] = []
longest_planes (k ∷ ks) = longest_plane k ++ longest_planes ks

abbrev pub past_last_tick : List Line
past_last_tick =
    Start ⇒ Refused 13
    ∷ Admit 2 1 1 ⇒ Refused 9
    ∷ Admit 2 1 2 ⇒ AtRest 2147483648 2 67108865
    ∷ Withdraw 1 ⇒ AtRest 2147483648 1 67108864
    ∷ Start ⇒ Refused 13
    ∷ []

abbrev pub longest_task : List Line
longest_task = Admit 1 1 134217728 ⇒ AtRest 0 1 1 ∷ []

abbrev pub last_tick : Case
last_tick = on 1 134217728 2 (longest_task ++ longest_planes (range_with_len 1 16) ++ past_last_tick)

-- A plane is over or it is not, whatever memory comes with the call.

abbrev pub order_in_a_plane : Case
order_in_a_plane =
    on 1 6 2
    (two_tasks
    ++ End ⇒ Refused 17
    ∷ Step CeilingOnly ⇒ segment 6 1 (1 ∷ [])
    ∷ End ⇒ Refused 17
    ∷ Finish LargestFirst 32 ⇒ Refused 16
    ∷ Finish LargestFirst 33 ⇉ (Finished 2 22 ∷ segment 24 1 (2 ∷ []) ∷ segment 6 4 [] ∷ [])
    ∷ brings (Only 0 0)
    ∷ Step LargestFirst ⇒ Refused 15
    ∷ Finish LargestFirst 0 ⇒ Refused 15
    ∷ End ⇒ AtRest 6 2 5
    ∷ Start ⇒ Refused 3
    ∷ [])

-- Task memory that does not fit: one row is not the board's. Then it is put right again.

abbrev pub refused_at_rest : List Line
refused_at_rest = Admit 0 1 6 ⇒ Refused 3 ∷ Withdraw 1 ⇒ Refused 3 ∷ Start ⇒ Refused 3 ∷ []

abbrev pub other_task_memory : Case
other_task_memory =
    on 1 6 4
    (Admit 1 1 2 ⇒ AtRest 0 1 3
    ∷ Admit 2 1 3 ⇒ AtRest 0 2 5
    ∷ brings (TaskAt 0 0 1 2 0) ∷ refused_at_rest
    ++ brings (TaskAt 0 1 0 2 0) ∷ refused_at_rest
    ++ brings (TaskAt 0 1 3 2 0) ∷ refused_at_rest
    ++ brings (TaskAt 0 1 1 0 0) ∷ refused_at_rest
    ++ brings (TaskAt 0 1 2 4 0) ∷ refused_at_rest
    ++ brings (TaskAt 0 1 1 2 1) ∷ refused_at_rest
    ++ brings (TaskAt 0 2 1 2 0) ∷ refused_at_rest
    ++ brings (TaskAt 0 1 1 6 0) ∷ refused_at_rest
    ++ brings (TaskAt 0 1 1 2 0)
    ∷ brings (TaskAt 2 1 9 2 7)
    ∷ Admit 3 1 6 ⇒ AtRest 0 3 6
    ∷ brings (Only 4 2)
    ∷ Start ⇒ Refused 3
    ∷ brings (Only 2 2) ∷ refused_at_rest)

-- Token memory that does not fit, in the same way. Other tags and times do fit, as long as they go together.

abbrev pub refused_in_plane : List Line
refused_in_plane = Step LargestFirst ⇒ Refused 3 ∷ Finish LargestFirst 0 ⇒ Refused 3 ∷ []

abbrev pub other_token_memory : Case
other_token_memory =
    on 2 6 4
    (four_tasks
    ++ brings (TokenAt 0 1 36 0) ∷ refused_in_plane
    ++ brings (TokenAt 0 1 6 0)
    ∷ Step LargestFirst ⇒ segment 18 1 (3 ∷ 4 ∷ [])
    ∷ brings (TokenAt 0 0 6 0) ∷ refused_in_plane
    ++ brings (TokenAt 0 2 6 0) ∷ refused_in_plane
    ++ brings (TokenAt 0 1 19 0) ∷ refused_in_plane
    ++ brings (TokenAt 0 1 6 3) ∷ refused_in_plane
    ++ brings (TokenAt 0 1 6 1) ∷ refused_in_plane
    ++ brings (TokenAt 0 1 12 0)
    ∷ brings (TokenAt 3 65535 12 2)
    ∷ Step LargestFirst ⇒ segment 12 3 (1 ∷ 65535 ∷ [])
    ∷ brings (Only 4 3) ∷ refused_in_plane
    ++ End ⇒ Refused 17 ∷ [])

abbrev pub openings : List Case
openings = on 1 1 0 [] ∷ on 16 134217728 0 [] ∷ none_on 0 0 1 ∷ none_on 17 3 1 ∷ none_on 1 0 2 ∷ none_on 16 134217729 2 ∷ []

-- calls only
abbrev pub runs : List Case
runs =
    three_tasks_by_steps
    ∷ three_tasks_by_a_finish
    ∷ two_tasks_largest_first
    ∷ two_tasks_ceiling_only
    ∷ three_rules
    ∷ eight_tasks
    ∷ eight_tasks_on_three
    ∷ admissions
    ∷ full_memory
    ∷ leaving
    ∷ last_tick
    ∷ []

-- calls that meet other memory than the ones before left
abbrev pub cases : List Case
cases = openings ++ runs ++ order_in_a_plane ∷ other_task_memory ∷ other_token_memory ∷ []

abbrev pub expected : Case → List (List Answer)
expected c = (c.opens ∷ []) ∷ map (λ l. l.answers) c.lines

abbrev pub comes_out : Case → List (List Answer)
comes_out c = outcome c.processors c.scale c.rows (script_of c)

-- each line of each case is answered as it is written
abbrev pub WorkedCasesComeOut : Type 0
WorkedCasesComeOut = map comes_out cases ≡ map expected cases

-- those of calls only are made of calls only
abbrev pub WorkedRunsAreCalls : Type 0
WorkedRunsAreCalls = all (λ c. all is_call (script_of c)) runs ≡ true

-- From tick 0, the releases ahead of tasks (1, 2) and (1, 3) are 2/1, 3/2, 4/1, 6/1 and 6/2.

abbrev pub task : ℕ → ℕ → ℕ → Task
task tag execution period = record { tag = tag; execution = execution; period = period; release = 0 }

abbrev pub release : ℕ → ℕ → Release
release tick tag = record { tick = tick; tag = tag }

abbrev pub WorkedReleasesAreAhead : Type 0
WorkedReleasesAreAhead =
    Ahead (task 1 1 2 ∷ task 2 1 3 ∷ []) 0 (release 2 1 ∷ release 3 2 ∷ release 4 1 ∷ release 6 1 ∷ release 6 2 ∷ [])
