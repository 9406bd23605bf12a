-- Worked runs, computed from the definitions.
use Rattle.std.proofs.Common.{◌≡◌, ℕ, zero, suc, List, [], ◌∷◌, ◌++◌, map, reverse, take, drop, replicate, refl, arith, lit<}
use Rattle.rows.specs.declared.memory.Task.{Task}
use Rattle.rows.specs.declared.memory.Token.{Token}
use Rattle.rules.specs.Keys.{Lawful, ceiling_only, largest_first}
use Rattle.model.specs.Tables.{zeros}
use Rattle.model.specs.Histories.{ran_in}
use Rattle.model.specs.Runs.{World, resting, running, Memory}
use Rattle.model.proofs.Largest.{lawful}
use Rattle.model.proofs.Listed.{Ask, admit, withdraw, start, step, finish, end, reached}

ceiling_lawful : Lawful ceiling_only
ceiling_lawful span left p p' tag tag' a b c d e f g h = grind arith

nothing : Token
nothing = record { tag = 0; left = 0; processor = 0 }

abbrev memory : Memory
memory = record { tasks = replicate 4 zeros; tokens = replicate 4 nothing }

-- the world after calls on a board just opened
abbrev after : ℕ → ℕ → List Ask → World
after m q asks = (reached (resting (record { processors = m; scale = q; tick = 0; count = 0; load = 0 }) memory []) asks).0

-- its segments in order: length, kind and the tags of so many processors
abbrev plan : ℕ → World → List (List ℕ)
plan m (resting b brought h) = map (λ s. s.units ∷ s.kind ∷ take m s.row) (reverse (ran_in h))
plan m (running p brought h) = map (λ s. s.units ∷ s.kind ∷ take m s.row) (reverse (ran_in h))

-- the tick, the count of tasks and the load of its board, and what remains of its plane
abbrev stand : World → ℕ × ℕ × ℕ × ℕ
stand (resting b brought h) = (b.tick, b.count, b.load, 0)
stand (running p brought h) = (p.board.tick, p.board.count, p.board.load, p.span)

abbrev largest : Ask
largest = step largest_first lawful

abbrev ceiling : Ask
ceiling = step ceiling_only ceiling_lawful

abbrev finish_largest : ℕ → Ask
finish_largest n = finish largest_first lawful (replicate n 7)

-- Three tasks on two processors, step by step and by a finish, of which the records are read again.
abbrev three : List Ask
three = admit 1 2 3 (lit< tt) ∷ admit 2 2 3 (lit< tt) ∷ admit 3 2 3 (lit< tt) ∷ start ∷ []

abbrev three_plan : List (List ℕ)
three_plan = (3 ∷ 2 ∷ 1 ∷ 2 ∷ []) ∷ (3 ∷ 3 ∷ 1 ∷ 3 ∷ []) ∷ (3 ∷ 4 ∷ 2 ∷ 3 ∷ []) ∷ []

three_steps : plan 2 (after 2 3 (three ++ largest ∷ largest ∷ largest ∷ end ∷ [])) ≡ three_plan
three_steps = refl

three_finish : plan 2 (after 2 3 (three ++ finish_largest 52 ∷ end ∷ [])) ≡ three_plan
three_finish = refl

-- rows go to their places by tag, in whichever order they come
abbrev three_turned : List Ask
three_turned = admit 2 2 3 (lit< tt) ∷ admit 3 2 3 (lit< tt) ∷ admit 1 2 3 (lit< tt) ∷ start ∷ []

turned : plan 2 (after 2 3 (three_turned ++ finish_largest 52 ∷ end ∷ [])) ≡ three_plan
turned = refl

-- Two tasks on one processor, under two rules.
abbrev two : List Ask
two = admit 1 1 6 (lit< tt) ∷ admit 2 4 6 (lit< tt) ∷ start ∷ []

two_largest : plan 1 (after 1 6 (two ++ finish_largest 33 ∷ [])) ≡ (24 ∷ 1 ∷ 2 ∷ []) ∷ (6 ∷ 1 ∷ 1 ∷ []) ∷ (6 ∷ 4 ∷ 0 ∷ []) ∷ []
two_largest = refl

two_ceiling : plan 1 (after 1 6 (two ++ finish ceiling_only ceiling_lawful (replicate 33 7) ∷ [])) ≡ (6 ∷ 1 ∷ 1 ∷ []) ∷ (24 ∷ 1 ∷ 2 ∷ []) ∷ (6 ∷ 4 ∷ 0 ∷ []) ∷ []
two_ceiling = refl

-- Both in one plane: first the lowest tag, then the most time left.
abbrev mixed : List Ask
mixed = admit 1 1 6 (lit< tt) ∷ admit 2 1 6 (lit< tt) ∷ admit 3 2 6 (lit< tt) ∷ start ∷ ceiling ∷ finish_largest 44 ∷ []

two_rules : plan 1 (after 1 6 mixed) ≡ (6 ∷ 1 ∷ 1 ∷ []) ∷ (12 ∷ 1 ∷ 3 ∷ []) ∷ (6 ∷ 1 ∷ 2 ∷ []) ∷ (12 ∷ 4 ∷ 0 ∷ []) ∷ []
two_rules = refl

-- What is refused changes nothing: a short buffer, an end while the plane is open, and a step when it is over.
refused : after 1 6 (two ++ finish_largest 32 ∷ end ∷ largest ∷ finish_largest 33 ∷ largest ∷ []) ≡ after 1 6 (two ++ largest ∷ finish_largest 33 ∷ [])
refused = refl

-- Nor does an admission of tag 0, of too long an execution time, of a period that does not divide the scale, of a tag that is
-- present, or of more than there is room for; nor a withdrawal of an absent tag.
abbrev no_admission : List Ask
no_admission =
    admit 0 1 6 (lit< tt) ∷ admit 3 4 3 (lit< tt) ∷ admit 3 1 4 (lit< tt) ∷ admit 2 1 6 (lit< tt) ∷ admit 3 1 3 (lit< tt) ∷ withdraw 3 ∷ []

abbrev both : List Ask
both = admit 1 1 6 (lit< tt) ∷ admit 2 4 6 (lit< tt) ∷ []

not_admitted : after 1 6 (both ++ no_admission) ≡ after 1 6 both
not_admitted = refl

-- Between planes: at tick 2 the first task may leave and the second may not. Admitted again it is served from its new release on.
abbrev one_plane : List Ask
one_plane = admit 1 1 2 (lit< tt) ∷ admit 2 1 3 (lit< tt) ∷ start ∷ finish_largest 33 ∷ end ∷ []

leaves : stand (after 1 6 (one_plane ++ withdraw 1 ∷ [])) ≡ (2, 1, 2, 0)
leaves = refl

stays : after 1 6 (one_plane ++ withdraw 2 ∷ []) ≡ after 1 6 one_plane
stays = refl

again : stand (after 1 6 (one_plane ++ withdraw 1 ∷ admit 1 1 2 (lit< tt) ∷ start ∷ finish ceiling_only ceiling_lawful (replicate 33 7) ∷ end ∷ [])) ≡ (3, 2, 5, 0)
again = refl

-- Rows past the count of tasks stay as they were, in both memories.
abbrev old_task : Task
old_task = record { tag = 9; execution = 8; period = 7; release = 6 }

abbrev old_token : Token
old_token = record { tag = 9; left = 8; processor = 7 }

abbrev used : List Ask → World
used asks =
    (reached (resting (record { processors = 1; scale = 6; tick = 0; count = 0; load = 0 })
    (record { tasks = replicate 4 old_task; tokens = replicate 4 old_token }) []) asks).0

abbrev past : ℕ → World → List Task × List Token
past n (resting b brought h) = (drop n brought.tasks, drop n brought.tokens)
past n (running p brought h) = (drop n brought.tasks, drop n brought.tokens)

past_start : past 2 (used (two ++ largest ∷ [])) ≡ (replicate 2 old_task, replicate 2 old_token)
past_start = refl

past_finish : past 2 (used (two ++ finish_largest 33 ∷ end ∷ [])) ≡ (replicate 2 old_task, replicate 2 old_token)
past_finish = refl

-- a withdrawal sets the row behind the last task to zeros
past_withdrawal : past 1 (used (both ++ withdraw 1 ∷ [])) ≡ (zeros ∷ replicate 2 old_task, replicate 3 old_token)
past_withdrawal = refl

-- Sixteen of the longest planes end at the last tick, and no other starts.
abbrev planes : ℕ → List Ask
planes zero = []
planes (suc n) = start ∷ finish_largest 22 ∷ end ∷ planes n

abbrev longest : List Ask
longest = admit 1 1 134217728 (lit< tt) ∷ planes 16

last_plane : stand (after 1 134217728 longest) ≡ (2147483648, 1, 1, 0)
last_plane = refl

no_plane_past : after 1 134217728 (longest ++ start ∷ []) ≡ after 1 134217728 longest
no_plane_past = refl
