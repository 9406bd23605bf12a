-- The calls of a script, one after the other, are a run.
use Rattle.std.proofs.Common.{◌≡◌, true, List, [], ◌∷◌, replicate, Ok, Err, Result, refl, subst, arith, ltb-true}
use Rattle.std.proofs.lemmas.Bool.{and_parts}
use Rattle.std.proofs.lemmas.Bool.Decides.{nat_tests}
use Rattle.rows.specs.declared.refusal.Refusal.{Refusal}
use Rattle.rows.specs.Tests.{all}
use Rattle.rules.specs.Keys.{Lawful}
use Rattle.model.specs.State.{ended}
use Rattle.model.specs.Tables.{admitted, withdrawn, started}
use Rattle.model.specs.Planes.{stepped, finished}
use Rattle.model.specs.Runs
use Rattle.model.specs.Runs.{World, resting, running, answered, Call, Run, none, then}
use Rattle.model.proofs.Largest.{lawful}
use Rattle.cases.specs.declared.script.Choice.{Choice}
use Rattle.cases.specs.declared.script.Choice.TheVariants.{LargestFirst, CeilingOnly, Stayers}
use Rattle.cases.specs.declared.script.Ask.{Ask}
use Rattle.cases.specs.declared.script.Ask.TheVariants.{Admit, Withdraw, Start, Step, Finish, End, Bring, Show}
use Rattle.cases.specs.declared.script.Answer.{Answer}
use Rattle.cases.specs.Playing.{key, told, asked, after, is_call, ScriptsAreRuns}

law : (rule : Choice) → Lawful (key rule)
law LargestFirst = lawful
law CeilingOnly = λ span left p p' tag tag' a b c d e f g h. grind (arith, nat_tests)
law Stayers = λ span left p p' tag tag' a b c d e f g h. grind (arith, nat_tests)

-- the world after an answer is the one that is told of
same : {A : Type 0} (w : World) (accepted : A → World × List Answer) (r : Result A Refusal) → answered w (λ a. (accepted a).0) r ≡ (told w accepted r).0
same w accepted (Ok a) = refl
same w accepted (Err e) = refl

-- one call more
one : {v : World} (w : World) (a : Ask) → is_call a ≡ true → Run v w → Run v (asked w a).0
one {v} (resting b m h) (Admit tag execution period) ok run =
    subst (Run v) (same (resting b m h) _ (admitted b m.tasks tag execution period)) (then run (Runs.admit b m h tag execution period (ltb-true tag 65536 ok)))
one {v} (resting b m h) (Withdraw tag) ok run =
    subst (Run v) (same (resting b m h) _ (withdrawn b m.tasks tag)) (then run (Runs.withdraw b m h tag))
one {v} (resting b m h) Start ok run =
    subst (Run v) (same (resting b m h) _ (started b m.tasks m.tokens)) (then run (Runs.start b m h))
one (resting b m h) (Step rule) ok run = run
one (resting b m h) (Finish rule room) ok run = run
one (resting b m h) End ok run = run
one (resting b m h) (Bring change) ok run = cc
one (resting b m h) Show ok run = run
one (running p m h) (Admit tag execution period) ok run = run
one (running p m h) (Withdraw tag) ok run = run
one (running p m h) Start ok run = run
one {v} (running p m h) (Step rule) ok run =
    subst (Run v) (same (running p m h) _ (stepped p m.tokens (key rule))) (then run (Runs.step p m h (key rule) (law rule)))
one {v} (running p m h) (Finish rule room) ok run =
    subst (Run v) (same (running p m h) _ (finished p m.tokens (key rule) (replicate room 0))) (then run (Runs.finish p m h (key rule) (law rule) (replicate room 0)))
one {v} (running p m h) End ok run = subst (Run v) (same (running p m h) _ (ended p)) (then run (Runs.end p m h))
one (running p m h) (Bring change) ok run = cc
one (running p m h) Show ok run = run

more : {v : World} (w : World) (script : List Ask) → all is_call script ≡ true → Run v w → Run v (after w script)
more w [] ok run = run
more w (a ∷ script) ok run =
    let parts = and_parts (is_call a) (all is_call script) ok in
    more (asked w a).0 script parts.1 (one w a parts.0 run)

pub scripts_are_runs : ScriptsAreRuns
scripts_are_runs w script ok = more w script ok none
