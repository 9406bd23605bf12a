-- What is true of every world that a run reaches.
use Rattle.std.proofs.Common.{◌≡◌, ℕ, ◌+◌, ◌-◌, List, ◌∷◌, ◌++◌, map, reverse, length, take, drop, Ok, Err, Result, sym, refl, subst, take_at}
use Rattle.rows.specs.declared.refusal.Refusal.{Refusal}
use Rattle.rows.specs.declared.memory.Task.{Task}
use Rattle.rows.specs.declared.memory.Token.{Token}
use Rattle.plan_file.specs.Records.{Segment}
use Rattle.model.specs.State.{Rest, Open, ended}
use Rattle.model.specs.Tables.{admitted, withdrawn, started}
use Rattle.model.specs.Planes.{AfterStep, stepped, segment_of, AfterFinish, finished, segments_of}
use Rattle.model.specs.Histories.{Event, ran, admission, beginning}
use Rattle.model.specs.Runs.{Call, admit, withdraw, start, step, finish, end, Run, none, then, World, resting, running, with_tasks, with_tokens, answered}
use Rattle.model.proofs.Course.{Running, step_running, steps_running}
use Rattle.model.proofs.Finishes.{all_writable, finish_back}
use Rattle.model.proofs.Resting.{Resting, admit_rests, withdraw_rests, start_runs, end_rests}
use Rattle.model.proofs.Accepted.{admitted_ok, withdrawn_ok, started_ok, stepped_ok, finished_ok, ended_ok}

abbrev pub Inv : World → Type 0
Inv (resting b m h) = Resting b (take b.count m.tasks) h
Inv (running p m h) = Running p (take p.board.count m.tasks) (take p.board.count m.tokens) h

-- a refusal leaves the world as it was
kept : {A : Type 0} (w : World) (next : A → World) (r : Result A Refusal) → Inv w → ((a : A) → r ≡ Ok a → Inv (next a)) → Inv (answered w next r)
kept w next (Ok a) h g = g a refl
kept w next (Err e) h g = h

-- the first rows of memory are those that were written
rests_in : {b : Rest} {ts : List Task} {h : List Event} (n : ℕ) (more : List Task) → length ts ≡ n → Resting b ts h → Resting b (take n (ts ++ more)) h
rests_in {b} {ts} {h} n more e r = subst (λ us. Resting b us h) (sym (take_at ts more n e)) r

runs_in : {p : Open} {ts : List Task} {ks : List Token} {h : List Event} (n : ℕ) (more : List Token) → length ks ≡ n → Running p ts ks h → Running p ts (take n (ks ++ more)) h
runs_in {p} {ts} {ks} {h} n more e r = subst (λ us. Running p ts us h) (sym (take_at ks more n e)) r

reads : {p : Open} {ts : List Task} {ks : List Token} (h : List Event) {ss rs : List Segment} → ss ≡ rs → Running p ts ks (map ran (reverse ss) ++ h) → Running p ts ks (map ran (reverse rs) ++ h)
reads {p} {ts} {ks} h e r = subst (λ ss. Running p ts ks (map ran (reverse ss) ++ h)) e r

after_call : {v w : World} → Call v w → Inv v → Inv w
after_call (admit b m h tag c p fits) o =
    kept (resting b m h) _ (admitted b m.tasks tag c p) o (λ a e.
    let k = admitted_ok b m.tasks tag c p a e in
    let r = admit_rests b (take b.count m.tasks) h tag c p o fits k.tagged k.some k.within k.divides k.new k.bound in
    let P : Rest × List Task → Type 0 = λ r. Inv (resting r.0 (with_tasks m r.1) (admission tag ∷ h)) in
    subst P k.is (rests_in (b.count + 1) _ r.listed.there r))
after_call (withdraw b m h tag) o =
    kept (resting b m h) _ (withdrawn b m.tasks tag) o (λ a e.
    let k = withdrawn_ok b m.tasks tag a e in
    let r = withdraw_rests b (take b.count m.tasks) h tag k.row o k.there in
    let P : Rest × List Task → Type 0 = λ r. Inv (resting r.0 (with_tasks m r.1) h) in
    subst P k.is (rests_in (b.count - 1) _ r.listed.there r))
after_call (start b m h) o =
    kept (resting b m h) _ (started b m.tasks m.tokens) o (λ a e.
    let k = started_ok b m.tasks m.tokens a e in
    let r = start_runs b (take b.count m.tasks) h o k.some in
    let P : Open × List Token → Type 0 = λ r. Inv (running r.0 (with_tokens m r.1) (beginning ∷ h)) in
    subst P k.is (runs_in b.count _ r.there r))
after_call (step p m h key law) o =
    kept (running p m h) _ (stepped p m.tokens key) o (λ a e.
    let n = p.board.count in
    let k = stepped_ok p m.tokens key a e in
    let r = step_running p (take n m.tasks) (take n m.tokens) h key law k.going o in
    let P : AfterStep → Type 0 = λ r. Inv (running r.0.0 (with_tokens m r.0.1) (ran (segment_of r) ∷ h)) in
    subst P k.is (runs_in n _ r.there r))
after_call (finish p m h key law buffer) o =
    kept (running p m h) _ (finished p m.tokens key buffer) o (λ a e.
    let n = p.board.count in
    let ks = take n m.tokens in
    let k = finished_ok p m.tokens key buffer a e in
    let r = steps_running (n + 1) p (take n m.tasks) ks h key law o in
    let back = finish_back p m.tokens key buffer (all_writable p.board.processors n p.span ks o.there o.sound o.short key law) in
    let P : AfterFinish → Type 0 = λ r. Inv (running r.0.0 (with_tokens m r.0.1) (map ran (reverse (segments_of r)) ++ h)) in
    subst P k.is (reads h (sym back) (runs_in n (drop n m.tokens) r.there r)))
after_call (end p m h) o =
    kept (running p m h) _ (ended p) o (λ b e.
    let k = ended_ok p b e in
    subst (λ r. Inv (resting r m h)) k.is (end_rests p _ _ h o k.over))

pub always : (first w : World) → Inv first → Run first w → Inv w
always first _ o none = o
always first _ o (then run call) = after_call call (always first _ o run)
