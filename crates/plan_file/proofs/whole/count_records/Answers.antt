use Rattle.std.proofs.Common.{◌≡◌, ℕ, ◌^◌, ◌<◌, ◌≤◌, List, length, drop, None, Ok, Option, sym, ap, ◌∙◌, div-le_self, arith, rules}
use Rattle.std.proofs.lemmas.List.{length-drop}
use Rattle.std.proofs.lemmas.Result.{err_from_is_err_and}
use Rattle.rows.specs.declared.refusal.Refusal.{Refusal}
use Rattle.plan_file.specs.Records.{record_size}
use Rattle.plan_file.specs.Faults.{answered, or_else}
use Rattle.plan_file.specs.Heads.{event_head}
use Rattle.plan_file.specs.Reading.{in_heads}
use Rattle.plan_file.specs.Opening.{open_fault, file_processors}
use Rattle.plan_file.specs.Files.{records_in, records_fault, file_fault, file_records}
use Rattle.plan_file.proofs.ReadOn.{Took, took_on, ended_on, failed_on}
use Rattle.plan_file.proofs.whole.count_records.Goals as goal

took : (c : goal.In-Some) → Took (file_processors c.args.file.now) c.args.file.now c.loop-count.reader.place c.next_record.new.self.place (event_head c.in-Some.field-0)
took c =
    let i = c.loop-count.invariant in
    let e = c.in_ok-next_record.ensures in
    took_on c.loop-count.reader.place i.1 (ap (λ h. h.processors) i.2) _ _ (ap (λ o. in_heads (Ok o)) (sym c.in-Some.is) ∙ e.answer) e.moves

-- the answer to a file whose header opens
opened : (file : List ℕ) {f : Option Refusal} → open_fault file ≡ None → records_fault (file_processors file) (drop 10 file) ≡ f → answered f (file_records file) ≡ answered (file_fault file) (file_records file)
opened file o r =
    sym (ap (λ g. answered (or_else g (records_fault (file_processors file) (drop 10 file))) (file_records file)) o ∙ ap (λ g. answered g (file_records file)) r)

pub returns-in_err-next_record : goal.returns-in_err-next_record
returns-in_err-next_record c =
    let i = c.loop-count.invariant in
    let p = err_from_is_err_and c.from_residual-in_err-next_record.result c.from_residual-in_err-next_record.ensures.1 in
    let f = failed_on c.loop-count.reader.place i.1 (ap (λ h. h.processors) i.2) _ c.in_err-next_record.ensures.answer in
    rw (p.1, p.2) (opened c.args.file.now i.0 (sym i.3 ∙ f))

pub overflow_add-count : goal.overflow_add-count
overflow_add-count c =
    let file = c.args.file.now in
    let m = file_processors file in
    let i = c.loop-count.invariant.4 in
    let l = length-drop 10 file in
    let d : records_in m (drop 10 file) ≤ length (drop 10 file) = div-le_self (length (drop 10 file)) (record_size m) in
    let k = (took c).counts in
    let b : length file < 2 ^ 64 = search rules in
    omega arith

pub loop-count-smaller : goal.loop-count-smaller
loop-count-smaller c =
    let t = took c in
    let a = t.at in
    let b = t.inside in
    omega arith

pub loop-count-preserved : goal.loop-count-preserved
loop-count-preserved c =
    let i = c.loop-count.invariant in
    let e = c.in_ok-next_record.ensures in
    let t = took c in
    let k = t.counts in
    let j = i.4 in
    (i.0, ap (λ x. x.now) e.same.0 ∙ i.1, e.same.1 ∙ i.2, sym t.faults ∙ i.3, omega arith)

pub returns : goal.returns
returns c =
    let i = c.loop-count.invariant in
    let k = ended_on c.loop-count.reader.place i.1 (ap (λ h. h.processors) i.2) (ap (λ o. in_heads (Ok o)) (sym c.in_default.is) ∙ c.in_ok-next_record.ensures.answer) in
    let z = k.2 in
    let j = i.4 in
    ap Ok (omega arith) ∙ opened c.args.file.now i.0 (sym i.3 ∙ k.1)
