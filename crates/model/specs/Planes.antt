-- An open plane over token memory: a step of it, and a finish.
use Rattle.std.specs.Prelude.{ℕ, zero, suc, ◌+◌, ◌*◌, ◌<◌, Bool, cond, ◌&&◌, List, [], ◌∷◌, ◌++◌, map, length, take, drop, Ok, sum_by, Result, ◌==◌, nat_le, nat_lt}
use Rattle.rows.specs.declared.refusal.Refusal.{Refusal}
use Rattle.rows.specs.declared.refusal.Refusal.TheVariants.{Memory, PlaneOver, BufferShort}
use Rattle.rows.specs.declared.memory.Token.{Token}
use Rattle.rows.specs.Tests.{distinct, rising, all}
use Rattle.rules.specs.Keys.{Key}
use Rattle.plan_file.specs.Records.{Segment, record_size, records_bytes, segments_at}
use Rattle.model.specs.State.{Open, unless}
use Rattle.model.specs.Steps.{step}

-- a row that may stand in the plane
abbrev pub sound_token : Open → Token → Bool
sound_token p x = nat_lt 0 x.tag && nat_le x.left p.span && nat_le x.processor p.board.processors

-- token memory fits the plane
abbrev pub tokens_fit : Open → List Token → Bool
tokens_fit p memory =
    let n = p.board.count in
    let m = p.board.processors in
    let rows = take n memory in
    nat_le n (length memory) && rising (map (λ x. x.tag) rows) && all (sound_token p) rows
    && nat_le (sum_by (λ x. x.left) rows) (m * p.span) && distinct (map (λ x. x.processor) rows)

-- a plane with another span
abbrev pub with_span : Open → ℕ → Open
with_span p span = record { board = p.board; end = p.end; span = span }

-- after a step: the plane, the token memory and the row that it fills; its answer is its length and kind
abbrev pub AfterStep : Type 0
AfterStep = (Open × List Token × List ℕ) × (ℕ × ℕ)

abbrev pub stepped : Open → List Token → Key → Result AfterStep Refusal
stepped p memory key =
    let n = p.board.count in
    let s = step p.board.processors key p.span (take n memory) in
    unless (nat_lt 0 p.span) PlaneOver
    (unless (tokens_fit p memory) Memory
    (Ok ((with_span p s.span, s.tokens ++ drop n memory, s.segment.row), (s.segment.units, s.segment.kind))))

-- its segment: the row, with the length and the kind
abbrev pub segment_of : AfterStep → Segment
segment_of r = record { units = r.1.0; kind = r.1.1; row = r.0.2 }

-- steps until the span is 0, `most` of them at the most: the segments, the span and the tokens
abbrev pub steps : ℕ → ℕ → Key → ℕ → List Token → List Segment × ℕ × List Token
steps zero m key span ts = ([], span, ts)
steps (suc most) m key span ts =
    let s = step m key span ts in
    let more = steps most m key s.span s.tokens in
    cond (span == 0) ([], span, ts) (s.segment ∷ more.0, more.1, more.2)

-- after a finish: the plane, the token memory and the plan buffer; its answer is the count of its steps and of its bytes
abbrev pub AfterFinish : Type 0
AfterFinish = (Open × List Token × List ℕ) × (ℕ × ℕ)

-- one step more than there are tasks ends every plane
abbrev pub finished : Open → List Token → Key → List ℕ → Result AfterFinish Refusal
finished p memory key buffer =
    let n = p.board.count in
    let m = p.board.processors in
    let done = steps (n + 1) m key p.span (take n memory) in
    let bytes = records_bytes m done.0 in
    unless (nat_lt 0 p.span) PlaneOver
    (unless (tokens_fit p memory) Memory
    (unless (nat_le ((n + 1) * record_size m) (length buffer)) BufferShort
    (Ok (
      (with_span p done.1, done.2 ++ drop n memory, bytes ++ drop (length bytes) buffer),
      (length done.0, length bytes),
    ))))

-- its segments, read from the records in the buffer
abbrev pub segments_of : AfterFinish → List Segment
segments_of r = segments_at r.0.0.board.processors r.1.0 (take r.1.1 r.0.2)

-- steps from a span and tokens until the span is 0, however many: the segments and the tokens
pub data StepsOut (m : ℕ) (key : Key) : ℕ → List Token → List Segment → List Token → Type 0 where
  over : (ts : List Token) → StepsOut m key 0 ts [] ts
  more : (span : ℕ) (ts : List Token) (ss : List Segment) (us : List Token) → 0 < span
      → StepsOut m key (step m key span ts).span (step m key span ts).tokens ss us
      → StepsOut m key span ts ((step m key span ts).segment ∷ ss) us
