-- A step over any memory that fits its plane leaves memory that fits, and a segment that a plan file can hold.
use Rattle.std.proofs.Common.{◌≡◌, ◌^◌, ◌<◌, true, List, ◌++◌, length, take, drop, sym, ◌∙◌, subst, arith, take_at}
use Rattle.std.specs.List.{AllByRecursion}
use Rattle.std.proofs.lemmas.List.{length-map}
use Rattle.rows.specs.declared.memory.Token.{Token}
use Rattle.rules.specs.Keys.{Key, Lawful}
use Rattle.model.specs.State.{Open}
use Rattle.model.specs.Steps
use Rattle.model.specs.Planes.{tokens_fit, segment_of}
use Rattle.model.specs.Fitting.{Widths}
use Rattle.model.proofs.Counts.{all_in}
use Rattle.model.proofs.Bounds.{Sound}
use Rattle.model.proofs.Stepping.{step_sound}
use Rattle.model.proofs.Segments.{Good, step_good}
use Rattle.model.proofs.Fits.{sound_fit, fit_widths}
use Rattle.model.proofs.Accepted.{step_of}

pub step_fits : (p : Open) (memory : List Token) → Widths p memory → (key : Key) → Lawful key → 0 < p.span → tokens_fit p memory ≡ true
    → let r = step_of p memory key in
    (tokens_fit r.0.0 r.0.1 ≡ true) × Widths r.0.0 r.0.1 × Good p.board.processors (segment_of r)
step_fits p memory widths key law some fits =
    let n = p.board.count in
    let m = p.board.processors in
    let ts = take n memory in
    let s = fit_widths p memory widths fits in
    let ok = step_sound m key law p.span ts s.1 some widths.short in
    let us = (Steps.step m key p.span ts).tokens in
    let there : length us ≡ n = length-map ts _ ∙ s.0 in
    let front : take n (us ++ drop n memory) ≡ us = take_at us (drop n memory) n there in
    let r = step_of p memory key in (
      sound_fit r.0.0 r.0.1 (subst (λ l. length l ≡ n) (sym front) there) (subst (Sound m r.0.0.span) (sym front) ok),
      record {
        some = widths.some;
        few = widths.few;
        short = omega (arith, widths.short);
        tags = subst (AllByRecursion (λ x. x.tag < 2 ^ 16)) (sym front) (all_in (λ x. x.tag < 2 ^ 16) us ok.short_tags);
      },
      step_good m key law p.span ts s.1 some widths.short,
    )
