use mathlib.Core.Path.{refl, ap, ◌∙◌}
use native.Mathlib.Omega.{arith}
use borrow.Author.Rules.{rules}
use Rattle.layout.proofs.Laws.{laid_out}
use Rattle.state.specs.declared.Heading.{Heading}
use Rattle.converter.specs.Bytes.{as_given}
use Rattle.converter.proofs.BytesLaws.{and_within}
use Rattle.converter.proofs.Entering.{entered_back, bytes_may}
use Rattle.converter.proofs.InPlace.{count_in}
use Rattle.converter.proofs.convert_bytes.Goals as goal

-- Given back, or run: the run's promise is the answer.
pub returns-then-number-ne0 : goal.returns-then-number-ne0
returns-then-number-ne0 c =
    let b = c.args.state.now in record {
      bytes_answered_as = as_given (entered_back c.given_back-number.ensures c.if-number-ne0.true)
          (record { taken = refl; written = refl; visits = ap (λ (h : Heading). h.count) c.heading_at-h.ensures ∙ count_in b; same = refl; left = refl });
      taken_in_bounds = omega arith;
      written_in_bounds = omega arith;
    }

pub layout_of-l-requires : goal.layout_of-l-requires
layout_of-l-requires c =
    let a = c.args in
    let n = c.given_back-number in
    (bytes_may a.sheet.now a.state.now n.result n.ensures c.if-number-ne0.false).1.is_sheet.well_formed_lem.size.least

pub run_tokens-requires : goal.run_tokens-requires
run_tokens-requires c =
    let a = c.args in
    let n = c.given_back-number in
    let m = bytes_may a.sheet.now a.state.now n.result n.ensures c.if-number-ne0.false in
    let w = m.1.is_sheet.well_formed_lem in
    record { laid_out = laid_out c.layout_of-l.ensures w.size w.sections; may_run = m.1; state_len = m.0 }

pub returns : goal.returns
returns c = let w = and_within c.run_tokens.ensures in record { bytes_answered_as = w.0; taken_in_bounds = w.1.0; written_in_bounds = w.1.1 }
