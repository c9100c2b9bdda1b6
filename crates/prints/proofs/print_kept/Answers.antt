use borrow.Author.Rules.{rules}
use mathlib.Core.Bool.{Bool}
use mathlib.Core.Path.{subst}
use native.Mathlib.Omega.{arith}
use Rattle.layout.proofs.Laws.{laid_out}
use Rattle.sheet.proofs.DefectLaws.{runs_inside}
use Rattle.hoards.specs.Hoards.{FitsIs}
use Rattle.hoards.proofs.Laws.{kept, not_kept}
use Rattle.prints.proofs.Laws.{strings_too_long, no_place, in_place}
use mathlib.Core.Path.{ap}
use mathlib.Core.Bool.{not}
use Rattle.prints.proofs.print_kept.Goals as goal

-- The strings' room, the length by a dry run, and the text where it fits.
pub layout_of-l-requires : goal.layout_of-l-requires
layout_of-l-requires c = c.requires.packed.size.least

pub strings_fit-requires : goal.strings_fit-requires
strings_fit-requires c = laid_out c.layout_of-l.ensures c.requires.packed.size c.requires.packed.sections

pub returns-then-not-strings_fit : goal.returns-then-not-strings_fit
returns-then-not-strings_fit c = strings_too_long c.args.sheet.now c.args.text.now c.requires (subst (λ (b : Bool). FitsIs c.args.sheet.now b) (not_kept _ (ap not c.if-not-strings_fit.true)) c.strings_fit.ensures)

pub put_rules-needed-requires : goal.put_rules-needed-requires
put_rules-needed-requires c =
    let z = c.requires.packed in
    record { laid_out = laid_out c.layout_of-l.ensures z.size z.sections; runs_inside = runs_inside c.args.sheet.now z.productions; start_bound = omega (arith, z.productions.start_fits, c.layout_of-l.ensures.start_is.is) }

pub returns-then-text-needed : goal.returns-then-text-needed
returns-then-text-needed c =
    no_place c.args.sheet.now c.args.text.now c.requires (subst (λ (b : Bool). FitsIs c.args.sheet.now b) (kept _ (ap not c.if-not-strings_fit.false)) c.strings_fit.ensures) _ _ c.put_rules-needed.ensures c.if-text-needed.true

pub put_rules-written-requires : goal.put_rules-written-requires
put_rules-written-requires c =
    let z = c.requires.packed in
    record { laid_out = laid_out c.layout_of-l.ensures z.size z.sections; runs_inside = runs_inside c.args.sheet.now z.productions; start_bound = omega (arith, z.productions.start_fits, c.layout_of-l.ensures.start_is.is) }

pub returns : goal.returns
returns c =
    in_place c.args.sheet.now c.args.text.now c.requires (subst (λ (b : Bool). FitsIs c.args.sheet.now b) (kept _ (ap not c.if-not-strings_fit.false)) c.strings_fit.ensures) _ _ c.put_rules-needed.ensures c.if-text-needed.false _ _ c.put_rules-written.ensures
