use mathlib.Core.Path.{sym, ◌∙◌}
use mathlib.Core.Bool.{true≢false}
use native.Mathlib.Omega.{arith}
use borrow.Author.Count.{below_more}
use borrow.Author.Rules.{rules}
use Rattle.std.proofs.lemmas.Bool.Decides.{Decides-eqb}
use Rattle.std.proofs.lemmas.Slice.Eq.{slice_eq-Decides}
use Rattle.tells.specs.Tells.{holds, fails}
use Rattle.sheet.proofs.TagLaws.{tag_part}
use Rattle.sheet.proofs.tags.is_new.Goals as goal

pub returns-then-eq : goal.returns-then-eq
returns-then-eq c =
    let s = c.args.s.now in
    let l = c.args.l in
    let same = (slice_eq-Decides Decides-eqb _ _ _ c.eq.ensures).0 c.if-eq.true in
    fails (λ h. h c.loop-u.u (search rules) (sym (tag_part s l c.requires.laid_out c.loop-u.u) ∙ same ∙ tag_part s l c.requires.laid_out c.args.t))

pub loop-u-preserved : goal.loop-u-preserved
loop-u-preserved c =
    let s = c.args.s.now in
    let l = c.args.l in
    below_more _ _ c.loop-u.invariant
    (λ e. true≢false (sym ((slice_eq-Decides Decides-eqb _ _ _ c.eq.ensures).1 (tag_part s l c.requires.laid_out c.loop-u.u ∙ e ∙ sym (tag_part s l c.requires.laid_out c.args.t))) ∙ c.if-eq.false))

pub returns : goal.returns
returns c = holds (λ u z. c.loop-u.invariant u (omega arith))
