use mathlib.Core.Path.{refl, sym, subst, ◌∙◌}
use native.Mathlib.Omega.{arith}
use Rattle.rows.proofs.Rows.{nothing_filled, one_filled, MarkIn, unmoved, moved, text_row}
use borrow.Author.Rules.{rules}
use Rattle.rows.proofs.in_text.Goals.{then-goes, else-goes}
use Rattle.rows.proofs.in_text.Goals as goal

pub loop-k-init : goal.loop-k-init
loop-k-init c = (c.requires, nothing_filled _ _ refl)

pub goes-requires : goal.goes-requires
goes-requires c = (omega (arith, c.loop-k-test.true), c.loop-k.invariant.0.small.point)

pub step-requires : goal.step-requires
step-requires c = (omega (arith, c.loop-k-test.true), c.loop-k.invariant.0)

pub loop-k-preserved : goal.loop-k-preserved
loop-k-preserved c = (
  c.loop-k.invariant.0,
  one_filled _ _ _ _ c.loop-k.invariant.1 (omega (arith, c.loop-k-test.true))
      (elim c.if-goes.branch [
        | then-goes w ↦ subst (MarkIn c.args.d c.loop-k.k) (sym (w.ok-is ∙ w.is_some-ok.ensures)) (moved c.args.d c.loop-k.k w.step.result w.step.ensures)
        | else-goes w ↦ subst (MarkIn c.args.d c.loop-k.k) (sym w.ok-is) (unmoved c.args.d c.loop-k.k c.goes.result c.goes.ensures w.if-goes.false)
      ]),
)

pub returns : goal.returns
returns c = search (text_row, rules)
