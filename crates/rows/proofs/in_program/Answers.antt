use mathlib.Core.Path.{refl, sym, subst, ◌∙◌}
use native.Mathlib.Omega.{arith}
use Rattle.programs.specs.Parsed.{which_visit}
use Rattle.rows.specs.Rows.{Marked}
use Rattle.rows.proofs.Rows.{nothing_filled, one_filled, untried, tried, program_row}
use borrow.Author.Rules.{rules}
use Rattle.rows.proofs.in_program.Goals.{then-could, else-could}
use Rattle.rows.proofs.in_program.Goals as goal

pub loop-k-init : goal.loop-k-init
loop-k-init c = (c.requires, nothing_filled _ _ refl)

pub loop-k-preserved : goal.loop-k-preserved
loop-k-preserved c = (
  c.loop-k.invariant.0,
  one_filled _ _ _ _ c.loop-k.invariant.1 (omega (arith, c.loop-k-test.true))
      (elim c.if-could.branch [
        | then-could w ↦ subst (Marked (which_visit c.args.second) c.args.s c.loop-k.k) (sym (w.ok-is ∙ w.is_some-ok.ensures)) (tried (which_visit c.args.second) c.args.s c.loop-k.k w.step.result w.step.ensures)
        | else-could w ↦ subst (Marked (which_visit c.args.second) c.args.s c.loop-k.k) (sym w.ok-is) (untried (which_visit c.args.second) c.args.s c.loop-k.k c.could.result c.could.ensures w.if-could.false)
      ]),
)

pub bounds-may-28 : goal.bounds-may-28
bounds-may-28 c = search rules

pub returns : goal.returns
returns c = search (program_row, rules)
