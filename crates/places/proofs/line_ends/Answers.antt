use Rattle.std.proofs.Common.{sym, ◌∙◌, arith}
use Rattle.places.specs.Lines.{ends_line}
use Rattle.places.proofs.Laws.{counts_on, passes_on, counts_all}
use Rattle.places.proofs.line_ends.Goals as goal
use Rattle.places.proofs.line_ends.Goals.{then-ends_line, else-ends_line}

pub loop-i-preserved : goal.loop-i-preserved
loop-i-preserved c =
    let at = c.loop-i in
    let tells = sym c.ends_line.ensures in
    elim c.if-ends_line.branch [
      | then-ends_line w ↦ counts_on ends_line _ at.i at.n _ (omega arith) (omega arith) at.invariant (tells ∙ w.if-ends_line.true) (w.n-is ∙ w.wrapping_add_u64-n.ensures.value)
      | else-ends_line w ↦ passes_on ends_line _ at.i at.n _ (omega arith) at.invariant (tells ∙ w.if-ends_line.false) w.n-is
    ]

pub returns : goal.returns
returns c = counts_all ends_line _ c.loop-i.i _ (omega arith) c.loop-i.invariant
