use Rattle.std.proofs.Common.{◌-◌, sym, ◌∙◌, arith}
use Rattle.places.proofs.Laws.{ends_none, last_found, none_before, none_found}
use Rattle.places.proofs.last_line.Goals as goal

pub loop-i-init : goal.loop-i-init
loop-i-init c = ends_none c.args.bytes.now

pub returns-then-ends_line : goal.returns-then-ends_line
returns-then-ends_line c =
    let at = c.loop-i in
    last_found _ at.i (at.i - 1) (omega arith) (omega arith) at.invariant (sym c.ends_line.ensures ∙ c.if-ends_line.true)

pub loop-i-preserved : goal.loop-i-preserved
loop-i-preserved c =
    let at = c.loop-i in
    none_before _ at.i (at.i - 1) (omega arith) (omega arith) at.invariant (sym c.ends_line.ensures ∙ c.if-ends_line.false)

pub returns : goal.returns
returns c = none_found _ c.loop-i.i (omega arith) c.loop-i.invariant
