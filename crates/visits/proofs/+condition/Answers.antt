use native.Mathlib.Omega.{arith}
use Rattle.visits.proofs.Evaluating.{nothing_left, opposite, both_hold, either_holds}
use Rattle.visits.proofs.+condition.Goals as goal

pub returns-then-s-i : goal.returns-then-s-i
returns-then-s-i t c =
    nothing_left c.args.s.now c.args.i c.args.kept c.args.values c.requires c.if-s-i.true

pub returns-then-k-eq1 : goal.returns-then-k-eq1
returns-then-k-eq1 t c =
    let a = c.args in
    opposite a.s.now a.i a.kept a.values (omega (arith, c.if-s-i.false)) _ c.condition-c.ensures c.if-k-eq1.true

pub returns-then-k-eq2 : goal.returns-then-k-eq2
returns-then-k-eq2 t c =
    let a = c.args in
    both_hold a.s.now a.i a.kept a.values (omega (arith, c.if-s-i.false)) _ c.condition-c.ensures _ c.condition-d.ensures c.if-k-eq2.true

pub returns : goal.returns
returns t c =
    let a = c.args in
    either_holds a.s.now a.i a.kept a.values (omega (arith, c.if-s-i.false)) _ c.condition-c.ensures _ c.condition-d.ensures c.if-k-eq0.false c.if-k-eq1.false c.if-k-eq2.false
