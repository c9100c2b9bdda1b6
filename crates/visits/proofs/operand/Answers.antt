use mathlib.Core.Path.{◌∙◌, ap}
use Prim.Native.Nat.{ℕ}
use native.Mathlib.Omega.{arith}
use lib.ListN.{get_or}
use Rattle.visits.proofs.Evaluating.{current_value, recalled_value, constant_value}
use Rattle.visits.proofs.operand.Goals as goal

-- The first byte tells the form, the second is the constant or the attribute.
pub returns-then-k-eq1 : goal.returns-then-k-eq1
returns-then-k-eq1 c =
    let a = c.args in
    current_value a.s.now a.i a.kept a.values (omega arith) c.if-k-eq1.true _ (c.byte.ensures ∙ ap (λ (n : ℕ). get_or a.values n 0) c.from.ensures)

pub returns-then-k-eq2 : goal.returns-then-k-eq2
returns-then-k-eq2 c =
    let a = c.args in
    recalled_value a.s.now a.i a.kept a.values (omega arith) c.if-k-eq2.true _ (c.byte-then-k-eq2.ensures ∙ ap (λ (n : ℕ). get_or a.kept n 0) c.from-then-k-eq2.ensures)

pub returns : goal.returns
returns c =
    let a = c.args in
    constant_value a.s.now a.i a.kept a.values c.if-k-eq1.false c.if-k-eq2.false
