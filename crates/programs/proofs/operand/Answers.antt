use native.Mathlib.Omega.{arith}
use mathlib.Core.Path.{refl}
use Prim.Native.Nat.{◌+◌}
use lib.ListN.{get_or}
use Rattle.programs.specs.Program.{constant, current, recalled}
use Rattle.programs.proofs.Agree.{operand_some}
use Rattle.programs.proofs.Reading.{past_end}
use Rattle.programs.proofs.Forms.{operands, no_operand, operand_whole}
use Rattle.programs.proofs.operand.Goals as goal

-- An operand: its first byte tells its form, its second is within the limit of that form, or no operand that fits has these two bytes.
-- Assumes nothing.
pub returns-then-s-i : goal.returns-then-s-i
returns-then-s-i c = past_end operands operand_some c.if-s-i.true

pub returns-then-s-i-lt2 : goal.returns-then-s-i-lt2
returns-then-s-i-lt2 c = no_operand _ _ (λ w. omega arith)

pub returns-then-v-le-HIGHEST_VALUE : goal.returns-then-v-le-HIGHEST_VALUE
returns-then-v-le-HIGHEST_VALUE c = let a = c.args in operand_whole a.s.now a.i (omega arith) 0 (constant (get_or a.s.now (a.i + 1) 0)) c.in-0.is refl c.if-v-le-HIGHEST_VALUE.true c.for_both.ensures.next_is c.for_both.ensures.first_is c.for_both.ensures.second_is

pub returns-else-v-le-HIGHEST_VALUE : goal.returns-else-v-le-HIGHEST_VALUE
returns-else-v-le-HIGHEST_VALUE c = no_operand _ _ (λ w. omega (arith, w.2 c.in-0.is))

pub returns-then-v-le-HIGHEST_ATTRIBUTE : goal.returns-then-v-le-HIGHEST_ATTRIBUTE
returns-then-v-le-HIGHEST_ATTRIBUTE c = let a = c.args in operand_whole a.s.now a.i (omega arith) 1 (current (get_or a.s.now (a.i + 1) 0)) c.in-1.is refl c.if-v-le-HIGHEST_ATTRIBUTE.true c.for_both-then-v-le-HIGHEST_ATTRIBUTE.ensures.next_is c.for_both-then-v-le-HIGHEST_ATTRIBUTE.ensures.first_is c.for_both-then-v-le-HIGHEST_ATTRIBUTE.ensures.second_is

pub returns-else-v-le-HIGHEST_ATTRIBUTE : goal.returns-else-v-le-HIGHEST_ATTRIBUTE
returns-else-v-le-HIGHEST_ATTRIBUTE c = no_operand _ _ (λ w. omega (arith, w.3 (λ z. omega arith)))

pub returns-then-v-le-HIGHEST_ATTRIBUTE-2 : goal.returns-then-v-le-HIGHEST_ATTRIBUTE-2
returns-then-v-le-HIGHEST_ATTRIBUTE-2 c = let a = c.args in operand_whole a.s.now a.i (omega arith) 2 (recalled (get_or a.s.now (a.i + 1) 0)) c.in-2.is refl c.if-v-le-HIGHEST_ATTRIBUTE-2.true refl refl refl

pub returns-else-v-le-HIGHEST_ATTRIBUTE-2 : goal.returns-else-v-le-HIGHEST_ATTRIBUTE-2
returns-else-v-le-HIGHEST_ATTRIBUTE-2 c = no_operand _ _ (λ w. omega (arith, w.3 (λ z. omega arith)))

pub returns-in_default : goal.returns-in_default
returns-in_default c = no_operand _ _ (λ w. omega arith)
