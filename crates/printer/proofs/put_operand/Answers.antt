use native.Mathlib.Omega.{arith}
use Prim.Native.Nat.{◌+◌}
use lib.ListN.{get_or}
use Rattle.printer.specs.Operands.{operand_text_at}
use Rattle.output.proofs.Writing.{put_then, same_bytes}
use Rattle.printer.proofs.Laws.{operand_value, operand_current, operand_kept}
use borrow.Author.Rules.{rules}
use Rattle.printer.proofs.put_operand.Goals as goal

-- The kind says what is written in front of the number.
pub returns-then-k-eq0 : goal.returns-then-k-eq0
returns-then-k-eq0 c = let k = get_or c.args.s.now c.args.i 0 in let v = get_or c.args.s.now (c.args.i + 1) 0 in same_bytes _ _ _ _ (operand_text_at k v) _ _ (operand_value k v c.if-k-eq0.true) c.put_decimal.ensures

pub returns-then-k-eq1 : goal.returns-then-k-eq1
returns-then-k-eq1 c = let k = get_or c.args.s.now c.args.i 0 in let v = get_or c.args.s.now (c.args.i + 1) 0 in same_bytes _ _ _ _ (operand_text_at k v) _ _ (operand_current k v c.if-k-eq1.true) (put_then _ _ _ _ _ _ _ _ _ c.put_bytes-from.ensures c.put_decimal-then-k-eq1.ensures)

pub returns : goal.returns
returns c = let k = get_or c.args.s.now c.args.i 0 in let v = get_or c.args.s.now (c.args.i + 1) 0 in same_bytes _ _ _ _ (operand_text_at k v) _ _ (operand_kept k v c.if-k-eq0.false c.if-k-eq1.false) (put_then _ _ _ _ _ _ _ _ _ c.put_bytes-from-2.ensures c.put_decimal-2.ensures)
