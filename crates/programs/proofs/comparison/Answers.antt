use Rattle.programs.proofs.Agree.{operand_agree}
use Rattle.programs.proofs.Reading.{unread, no_first, no_second, in_turn_lem}
use Rattle.programs.proofs.Forms.{operands, conditions, equal_at}
use Rattle.programs.proofs.comparison.Goals as goal

-- Two operands in turn after the byte 0. What lies in their place is the same for every reading, as no two operands start the same bytes.
-- Assumes nothing.
pub returns-in_err-one : goal.returns-in_err-one
returns-in_err-one c =
    unread (conditions c.args.room) c.from_residual.ensures
    (equal_at c.args.s.now c.args.i c.requires.0 c.args.room c.requires.1 (no_first operands operands c.in_err-one.ensures))

pub returns-in_err-two : goal.returns-in_err-two
returns-in_err-two c =
    unread (conditions c.args.room) c.from_residual-in_err-two.ensures
    (equal_at c.args.s.now c.args.i c.requires.0 c.args.room c.requires.1 (no_second operands operands operand_agree c.in_ok-one.ensures c.in_err-two.ensures))

pub returns : goal.returns
returns c =
    equal_at c.args.s.now c.args.i c.requires.0 c.args.room c.requires.1 (in_turn_lem operands operands c.in_ok-one.ensures c.in_ok-two.ensures c.in_turn.ensures)
