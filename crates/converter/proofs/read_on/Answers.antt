use borrow.Author.Rules.{rules}
use Rattle.converter.proofs.Going.{settled_same, settled_token, settled_begun}
use Rattle.converter.proofs.read_on.Goals as goal

-- By whether the answer waits, and whether the stream has ended.
pub returns-in_default : goal.returns-in_default
returns-in_default c =
    settled_same c.args.ended c.args.part.now c.args.cursor.at c.read-answer.result c.read-answer.ensures c.in_default.not-Waiting

pub returns-then-ended : goal.returns-then-ended
returns-then-ended c =
    settled_token c.args.ended c.args.part.now c.args.cursor.at c.read-answer.result c.read-answer.ensures c.in-Waiting.event c.in-Waiting.next c.in-Waiting.is c.if-ended.true

pub returns : goal.returns
returns c =
    settled_begun c.args.ended c.args.part.now c.args.cursor.at c.read-answer.result c.read-answer.ensures c.in-Waiting.event c.in-Waiting.next c.in-Waiting.is c.if-ended.false
