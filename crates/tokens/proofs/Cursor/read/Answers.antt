use native.Mathlib.Omega.{arith}
use Rattle.tokens.proofs.Reading
use Rattle.tokens.proofs.Cursor.read.Goals as goal

-- The part handed on is the front; past the end the front is empty.
pub returns-then-s-at : goal.returns-then-s-at
returns-then-s-at c = Reading.begun_past c.args.s.now c.args.self.at c.if-s-at.true

pub returns-then-s-at-lt32 : goal.returns-then-s-at-lt32
returns-then-s-at-lt32 c = Reading.means_of _ _ c.args.self.at c.read_front.result (Reading.front_tail c.args.s.now c.args.self.at (omega arith) (omega arith)) c.read_front.ensures

pub returns : goal.returns
returns c = Reading.means_of _ _ c.args.self.at c.read_front-2.result (Reading.front_part c.args.s.now c.args.self.at) c.read_front-2.ensures
