use Rattle.unquoting.proofs.Reading.{piece_escaped, piece_cut, piece_plain}
use borrow.Author.Rules.{rules}
use Rattle.unquoting.proofs.piece_at.Goals as goal

-- src/lib.rt:34:13
-- src/lib.rt:35:13
-- src/lib.rt:39:32
-- src/lib.rt:39:23
-- src/lib.rt:38:13
pub returns-then-j-x : goal.returns-then-j-x
returns-then-j-x c = search (piece_escaped, rules)

-- src/lib.rt:43:9
pub returns-then-b-eq92 : goal.returns-then-b-eq92
returns-then-b-eq92 c = search (piece_cut, rules)

-- src/lib.rt:30:1
pub returns : goal.returns
returns c = search (piece_plain, rules)
