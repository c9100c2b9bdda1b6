use borrow.Author.Tests.{ne_eqb}
use borrow.Author.Rules.{rules}
use Rattle.live.proofs.Live.restore.Goals as goal

-- src/lib.rt:84:9
-- src/lib.rt:87:24
-- src/lib.rt:86:13
pub returns-then-self-eq0 : goal.returns-then-self-eq0
returns-then-self-eq0 c = record { saved = rw c.if-self-eq0.true c.bare.ensures; live = rw c.without_last-next.ensures }

-- src/lib.rt:92:20
-- src/lib.rt:79:5
pub returns : goal.returns
returns c = record { saved = rw (ne_eqb _ 0 c.if-self-eq0.false) c.last.ensures; live = rw c.without_last-next.ensures }
