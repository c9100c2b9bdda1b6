use mathlib.Core.Path.{sym}
use lib.Seq.{set_out}
use Rattle.lent.specs.Put.{put}
use Rattle.lent.proofs.put_byte.Goals as goal

-- By cases of the two tests: a dry run leaves the memory, a byte past the end is not stored, any other is one `set`.
pub returns-then-at-memory : goal.returns-then-at-memory
unfolding put
returns-then-at-memory c = rw c.if-write.true

pub returns-else-at-memory : goal.returns-else-at-memory
unfolding put
returns-else-at-memory c = rw c.if-write.true (sym (set_out _ _ _ c.if-at-memory.false))

pub returns-else-write : goal.returns-else-write
unfolding put
returns-else-write c = rw c.if-write.false
