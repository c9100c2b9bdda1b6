use Rattle.output.proofs.Writing
use borrow.Author.Rules.{rules}
use Rattle.output.proofs.put_tag.Goals as goal

-- One text after the other is the texts together (`put_then`).
pub returns : goal.returns
returns c = Writing.put_then _ _ _ _ _ _ _ _ _ c.put_bytes-from.ensures (Writing.put_then _ _ _ _ _ _ _ _ _ c.put_bytes-to.ensures c.put_bytes.ensures)
