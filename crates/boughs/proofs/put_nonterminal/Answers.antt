use borrow.Author.Rules.{rules}
use Rattle.output.proofs.Writing.{put_then}
use Rattle.boughs.proofs.put_nonterminal.Goals as goal

-- The letter, and the number behind it.
pub returns : goal.returns
returns c = put_then _ _ _ _ _ _ _ _ _ c.put_bytes-from.ensures c.put_decimal.ensures
