use borrow.Author.Rules.{rules}
use lib.ListN.{replicate}
use Rattle.state.specs.Bounds.{state_width}
use Rattle.holding.proofs.Laws.{returning_put, put_as}
use Rattle.holding.proofs.put_returning.Goals as goal

-- Three rows one after another in a row of zeros.
-- Assumes nothing.
pub returns : goal.returns
returns c = returning_put c.args.state.now _ _ _ _ _ _ c.requires.state_len (put_as (replicate state_width 0) c.requires.bytes_value c.put_bytes-second.ensures) c.put_bytes-third.ensures c.put_bytes.ensures
