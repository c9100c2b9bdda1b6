use mathlib.Core.Path.{refl}
use native.Mathlib.Omega.{arith}
use borrow.Author.Rules.{rules}
use Rattle.salvages.specs.Started.{too_short}
use Rattle.salvages.proofs.Started.{started}
use Rattle.salvages.proofs.salvage_fresh.Goals as goal

-- Where the area is long enough, what is written is the fresh state.
-- Assumes nothing.
pub returns-then-area-lt-BYTES : goal.returns-then-area-lt-BYTES
returns-then-area-lt-BYTES c = too_short c.if-area-lt-BYTES.true refl

pub returns : goal.returns
returns c =
    let w = c.to_bytes in
    started (omega arith) c.fresh-fresh.ensures w.ensures.wrote c.clear.ensures
