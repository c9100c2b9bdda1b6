use mathlib.Core.Path.{refl}
use native.Mathlib.Omega.{arith}
use Rattle.capi.proofs.Laws.{started}
use Rattle.capi.specs.Started.{too_short}
use borrow.Author.Rules.{rules}
use Rattle.capi.proofs.wickpollen_fresh.Goals as goal

-- Where the area is long enough, what is written is the fresh state.
pub returns-then-area-lt-BYTES : goal.returns-then-area-lt-BYTES
returns-then-area-lt-BYTES c = too_short c.if-area-lt-BYTES.true refl

pub fresh-fresh-requires : goal.fresh-fresh-requires
fresh-fresh-requires c = search rules

pub to_bytes-n-requires : goal.to_bytes-n-requires
to_bytes-n-requires c = search rules

pub shape_of-area : goal.shape_of-area
shape_of-area c = search rules

pub returns : goal.returns
returns c = started (omega arith) c.fresh-fresh.ensures c.to_bytes-n.ensures.wrote
