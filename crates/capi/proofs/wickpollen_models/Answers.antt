use Rattle.capi.proofs.Told.{small_declared}
use borrow.Author.Rules.{rules}
use Rattle.capi.proofs.wickpollen_models.Goals as goal

-- The number of a reader of declarations is below 256.
pub declare-d-requires : goal.declare-d-requires
declare-d-requires c = search rules

pub counted-requires : goal.counted-requires
counted-requires c = small_declared c.declare-d.ensures

pub shape_of-sheet : goal.shape_of-sheet
shape_of-sheet c = search rules

pub returns : goal.returns
returns c = search rules
