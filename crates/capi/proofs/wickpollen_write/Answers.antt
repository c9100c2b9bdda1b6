use Rattle.capi.proofs.Told.{small_written}
use borrow.Author.Rules.{rules}
use Rattle.capi.proofs.wickpollen_write.Goals as goal

-- The writer's number is below 256.
pub write-o-requires : goal.write-o-requires
write-o-requires c = search rules

pub counted-requires : goal.counted-requires
counted-requires c = small_written c.write-o.ensures

pub shape_of-sheet : goal.shape_of-sheet
shape_of-sheet c = search rules

pub returns : goal.returns
returns c = search rules
