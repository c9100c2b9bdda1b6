use Rattle.extents.proofs.Parts.{side_sized, paired_of}
use Rattle.extents.proofs.pair_with.Goals as goal

-- Each answer by the law that it names. Assumes nothing.
pub pair-requires : goal.pair-requires
pair-requires c = record { small_extent = side_sized _ _ c.in-Some.is c.requires.side_under; small_extent_2 = c.requires.small_extent }

pub returns-in-Some : goal.returns-in-Some
returns-in-Some c = paired_of _ _ _ _ c.in-Some.is c.pair.ensures
