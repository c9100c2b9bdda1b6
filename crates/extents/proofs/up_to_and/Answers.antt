use native.Mathlib.Omega.{arith}
use Rattle.extents.proofs.up_to_and.Goals as goal

-- Each answer by the law that it names. Assumes nothing.
pub pair_with-requires : goal.pair_with-requires
pair_with-requires c = record { side_under = c.requires.margin_under.and_side; small_extent = record { few_bytes = omega (arith, c.requires); few_deep = omega (arith, c.requires) } }
