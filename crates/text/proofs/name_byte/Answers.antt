use borrow.Author.Rules.{rules}
use mathlib.Core.Path.{ap}
use mathlib.Core.Bool.{Bool, ◌&&◌, ◌||◌}
use lib.Dec.{leb, eqb}
use Rattle.text.proofs.name_byte.Goals as goal

-- The test of a first byte is `name_first`'s; the others are computed.
pub returns : goal.returns
returns c = let b = c.args.b in ap (λ (t : Bool). t || ((leb 48 b && leb b 57) || (eqb b 46 || eqb b 45))) c.name_first.ensures
