use borrow.Author.Rules.{rules}
use mathlib.Core.Path.{ap}
use mathlib.Core.Bool.{Bool, ◌&&◌, ◌||◌}
use lib.Dec.{leb}
use Rattle.lexing.proofs.word_byte.Goals as goal

-- The letters are `name_first`'s; the digits are computed.
pub returns : goal.returns
returns c = let b = c.args.b in ap (λ (t : Bool). t || (leb 48 b && leb b 57)) c.name_first.ensures
