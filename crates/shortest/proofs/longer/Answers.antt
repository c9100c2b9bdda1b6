use mathlib.Core.Path.{refl}
use borrow.Author.Rules.{rules}
use Rattle.shortest.proofs.Walks.{row_longer}
use Rattle.shortest.proofs.longer.Goals as goal

-- `longer`: the atom is stored behind the row.
-- Assumes nothing.
pub returns : goal.returns
returns c = row_longer _ _ _ c.requires.length_lt_nodes_at_most refl refl
