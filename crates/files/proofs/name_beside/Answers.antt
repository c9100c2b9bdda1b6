use native.Mathlib.Omega.{arith}
use Rattle.io.proofs.Counting.{prefix_len_of_le}
use Rattle.files.proofs.name_beside.Goals as goal

-- What fits counts bytes at the memory's start.
pub returns : goal.returns
returns c = prefix_len_of_le _ _ (omega arith)
