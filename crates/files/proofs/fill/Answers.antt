use native.Mathlib.Omega.{arith}
use Rattle.io.proofs.Counting.{prefix_len_of_le}
use Rattle.files.proofs.fill.Goals as goal

pub returns-then-more-eq0 : goal.returns-then-more-eq0
returns-then-more-eq0 c = prefix_len_of_le _ _ (omega arith)

pub returns : goal.returns
returns c = prefix_len_of_le _ _ (omega arith)
