-- What a call is lent, as its contract names it, and the counts of one that leaves all as it was.
-- Assumes nothing.
use Rattle.std.specs.Prelude.{List, ℕ}
use Rattle.state.specs.Bytes.{state_from}
use Rattle.rescued.specs.declared.SalvageCounts.{SalvageCounts}
use Rattle.rescued.specs.Salvaged.{Lent}

abbrev pub lending : (state output area report : List ℕ) → Lent
lending b out area rep = record { state = b; output = out; area = area; report = rep }

abbrev pub untouched_with : (number : ℕ) (state : List ℕ) → SalvageCounts
untouched_with n b = record { number = n; taken = 0; written = 0; reported = 0; waited = 0; visits = (state_from b).count }
