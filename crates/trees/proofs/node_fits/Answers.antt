use Rattle.trees.proofs.Parses.{names_told, low_told, high_told, zero_told}
use Rattle.trees.proofs.node_fits.Goals as goal

-- `node_fits` tells whether kind and argument fit: one law for each of its four ways.
-- Assumes nothing.
pub returns-then-kind-eq1 : goal.returns-then-kind-eq1
returns-then-kind-eq1 c = names_told _ _ c.if-kind-eq1.true

pub returns-then-kind-lt2 : goal.returns-then-kind-lt2
returns-then-kind-lt2 c = low_told _ _ c.if-kind-eq1.false c.if-kind-lt2.true

pub returns-then-kind-gt6 : goal.returns-then-kind-gt6
returns-then-kind-gt6 c = high_told _ _ c.if-kind-eq1.false c.if-kind-gt6.true

pub returns : goal.returns
returns c = zero_told _ _ c.if-kind-eq1.false c.if-kind-lt2.false c.if-kind-gt6.false
