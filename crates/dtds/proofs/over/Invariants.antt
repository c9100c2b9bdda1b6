use Rattle.scans.specs.Scans.{ReadUpTo}
use Rattle.dtds.proofs.over.Given as goal

abbrev pub invariant-loop-at : goal.invariant-loop-at
invariant-loop-at l =
    ReadUpTo l.text l.at l.s l.names l.nameends l.tags l.tagends l.productions l.nodes
