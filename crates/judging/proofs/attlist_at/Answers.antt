use borrow.Author.Rules.{rules}
use native.Mathlib.Omega.{arith}
use Rattle.judging.proofs.Marks.{attlist_there, too_early_for_attlist, no_attlist_past}
use Rattle.judging.proofs.attlist_at.Goals as goal

-- <!ATTLIST is looked for two bytes in front of its A.
pub returns-then-at-ge2 : goal.returns-then-at-ge2
returns-then-at-ge2 c = let a = c.args in attlist_there a.text.now a.at c.if-at-text.true c.word_stands.result c.if-at-ge2.true c.word_stands.ensures

pub returns-then-at-text : goal.returns-then-at-text
returns-then-at-text c = let a = c.args in too_early_for_attlist a.text.now a.at c.if-at-text.true (λ h. omega (arith, h, c.if-at-ge2.false))

pub returns : goal.returns
returns c = let a = c.args in no_attlist_past a.text.now a.at (λ h. omega (arith, h, c.if-at-text.false))
