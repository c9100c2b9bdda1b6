use Rattle.std.proofs.Common.{refl, rules}
use Rattle.behind.proofs.TagLaws.{slash_on, slash_ends, slash_none}
use Rattle.behind.proofs.is_empty_tag.Goals as goal

pub returns-then-b-eq62 : goal.returns-then-b-eq62
returns-then-b-eq62 c = let at = c.loop-i in slash_ends _ at.i at.last _ (search rules) c.if-b-eq62.true at.invariant

pub loop-i-preserved : goal.loop-i-preserved
loop-i-preserved c = let at = c.loop-i in slash_on _ at.i at.last _ (search rules) c.if-b-eq62.false at.invariant

pub returns : goal.returns
returns c = slash_none _ c.loop-i.i c.loop-i.last _ c.loop-i-test.false c.loop-i.invariant

pub loop-i-init : goal.loop-i-init
loop-i-init c = refl
