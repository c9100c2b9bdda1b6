use Rattle.passages.proofs.Laws.{bare_one, bare_after_else, bare_never}
use Rattle.passages.proofs.is_bare.Goals as goal

-- Each return cites what the shape is.
pub returns-then-shape-eq1 : goal.returns-then-shape-eq1
returns-then-shape-eq1 c = let a = c.args in bare_one a.otherwise a.shape c.if-shape-eq1.true

pub returns-then-otherwise : goal.returns-then-otherwise
returns-then-otherwise c = let a = c.args in bare_after_else a.otherwise a.shape c.if-shape-eq1.false c.if-otherwise.true

pub returns : goal.returns
returns c = let a = c.args in bare_never a.otherwise a.shape c.if-shape-eq1.false c.if-otherwise.false
