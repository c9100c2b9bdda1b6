use mathlib.Core.Path.{refl, ap}
use Prim.Native.Nat.{◌+◌}
use Rattle.levels.proofs.Measuring.{behind_none, behind_far, behind_some}
use borrow.Author.Rules.{rules}
use Rattle.levels.proofs.behind_size.Goals as goal

-- `behind_size`: by what stands to the left, and where there is room. Assumes nothing.
pub returns-then-l-eq0 : goal.returns-then-l-eq0
returns-then-l-eq0 c = search (behind_none, rules)

pub returns-then-larger-gt-MOST : goal.returns-then-larger-gt-MOST
returns-then-larger-gt-MOST c =
    behind_far _ _ _ c.if-l-eq0.false c.row_size-left.ensures _ _ _ c.larger-deeper.ensures c.larger-more.ensures c.larger.ensures c.if-larger-gt-MOST.true

pub returns : goal.returns
returns c =
    let d = c.larger-deeper.ensures in
    behind_some _ _ _ c.if-l-eq0.false c.row_size-left.ensures _ refl (ap (λ n. n + 1) d)
