use borrow.Author.Rules.{rules}
use native.Mathlib.Omega.{arith}
use mathlib.Core.Path.{sym, subst}
use Rattle.judging.specs.Standing.{AnyTold}
use Rattle.judging.proofs.Marks.{any_there, no_any_past, no_content}
use Rattle.judging.proofs.any_at.Goals as goal

-- ANY is looked for where a content may begin.
pub returns-then-at-text : goal.returns-then-at-text
returns-then-at-text c =
    let a = c.args in
    subst (λ x. AnyTold a.text.now a.at x c.word_stands.result) (sym c.if-content.true) (any_there a.text.now a.at c.word_stands.result c.word_stands.ensures)

pub returns-then-content : goal.returns-then-content
returns-then-content c = let a = c.args in no_any_past a.text.now a.at a.content (λ h. omega (arith, h, c.if-at-text.false))

pub returns : goal.returns
returns c = let a = c.args in subst (λ x. AnyTold a.text.now a.at x _) (sym c.if-content.false) (no_content a.text.now a.at)
