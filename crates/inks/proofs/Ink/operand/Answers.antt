use mathlib.Core.Path.{refl}
use mathlib.Core.List.{[], ◌∷◌}
use Rattle.pages.specs.Pages.{page_text}
use Rattle.inks.proofs.Laws.{more_written, operand_target, operand_assigned, operand_first, operand_second}
use borrow.Author.Rules.{rules}
use Rattle.inks.proofs.Ink.operand.Goals as goal

-- Each answer by the law that it names. Assumes nothing.
pub returns-then-mode-eq0 : goal.returns-then-mode-eq0
returns-then-mode-eq0 c = let a = c.args in operand_target a.self a.code a.n c.if-mode-eq0.true c.targeted.ensures

pub returns-then-mode-eq1 : goal.returns-then-mode-eq1
returns-then-mode-eq1 c = let a = c.args in let x = page_text a.self.page in operand_assigned a.self a.code a.n 0 c.paged.ensures c.if-mode-eq1.true refl (more_written x (_ ∷ _ ∷ []) (_ ∷ []) (more_written x (_ ∷ []) (_ ∷ []) c.push.ensures.text c.push-then-mode-eq1.ensures.text) c.push-written.ensures.text)

pub returns-then-mode-eq2 : goal.returns-then-mode-eq2
returns-then-mode-eq2 c = let a = c.args in let x = page_text a.self.page in operand_first a.self a.code a.n 3 c.paged-then-mode-eq2.ensures c.if-mode-eq2.true refl (more_written x (_ ∷ _ ∷ []) (_ ∷ []) (more_written x (_ ∷ []) (_ ∷ []) c.push-then-mode-eq2.ensures.text c.push-then-mode-eq2-2.ensures.text) c.push-written-then-mode-eq2.ensures.text)

pub returns : goal.returns
returns c = let a = c.args in let x = page_text a.self.page in operand_second a.self a.code a.n 2 c.paged-2.ensures c.if-mode-eq0.false c.if-mode-eq1.false c.if-mode-eq2.false refl (more_written x (_ ∷ []) (_ ∷ []) c.push-2.ensures.text c.push-written-2.ensures.text)
