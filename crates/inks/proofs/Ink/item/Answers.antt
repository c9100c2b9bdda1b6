use mathlib.Core.List.{[], ◌∷◌}
use Rattle.pages.specs.Pages.{page_text}
use Rattle.inks.proofs.Laws.{item_as, item_start, item_end, item_both, item_string, more_written, nothing_written, no_item}
use borrow.Author.Rules.{rules}
use Rattle.inks.proofs.Ink.item.Goals as goal

-- Each answer by the law that it names. Assumes nothing.
pub returns-then-kind-eq6 : goal.returns-then-kind-eq6
returns-then-kind-eq6 c = let a = c.args in let x = page_text a.self.page in item_as a.self _ (item_start a.kind a.place a.length c.low-b.ensures c.if-kind-eq6.true) (more_written x (_ ∷ []) (_ ∷ []) c.push.ensures.text c.push-written.ensures.text) c.paged.ensures

pub returns-then-kind-eq7 : goal.returns-then-kind-eq7
returns-then-kind-eq7 c = let a = c.args in let x = page_text a.self.page in item_as a.self _ (item_end a.kind a.place a.length c.low-b.ensures c.if-kind-eq7.true) (more_written x (_ ∷ []) (_ ∷ []) c.push-then-kind-eq7.ensures.text c.push-written-then-kind-eq7.ensures.text) c.paged-then-kind-eq7.ensures

pub returns-then-kind-eq8 : goal.returns-then-kind-eq8
returns-then-kind-eq8 c = let a = c.args in let x = page_text a.self.page in item_as a.self _ (item_both a.kind a.place a.length c.low-b.ensures c.if-kind-eq8.true) (more_written x (_ ∷ _ ∷ _ ∷ []) (_ ∷ []) (more_written x (_ ∷ _ ∷ []) (_ ∷ []) (more_written x (_ ∷ []) (_ ∷ []) c.push-then-kind-eq8.ensures.text c.push-then-kind-eq8-2.ensures.text) c.push-then-kind-eq8-3.ensures.text) c.push-written-then-kind-eq8.ensures.text) c.paged-then-kind-eq8.ensures

pub returns-then-kind-eq9 : goal.returns-then-kind-eq9
returns-then-kind-eq9 c = let a = c.args in let x = page_text a.self.page in item_as a.self _ (item_string a.kind a.place a.length c.low-b.ensures c.low.ensures c.low-then-kind-eq9.ensures c.if-kind-eq9.true) (more_written x (_ ∷ _ ∷ _ ∷ []) (_ ∷ []) (more_written x (_ ∷ _ ∷ []) (_ ∷ []) (more_written x (_ ∷ []) (_ ∷ []) c.push-then-kind-eq9.ensures.text c.push-then-kind-eq9-2.ensures.text) c.push-then-kind-eq9-3.ensures.text) c.push-written-then-kind-eq9.ensures.text) c.paged-then-kind-eq9.ensures

pub returns : goal.returns
returns c = let a = c.args in nothing_written a.self _ (no_item _ a.place a.length c.if-kind-eq6.false c.if-kind-eq7.false c.if-kind-eq8.false c.if-kind-eq9.false) c.requires
