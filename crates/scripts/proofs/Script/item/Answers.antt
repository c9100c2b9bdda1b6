use mathlib.Core.Path.{sym, ◌∙◌}
use Rattle.scripts.proofs.Answers.{item_short, item_long, item_none}
use Rattle.scripts.specs.Scripts.{layers_in}
use Rattle.scripts.proofs.Script.item.Goals as goal

-- Each answer by the law that it names. Assumes nothing.
pub returns-then-is_short_item : goal.returns-then-is_short_item
returns-then-is_short_item c = c.plain.ensures ∙ item_short (layers_in c.args.self) c.args.kind (sym c.is_short_item.ensures ∙ c.if-is_short_item.true)

pub returns-then-is_long_item : goal.returns-then-is_long_item
returns-then-is_long_item c = c.plain-then-is_long_item.ensures ∙ item_long (layers_in c.args.self) c.args.kind (sym c.is_short_item.ensures ∙ c.if-is_short_item.false) (sym c.is_long_item.ensures ∙ c.if-is_long_item.true)

pub returns : goal.returns
returns c = item_none (layers_in c.args.self) c.args.kind (sym c.is_short_item.ensures ∙ c.if-is_short_item.false) (sym c.is_long_item.ensures ∙ c.if-is_long_item.false)
