use mathlib.Core.Path.{◌∙◌, ap}
use mathlib.Core.List.{[], ◌∷◌}
use lib.ListN.{length}
use Rattle.strokes.specs.Strokes.{stacked}
use Rattle.inks.proofs.Laws.{joined_as}
use borrow.Author.Rules.{rules}
use Rattle.inks.proofs.Ink.test.Goals as goal

-- Each answer by the law that it names. Assumes nothing.
pub returns : goal.returns
returns c = let s = c.args.self in let p = c.push-written in let h = c.push-starts.ensures.held ∙ (ap (stacked _) c.fresh-bare.ensures.held ∙ ap (λ z. z ∷ []) (c.size.ensures ∙ ap length p.ensures.text)) in joined_as s 2 p.ensures.text h h c.joined.ensures
