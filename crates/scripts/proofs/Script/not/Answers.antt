use mathlib.Core.Path.{◌≡◌, ◌∙◌}
use native.Mathlib.Omega.{arith}
use lib.ListN.{length}
use Rattle.scripts.proofs.Answers.{no_not, not_some, margin_top}
use Rattle.extents.proofs.Parts.{length_of_structs}
use Rattle.extents.specs.Held.{most_margins}
use Rattle.scripts.specs.Scripts.{layers_in}
use Prim.Native.Nat.{◌<◌}
use borrow.Author.Rules.{rules}
use Rattle.scripts.proofs.Script.not.Goals as goal

-- Each answer by the law that it names. Assumes nothing.
pub returns-then-deep-eq0 : goal.returns-then-deep-eq0
returns-then-deep-eq0 c = no_not (layers_in c.args.self) c.args.self.margins c.args.self.deep c.if-deep-eq0.true

pub overflow_add-margin : goal.overflow_add-margin
overflow_add-margin c = let k : length c.args.self.margins ≡ most_margins = search (length_of_structs, rules) in let p : 0 < c.args.self.deep = omega (arith, c.if-deep-eq0.false) in let m = margin_top c.args.self.margins c.args.self.deep p (omega (arith, k, c.requires.room)) c.requires.small in record { fits = omega (arith, m.few_nots) }

pub returns : goal.returns
returns c = let k : length c.args.self.margins ≡ most_margins = search (length_of_structs, rules) in let p : 0 < c.args.self.deep = omega (arith, c.if-deep-eq0.false) in c.margined.ensures ∙ not_some (layers_in c.args.self) c.args.self.margins c.args.self.deep p (omega (arith, k, c.requires.room))
