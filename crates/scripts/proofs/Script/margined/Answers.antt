use mathlib.Core.Path.{◌≡◌, ap}
use native.Mathlib.Omega.{arith}
use lib.ListN.{length}
use Rattle.scripts.proofs.Answers.{with_stage}
use Rattle.extents.proofs.Stacks.{pushed}
use Rattle.extents.proofs.Parts.{length_of_structs}
use Rattle.extents.specs.Held.{margin_of, bare_margin, most_margins}
use Rattle.scripts.specs.Scripts.{stage_of, layers_in}
use borrow.Author.Rules.{rules}
use Rattle.scripts.proofs.Script.margined.Goals as goal

-- Each answer by the law that it names. Assumes nothing.
pub returns : goal.returns
returns c = let k : length c.args.self.margins ≡ most_margins = search (length_of_structs, rules) in with_stage (layers_in c.args.self) (ap (stage_of c.args.stage) (pushed margin_of bare_margin c.args.self.margins c.args.n c.args.margin (omega (arith, k, c.requires))))
