use mathlib.Core.Path.{◌≡◌}
use native.Mathlib.Omega.{arith}
use lib.ListN.{length}
use Rattle.scripts.proofs.Answers.{with_layers}
use Rattle.extents.proofs.Stacks.{pushed}
use Rattle.extents.proofs.Parts.{length_of_structs}
use Rattle.extents.specs.Held.{around_of, bare_around, most_around}
use borrow.Author.Rules.{rules}
use Rattle.scripts.proofs.Script.layered.Goals as goal

-- Each answer by the law that it names. Assumes nothing.
pub returns : goal.returns
returns c = let k : length c.args.self.layers ≡ most_around = search (length_of_structs, rules) in with_layers _ (pushed around_of bare_around c.args.self.layers c.args.n (record { layer = c.args.layer }) (omega (arith, k, c.requires)))
