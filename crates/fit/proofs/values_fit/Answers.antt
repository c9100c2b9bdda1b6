use mathlib.Core.Path.{subst, sym}
use lib.Dec.{leb}
use borrow.Author.Tests.{tests}
use Rattle.std.proofs.Common.{rules}
use Rattle.std.proofs.lemmas.Iterator.{YieldsList-from_slice}
use Rattle.std.proofs.lemmas.Iterator.Search.{all_from_yields_List}
use Rattle.tells.specs.Tells.{Tells}
use Rattle.programs.specs.Bounds.{bounds}
use Rattle.programs.specs.Limits.{Value}
use Rattle.state.specs.Meaning.{Every}
use Rattle.fit.proofs.Lists.{values_told}
use Rattle.fit.proofs.values_fit.Goals as goal

pub returns : goal.returns
returns c =
    let v = c.args.values in
    subst (Tells (Every Value v)) (sym (all_from_yields_List (λ v. leb v bounds.highest_value) _ _ c.all.result c.all.ensures.ran (YieldsList-from_slice v cc) (λ x b q k. search (rules, tests)))) (values_told v)
