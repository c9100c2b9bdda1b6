use mathlib.Core.Path.{◌≡◌, sym, subst}
use lib.Dec.{eqb}
use lib.ListN.{drop}
use borrow.Author.Tests.{tests}
use Rattle.std.proofs.Common.{rules}
use Rattle.std.specs.List.{list_all}
use Rattle.std.proofs.lemmas.Iterator.{YieldsList-from_slice}
use Rattle.std.proofs.lemmas.Iterator.Adapters.{YieldsList-from_skip}
use Rattle.std.proofs.lemmas.Iterator.Search.{all_from_yields_List}
use Rattle.tells.specs.Tells.{Tells}
use Rattle.cases.proofs.Laws.{all_told}
use Rattle.cases.proofs.is_kept.Goals as goal

pub returns : goal.returns
returns c =
    let a = c.args in
    let e : c.all.result ≡ list_all (λ x. eqb x a.lent) (drop a.from a.memory.now) =
    all_from_yields_List (λ x. eqb x a.lent) _ _ c.all.result c.all.ensures.ran (YieldsList-from_skip a.from (YieldsList-from_slice a.memory.now cc) c.skip.ensures.count) (λ x b q k. search (rules, tests)) in
    subst (Tells _) (sym e) (all_told a.lent (drop a.from a.memory.now))
