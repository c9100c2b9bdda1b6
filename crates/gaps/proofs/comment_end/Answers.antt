use borrow.Author.Tests.{tests}
use Rattle.std.proofs.Common.{rules, ◌∙◌}
use Rattle.std.proofs.lemmas.List.{take_rest}
use Rattle.std.proofs.lemmas.Iterator.{YieldsList-from_slice}
use Rattle.std.proofs.lemmas.Iterator.Search.{position_from_yields_List}
use Rattle.gaps.proofs.Skipping.{in_none, run_to, run_whole}
use Rattle.gaps.proofs.comment_end.Goals as goal

pub returns-in-Some : goal.returns-in-Some
returns-in-Some c =
    let a = c.args in
    run_to a.x.now a.from c.requires c.position.result (position_from_yields_List in_none _ _ _ c.position.ensures.ran (YieldsList-from_slice _ (c.iter.ensures.rest ∙ take_rest a.x.now a.from)) (λ x b q k. search (rules, tests))) c.in-Some.n c.in-Some.is

pub returns-in-None : goal.returns-in-None
returns-in-None c =
    let a = c.args in
    run_whole a.x.now a.from c.requires c.position.result (position_from_yields_List in_none _ _ _ c.position.ensures.ran (YieldsList-from_slice _ (c.iter.ensures.rest ∙ take_rest a.x.now a.from)) (λ x b q k. search (rules, tests))) c.in-None.is
