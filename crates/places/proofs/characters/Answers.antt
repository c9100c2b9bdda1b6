use borrow.Author.Tests.{tests}
use Rattle.std.proofs.Common.{not, sym, ◌∙◌, rules}
use Rattle.std.proofs.lemmas.Iterator.{YieldsList-from_slice}
use Rattle.std.proofs.lemmas.Iterator.Consumers.{YieldsList-from_filter, count_from_yields_List}
use Rattle.std.proofs.lemmas.List.Sums.{length-filter}
use Rattle.places.specs.Lines.{goes_on}
use Rattle.places.proofs.Laws.{characters_counted}
use Rattle.places.proofs.characters.Goals as goal

pub returns : goal.returns
returns c =
    let s = c.args.bytes.now in
    count_from_yields_List c.filter.result c.count.result c.count.ensures.ran
    (YieldsList-from_filter _ (λ b. not (goes_on b)) (YieldsList-from_slice s cc) c.filter.ensures.closure (λ x b q k. search (rules, tests)))
    ∙ length-filter (λ b. not (goes_on b)) s ∙ sym (characters_counted s)
