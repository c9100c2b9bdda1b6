use borrow.Author.Tests.{tests}
use Rattle.std.proofs.Common.{not, rules}
use Rattle.std.proofs.lemmas.Iterator.{YieldsList-from_slice}
use Rattle.std.proofs.lemmas.Iterator.Search.{position_from_yields_List}
use Rattle.places.specs.Lines.{goes_on}
use Rattle.places.proofs.Laws.{leading_is}
use Rattle.places.proofs.rest_of_character.Goals as goal

pub returns : goal.returns
returns c =
    leading_is goes_on c.args.bytes.now _ _
    (position_from_yields_List (λ b. not (goes_on b)) _ _ c.position.result c.position.ensures.ran (YieldsList-from_slice c.args.bytes.now cc) (λ x b q k. search (rules, tests)))
    c.unwrap_or.ensures
