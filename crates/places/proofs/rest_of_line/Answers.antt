use borrow.Author.Tests.{tests}
use Rattle.std.proofs.Common.{not, rules}
use Rattle.std.proofs.lemmas.Iterator.{YieldsList-from_slice}
use Rattle.std.proofs.lemmas.Iterator.Search.{position_from_yields_List}
use Rattle.places.specs.Lines.{in_line}
use Rattle.places.proofs.Laws.{leading_is}
use Rattle.places.proofs.rest_of_line.Goals as goal

pub returns : goal.returns
returns c =
    leading_is in_line c.args.bytes.now _ _
    (position_from_yields_List (λ b. not (in_line b)) _ _ c.position.result c.position.ensures.ran (YieldsList-from_slice c.args.bytes.now cc) (λ x b q k. search (rules, tests)))
    c.unwrap_or.ensures
