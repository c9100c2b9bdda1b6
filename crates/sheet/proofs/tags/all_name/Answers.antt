use borrow.Author.Tests.{tests}
use Rattle.std.proofs.Common.{rules}
use Rattle.std.proofs.lemmas.Iterator.{YieldsList-from_slice}
use Rattle.std.proofs.lemmas.Iterator.Search.{all_from_yields_List}
use Rattle.text.specs.Names.{name_byte}
use Rattle.sheet.proofs.TagLaws.{all_listed}
use Rattle.sheet.proofs.tags.all_name.Goals as goal

pub returns : goal.returns
returns c = all_listed name_byte c.args.f.now c.all.result (all_from_yields_List name_byte _ _ _ c.all.ensures.ran (YieldsList-from_slice c.args.f.now cc) (λ x b q k. search (rules, tests)))
