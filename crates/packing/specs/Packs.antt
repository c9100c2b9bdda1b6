-- Bytes that are a sheet and keep numbers 1 to 6; number 7 is left open. Assumes nothing.
use Rattle.std.specs.Prelude.{◌≡◌, List, ℕ}
use Rattle.layout.specs.Layout.{Size, Sections, tag_count, production_count, strings_in, start}
use Rattle.trees.specs.Trees.{Trees}
use Rattle.sheet.specs.Tags.{TagAt, Tags}
use Rattle.sheet.specs.Productions.{Productions}
use Rattle.sheet.specs.Fields.{Programs}
use Rattle.sheet.specs.Sheet.{Sheet, From, RuleAt}

pub record Packs (s : List ℕ) (a : Sheet) : Type 0 where
  pub size : Size s
  pub sections : Sections s
  pub tags : Tags s
  pub productions : Productions s
  pub trees : Trees s
  pub programs : Programs s
  pub names_are : From (TagAt s) 0 (tag_count s) a.names
  pub rules_are : From (RuleAt s programs.programs) 0 (production_count s) a.rules
  pub strings_are : a.strings ≡ strings_in s
  pub start_is : a.start_nonterminal ≡ start s
