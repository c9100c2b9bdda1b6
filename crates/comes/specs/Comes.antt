-- What may come next at a place of a production: each symbol to which a bracket string leads from there. Definitions.
-- Assumes nothing.
use Rattle.std.specs.Prelude.{◌≡◌, Bool, true, false, List, ℕ}
use Rattle.expressions.specs.Count.{Count, none, one, many}
use Rattle.expressions.specs.Grammar.{Production, content_of}
use Rattle.expressions.specs.Decide.{to_end}
use Rattle.trees.specs.GrammarAt.{GrammarIs}
use Rattle.faults.specs.Part.{SumsAre}

-- one bracket string leads there, or many do
abbrev pub leads : Count → Bool
leads none = false
leads one = true
leads many = true

-- a sum for each tag and for a character, 0 exactly where none leads to it; and whether one leads to the end
pub record MayCome (s : List ℕ) (q p : ℕ) (sums : List ℕ) (ends : Bool) : Type 0 where
  pub sums_are : SumsAre s q p sums
  pub end_is : (g : List Production) → GrammarIs s g → ends ≡ leads (to_end (content_of g q) p)
