-- The next symbol as the code holds it: its meaning. Assumes nothing.
use Rattle.expressions.specs.Grammar.{Next, tag, character, end}
use Rattle.trees.specs.declared.Symbol.{Symbol}
use Rattle.trees.specs.declared.Symbol.TheVariants.{Tag, Character, End}

abbrev pub next_of : Symbol → Next
next_of (Tag t) = tag t
next_of Character = character
next_of End = end
