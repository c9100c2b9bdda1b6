-- The grammar that a sheet's productions are, programs left aside. Assumes nothing.
use Rattle.std.specs.Prelude.{◌≡◌, List, [], ◌∷◌, ℕ, suc}
use Rattle.expressions.specs.Grammar.{Production}
use Rattle.layout.specs.Layout.{production_count}
use Rattle.layout.specs.Records.{nonterminal_of, tag_number_of}
use Rattle.trees.specs.Trees.{ContentAt}

pub record ProductionIs (s : List ℕ) (q : ℕ) (d : Production) : Type 0 where
  pub nonterminal_is : d.nonterm ≡ nonterminal_of s q
  pub tag_is : d.tagno ≡ tag_number_of s q
  pub content_is : ContentAt s q d.content

-- the productions from q on
abbrev pub GrammarFrom : List ℕ → ℕ → List Production → Type 0
GrammarFrom s q [] = q ≡ production_count s
GrammarFrom s q (d ∷ ds) = ProductionIs s q d × GrammarFrom s (suc q) ds

abbrev pub GrammarIs : List ℕ → List Production → Type 0
GrammarIs s g = GrammarFrom s 0 g
