-- Nonterminals that are used have productions. Number 7 of document 01. Assumes nothing.
use Rattle.std.specs.Prelude.{◌≡◌, List, ℕ, ◌<◌}
use Rattle.layout.specs.Layout.{production_count, node_count, start}
use Rattle.layout.specs.Records.{nonterminal_of, kind_of, argument_of}

-- nonterminal n has a production
pub record Produced (s : List ℕ) (n : ℕ) : Type 0 where
  pub number : ℕ
  pub there : number < production_count s
  pub its : nonterminal_of s number ≡ n

-- number 7: the start has a production, and each atom's nonterminal (a node of kind 1 is such an atom)
pub record Grounded (s : List ℕ) : Type 0 where
  pub start_has : Produced s (start s)
  pub atoms_have : (i : ℕ) → i < node_count s → kind_of s i ≡ 1 → Produced s (argument_of s i)
