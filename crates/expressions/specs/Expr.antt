-- Expressions as trees, with their numbers of nodes and atoms and their depth.
-- Assumes nothing.
use Rattle.std.specs.Prelude.{ℕ, suc, ◌+◌, max}

-- what an atom is: a nonterminal (kind 1), or any one character (kind 2)
pub data Atom : Type 0 where
  nonterminal : ℕ → Atom
  anychar : Atom

-- an expression: an atom, a concatenation (kind 3), a union (4), a star (5), or the empty word (6)
pub data Exp : Type 0 where
  atom : Atom → Exp
  cat : Exp → Exp → Exp
  alt : Exp → Exp → Exp
  star : Exp → Exp
  empty : Exp

abbrev pub nodes : Exp → ℕ
nodes (atom k) = 1
nodes (cat l r) = suc (nodes l + nodes r)
nodes (alt l r) = suc (nodes l + nodes r)
nodes (star e) = suc (nodes e)
nodes empty = 1

abbrev pub atoms : Exp → ℕ
atoms (atom k) = 1
atoms (cat l r) = atoms l + atoms r
atoms (alt l r) = atoms l + atoms r
atoms (star e) = atoms e
atoms empty = 0

-- a lone node is 1 deep
abbrev pub depth : Exp → ℕ
depth (atom k) = 1
depth (cat l r) = suc (max (depth l) (depth r))
depth (alt l r) = suc (max (depth l) (depth r))
depth (star e) = suc (depth e)
depth empty = 1

-- a production's expression: the empty one, of no nodes, or one whole tree
pub data Content : Type 0 where
  nothing : Content
  tree : Exp → Content

abbrev pub nodes_of : Content → ℕ
nodes_of nothing = 0
nodes_of (tree e) = nodes e

abbrev pub atoms_of : Content → ℕ
atoms_of nothing = 0
atoms_of (tree e) = atoms e

-- a place is 0, the start, or an atom
abbrev pub places : Content → ℕ
places e = suc (atoms_of e)
