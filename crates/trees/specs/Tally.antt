-- The counts of bracket strings to a tree's end that a walk over it hands back.
-- Assumes nothing.
use Rattle.std.specs.Prelude.{◌≡◌, Bool, List, ℕ, ◌+◌, ◌≤◌, eqb}
use Rattle.expressions.specs.Expr.{Atom, Exp, atom, star, empty, nodes, atoms}
use Rattle.expressions.specs.Count.{Count, none, one, many}
use Rattle.expressions.specs.Decide.{null, last}
use Rattle.layout.specs.Layout.{node_count}
use Rattle.trees.specs.declared.Number.{Number}
use Rattle.trees.specs.declared.Number.TheVariants.{None, One, Many}
use Rattle.trees.specs.declared.Tally.{Tally}
use Rattle.trees.specs.Trees.{TreeAt}

abbrev pub count_of : Number → Count
count_of None = none
count_of One = one
count_of Many = many

-- t has the counts of e, whose first atom is j, from its start and from just after atom p
pub record CountsOf (p j : ℕ) (e : Exp) (t : Tally) : Type 0 where
  pub null_is : count_of t.null ≡ null e
  pub last_is : count_of t.last ≡ last e j p

-- t is an atom's: `here` says whether it is the place
pub record LeafOf (here : Bool) (next atom_past : ℕ) (t : Tally) : Type 0 where
  pub counts : (p j : ℕ) (a : Atom) → here ≡ eqb p j → CountsOf p j (atom a) t
  pub next_of : t.next ≡ next
  pub atom_of : t.atom ≡ atom_past

-- t is the empty node's
pub record EmptyOf (next atom_past : ℕ) (t : Tally) : Type 0 where
  pub counts : (p j : ℕ) → CountsOf p j empty t
  pub next_of : t.next ≡ next
  pub atom_of : t.atom ≡ atom_past

-- t is a star's, from its part's, l
pub record StarOf (l t : Tally) : Type 0 where
  pub counts : (p j : ℕ) (e : Exp) → CountsOf p j e l → CountsOf p j (star e) t
  pub next_of : t.next ≡ l.next
  pub atom_of : t.atom ≡ l.atom

-- t is a concatenation's or a union's, from its parts', l and r
pub record JoinOf (join : Exp → Exp → Exp) (l r t : Tally) : Type 0 where
  pub counts : (p j : ℕ) (e f : Exp) → CountsOf p j e l → CountsOf p (j + atoms e) f r → CountsOf p j (join e f) t
  pub next_of : t.next ≡ r.next
  pub atom_of : t.atom ≡ r.atom

-- a tree of at most `left` nodes stands at node `at`, within the sheet's nodes; its first atom's number, j, is no more than its place allows
pub record TreeIn (s : List ℕ) (at left j : ℕ) : Type 0 where
  pub expression : Exp
  pub stands : TreeAt s at expression
  pub few : nodes expression ≤ left
  pub inside : at + nodes expression ≤ node_count s
  pub number : j ≤ at + 1

-- the node past e and the atom past its atoms
pub record PastOf (at j : ℕ) (e : Exp) (next atom_past : ℕ) : Type 0 where
  pub next_is : next ≡ at + nodes e
  pub atom_is : atom_past ≡ j + atoms e

-- what the walk answers of the tree that stands there; there is one where it is asked
pub record Tallied (s : List ℕ) (p at j : ℕ) (t : Tally) : Type 0 where
  pub passes : (e : Exp) → TreeAt s at e → PastOf at j e t.next t.atom
  pub counts : (e : Exp) → TreeAt s at e → CountsOf p j e t
