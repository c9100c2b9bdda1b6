-- The bracket strings from a place, counted for each next symbol at once: what one walk over a tree adds to the sums by symbol.
-- Assumes nothing.
use Rattle.std.specs.Prelude.{◌≡◌, Bool, cond, ◌&&◌, List, ℕ, suc, ◌+◌, ◌*◌, ◌≤◌, ◌<◌, eqb, ltb, length, get_or}
use Rattle.expressions.specs.Expr.{Exp}
use Rattle.limits.specs.Limits.{most_tags}
use Rattle.expressions.specs.Grammar.{Production, nonterminals, content_of, tags_of, Next, tag, character}
use Rattle.expressions.specs.Count.{Count, none, one, many, add, mul, bit}
use Rattle.expressions.specs.Decide.{null, first, last, follow, to_end, to_atom}
use Rattle.layout.specs.Layout.{production_count}
use Rattle.trees.specs.declared.Number.{Number}
use Rattle.trees.specs.declared.Onward.{Onward}
use Rattle.trees.specs.Trees.{TreeAt}
use Rattle.trees.specs.GrammarAt.{GrammarIs}
use Rattle.trees.specs.Tally.{count_of, PastOf}
use Rattle.trees.specs.Answers.{alike_before}

-- memory as it is lent, and cells that can count one more
pub record Zeros (memory : List ℕ) : Type 0 where
  pub each : (i : ℕ) → get_or memory i 0 ≡ 0

pub record RoomForOne (memory : List ℕ) : Type 0 where
  pub each : (i : ℕ) → get_or memory i 0 < 255

-- a cell for each nonterminal and tag
abbrev pub cells : ℕ
cells = nonterminals * most_tags

abbrev pub cell_of : (nonterm tagno : ℕ) → ℕ
cell_of n t = most_tags * n + t

-- one production of nonterminal m and tag t more
pub record OneAlike (m t : ℕ) (before after : List ℕ) : Type 0 where
  pub most : (i : ℕ) → get_or after i 0 ≤ get_or before i 0 + 1
  pub is : (n u : ℕ) → n < nonterminals → u < most_tags → get_or after (cell_of n u) 0 ≡ get_or before (cell_of n u) 0 + cond (eqb n m && eqb u t) 1 0

-- each has the number of productions of its nonterminal and its tag
pub record AllAlike (s known : List ℕ) : Type 0 where
  pub long : length known ≡ cells
  pub is : (n u : ℕ) → n < nonterminals → u < most_tags → get_or known (cell_of n u) 0 ≡ alike_before s n u (production_count s)

-- a sum is 0, 1 or 2, for none, one and many; with so many more it is
abbrev pub raised : ℕ → Count → ℕ
raised sum none = sum
raised sum one = cond (eqb sum 0) 1 2
raised sum many = 2

-- a sum for each tag, and behind those one for a character: the symbols of the sums
abbrev pub sum_cells : ℕ
sum_cells = suc most_tags

abbrev pub symbol_of : ℕ → Next
symbol_of i = cond (ltb i most_tags) (tag i) character

-- each sum is raised by what is told of its symbol
pub record Raised (more : Next → Count) (before after : List ℕ) : Type 0 where
  pub each : (i : ℕ) → i < sum_cells → get_or after i 0 ≡ raised (get_or before i 0) (more (symbol_of i))

-- the sums of nonterminal m's tags are raised by n
pub record TagsRaised (known : List ℕ) (m : ℕ) (n : Count) (before after : List ℕ) : Type 0 where
  pub tags : (t : ℕ) → t < most_tags → get_or after t 0 ≡ raised (get_or before t 0) (mul n (bit (ltb 0 (get_or known (cell_of m t) 0))))
  pub character : get_or after most_tags 0 ≡ get_or before most_tags 0

-- an atom is behind: `here` says whether it is the place
pub record PassedAs (here : Bool) (next atom_past : ℕ) (r : Onward) : Type 0 where
  pub out_is : count_of r.out ≡ bit here
  pub next_is : r.next ≡ next
  pub atom_is : r.atom ≡ atom_past

-- the parts of a union are behind
pub record UnionAs (n : Count) (second r : Onward) : Type 0 where
  pub out_is : count_of r.out ≡ add n (count_of second.out)
  pub next_is : r.next ≡ second.next
  pub atom_is : r.atom ≡ second.atom

-- n bracket strings lead from the place p to the start of the tree at node `at`: on through it, with those from p in the tree itself, to each
-- symbol and to its end
pub record Spread (s : List ℕ) (p at j : ℕ) (n : Count) (before after : List ℕ) (r : Onward) : Type 0 where
  pub passes : (e : Exp) → TreeAt s at e → PastOf at j e r.next r.atom
  pub out_is : (e : Exp) → TreeAt s at e → count_of r.out ≡ add (mul n (null e)) (last e j p)
  pub sums_are : (g : List Production) → GrammarIs s g → (e : Exp) → TreeAt s at e →
      Raised (λ x. add (mul n (first (tags_of g) e x)) (follow (tags_of g) e j p x)) before after

-- from the place p of production q: to each symbol, and to the end
pub record CountedFrom (s : List ℕ) (q p : ℕ) (before after : List ℕ) (r : Number) : Type 0 where
  pub end_is : (g : List Production) → GrammarIs s g → count_of r ≡ to_end (content_of g q) p
  pub sums_are : (g : List Production) → GrammarIs s g → Raised (to_atom (tags_of g) (content_of g q) p) before after
