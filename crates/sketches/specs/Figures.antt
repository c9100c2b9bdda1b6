-- How large and how deep a tree is, and what lies around it, as functions of the parts' own numbers. Assumes nothing.
use Rattle.std.specs.Prelude.{Bool, true, false, ◌&&◌, ◌||◌, List, [], ◌∷◌, ℕ, ◌+◌, max}
use Rattle.std.proofs.Math.Option.{Option, none, some}
use Rattle.expressions.specs.Expr.{nodes, depth}
use Rattle.notation.specs.Rules.{Tree, node, expression}
use Rattle.reading.specs.Expressions.{ExpressionLevel}
use Rattle.sketches.specs.declared.Figure.{Figure}
use Rattle.sketches.specs.declared.Beside.{Beside}
use Rattle.sketches.specs.declared.Surround.{Surround}
use Rattle.sketches.specs.declared.Paren.{Paren}

abbrev pub present : {A : Type 0} → Option A → Bool
present none = false
present (some x) = true

abbrev pub bit_of : Bool → ℕ
bit_of true = 1
bit_of false = 0

abbrev pub figure : ℕ → ℕ → Bool → Bool → Figure
figure n d f g = record { nodes = n; depth = d; first = f; second = g }

abbrev pub beside : Bool → ℕ → ℕ → Beside
beside t n d = record { there = t; nodes = n; depth = d }

abbrev pub surround : ℕ → ℕ → ℕ → Bool → Surround
surround n d l s = record { nodes = n; depth = d; least = l; star = s }

abbrev pub paren : Bool → Beside → Beside → Surround → Paren
paren b u c m = record { before = b; union = u; cat = c; surround = m }

-- a tree's
abbrev pub first_of : Tree → Bool
first_of (node f g k) = present f

abbrev pub second_of : Tree → Bool
second_of (node f g k) = present g

abbrev pub figure_of : Tree → Figure
figure_of t = figure (nodes (expression t)) (depth (expression t)) (first_of t) (second_of t)

abbrev pub beside_of : Option Tree → Beside
beside_of none = beside false 0 0
beside_of (some t) = beside true (nodes (expression t)) (depth (expression t))

-- an atom without programs
abbrev pub lone : Figure
lone = figure 1 1 false false

abbrev pub starred : Figure → Figure
starred e = figure (e.nodes + 1) (e.depth + 1) false false

-- joined to what stands to the left
abbrev pub joined_if : Bool → Beside → Figure → Figure
joined_if true b e = figure (b.nodes + e.nodes + 1) (max b.depth e.depth + 1) false false
joined_if false b e = e

abbrev pub joined_to : Beside → Figure → Figure
joined_to b e = joined_if b.there b e

abbrev pub whole_in : Paren → Figure → Figure
whole_in p e = joined_to p.union (joined_to p.cat e)

-- as what stands to the left of the next operator
abbrev pub left_of : Figure → Beside
left_of e = beside true e.nodes e.depth

-- with the program in front, where a star makes room for a second one
abbrev pub starred_if : Bool → Figure → Figure
starred_if true e = figure (e.nodes + 1) (e.depth + 1) true false
starred_if false e = figure e.nodes e.depth true e.second

abbrev pub sealed_by : Bool → Figure → Figure
sealed_by true e = starred_if e.first e
sealed_by false e = e

abbrev pub held_in : Paren → Figure → Figure
held_in p e = sealed_by p.before (whole_in p e)

-- two programs for the first visit
abbrev pub clash : Bool → Figure → Bool
clash b e = b && e.first

-- with the program in front, where there is at most one
abbrev pub fronted_by : Bool → Figure → Figure
fronted_by b e = figure e.nodes e.depth (b || e.first) e.second

-- the nodes and the depth of a tree with what lies around it
abbrev pub nodes_with : Surround → Figure → ℕ
nodes_with m e = e.nodes + m.nodes + bit_of (e.first && m.star)

abbrev pub depth_with : Surround → Figure → ℕ
depth_with m e = max (e.depth + m.depth + bit_of (e.first && m.star)) m.least

abbrev pub bare : Surround
bare = surround 0 0 0 false

-- what lies around, one part further in: behind a program in front, right of an operator
abbrev pub fronting : Bool → Surround → Surround
fronting true m = surround (m.nodes + bit_of m.star) (m.depth + bit_of m.star) m.least true
fronting false m = m

abbrev pub beyond_if : Bool → Beside → Surround → Surround
beyond_if true b m = surround (b.nodes + m.nodes + 1) (m.depth + 1) (max (b.depth + m.depth + 1) m.least) false
beyond_if false b m = m

abbrev pub beyond : Beside → Surround → Surround
beyond b m = beyond_if b.there b m

abbrev pub inner_of : Paren → Surround
inner_of p = beyond p.cat (beyond p.union (fronting p.before p.surround))

-- a pair that was just opened
abbrev pub just_opened : Surround → Paren
just_opened m = paren false (beside false 0 0) (beside false 0 0) m

-- of the machine's levels, innermost first
abbrev pub paren_in : ExpressionLevel → Surround → Paren
paren_in l m = paren (present l.before) (beside_of l.alt_left) (beside_of l.cat_left) m

abbrev pub surround_of : List ExpressionLevel → Surround
surround_of [] = bare
surround_of (l ∷ ls) = inner_of (paren_in l (surround_of ls))

abbrev pub paren_of : ExpressionLevel → List ExpressionLevel → Paren
paren_of l ls = paren_in l (surround_of ls)

abbrev pub parens_of : List ExpressionLevel → List Paren
parens_of [] = []
parens_of (l ∷ ls) = paren_of l ls ∷ parens_of ls
