-- The open nodes of a place: those of the expression that have been entered and not left; and how much a run keeps of them.
-- Assumes nothing.
use Rattle.std.specs.Prelude.{◌≡◌, Bool, true, false, List, [], ◌∷◌, ◌++◌, ℕ, zero, suc, ◌+◌, ltb, eqb, length}
use Rattle.std.proofs.Math.Option.{Option, none, some}
use Rattle.expressions.specs.Expr.{Exp, atom, cat, alt, star, empty, nodes, atoms, depth, Content, nothing, tree}
use Rattle.expressions.specs.Words.{Bracket, opening, closing}
use Rattle.expressions.specs.Grammar.{Production}
use Rattle.runs.specs.Options.{bind, when_true}
use Rattle.expressions.specs.Grammar.{content_of}
use Rattle.runs.specs.Visits.{Saved}
use Rattle.runs.specs.Machine.{Open, Control, before, inside, after}

abbrev pub one_of_lem : Bool → Option (List ℕ) → Option (List ℕ) → Option (List ℕ)
one_of_lem true a b = a
one_of_lem false a b = b

-- node i around others, innermost first
abbrev pub inside_node : ℕ → Option (List ℕ) → Option (List ℕ)
inside_node i o = bind o (λ ns. some (ns ++ i ∷ []))

-- the nodes around atom p, innermost first, where the expression has that atom; its first bracket is i and its first atom is j
abbrev pub nodes_at : Exp → ℕ → ℕ → ℕ → Option (List ℕ)
nodes_at (atom k) i j p = when_true (eqb p j) (i ∷ [])
nodes_at (cat l r) i j p = inside_node i (one_of_lem (ltb p (j + atoms l)) (nodes_at l (suc i) j p) (nodes_at r (suc i + nodes l) (j + atoms l) p))
nodes_at (alt l r) i j p = inside_node i (one_of_lem (ltb p (j + atoms l)) (nodes_at l (suc i) j p) (nodes_at r (suc i + nodes l) (j + atoms l) p))
nodes_at (star e) i j p = inside_node i (nodes_at e (suc i) j p)
nodes_at empty i j p = none

-- none where the expression has no such place
abbrev pub open_nodes : Content → ℕ → Option (List ℕ)
open_nodes e zero = some []
open_nodes nothing (suc p) = none
open_nodes (tree e) (suc p) = nodes_at e 1 1 (suc p)

abbrev pub deepest : Content → ℕ
deepest nothing = 0
deepest (tree e) = depth e

-- what a bracket string makes of the open nodes; none if it closes one that is not the innermost, or opens more than lim
abbrev pub only_if : Bool → Option (List ℕ) → Option (List ℕ)
only_if true o = o
only_if false o = none

abbrev pub through_nodes : ℕ → List Bracket → List ℕ → Option (List ℕ)
through_nodes lim [] ns = some ns
through_nodes lim (opening b ∷ α) ns = only_if (ltb (length ns) lim) (through_nodes lim α (b ∷ ns))
through_nodes lim (closing b ∷ α) [] = none
through_nodes lim (closing b ∷ α) (m ∷ ns) = only_if (eqb b m) (through_nodes lim α ns)

-- of an open element as many sets are kept as it has open nodes, and one for its production
abbrev pub KeptOf : List Production → Open → List Saved → Type 0
KeptOf g o ks = (ns : List ℕ) × (open_nodes (content_of g o.production) o.place ≡ some ns) × (length ks ≡ suc (length ns))

abbrev pub KeptOfAll : List Production → List Open → List (List Saved) → Type 0
KeptOfAll g [] [] = Unit {0}
KeptOfAll g [] (ks ∷ kss) = ⊥
KeptOfAll g (o ∷ os) [] = ⊥
KeptOfAll g (o ∷ os) (ks ∷ kss) = KeptOf g o ks × KeptOfAll g os kss

abbrev pub KeptAt : List Production → Control → List (List Saved) → Type 0
KeptAt g before kss = kss ≡ []
KeptAt g (inside o os) kss = KeptOfAll g (o ∷ os) kss
KeptAt g after kss = kss ≡ []
