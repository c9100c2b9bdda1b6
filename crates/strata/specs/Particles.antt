-- What the parts of a model of children make of a declaration that is being read. Assumes nothing.
use Rattle.std.specs.Prelude.{◌≡◌, Bool, ◌||◌, List, ℕ, ◌+◌, ◌/◌, ◌≤◌, eqb, length}
use Rattle.std.proofs.Math.Option.{some}
use Rattle.models.specs.Models.{Model, Declaration}
use Rattle.models.specs.Reader.{LeftOf, behind_left, wants, to, with_comma, with_bar, closed_group, step_item, finished_phase}
use Rattle.declarations.specs.declared.NodeRow.{NodeRow}
use Rattle.declarations.specs.Nodes.{most_node_bytes}
use Rattle.levels.specs.declared.ModelSize.{ModelSize}
use Rattle.levels.specs.Levels.{Around, Nested, KeepsNodes}
use Rattle.stages.specs.declared.Headway.{Headway}
use Rattle.stages.specs.declared.Moved.{Moved}
use Rattle.stages.specs.Steps.{FateIs}

-- ? * +
abbrev pub is_mark : ℕ → Bool
is_mark b = eqb b 63 || (eqb b 42 || eqb b 43)

-- a name or a group
pub record ParticleStep (s : Headway) (b : ℕ) (r : Moved) : Type 0 where
  pub is : (number : List ℕ → ℕ) (n : List ℕ) (l : LeftOf) (ls : List LeftOf) → Around number l ls s.nest → FateIs number (λ p. step_item p n l ls b) (finished_phase (wants n l ls)) r

-- a comma, where bars are the other; a bar, where commas are
pub record JoinStep (s : Headway) (kind other : ℕ) (r : Moved) : Type 0 where
  pub with_comma_lem : kind ≡ 3 → other ≡ 4 → (number : List ℕ → ℕ) (d : Declaration) (n : List ℕ) (x : Model) (l : LeftOf) (ls : List LeftOf) → Nested number x l ls s.nest → KeepsNodes x l ls
      → FateIs number (λ p. with_comma n x l ls) d r
  pub with_bar_lem : kind ≡ 4 → other ≡ 3 → (number : List ℕ → ℕ) (d : Declaration) (n : List ℕ) (x : Model) (l : LeftOf) (ls : List LeftOf) → Nested number x l ls s.nest → KeepsNodes x l ls
      → FateIs number (λ p. with_bar n x l ls) d r

-- a closing parenthesis
pub record CloseStep (s : Headway) (r : Moved) : Type 0 where
  pub is : (number : List ℕ → ℕ) (d : Declaration) (n : List ℕ) (x : Model) (l : LeftOf) (ls : List LeftOf) → Nested number x l ls s.nest → KeepsNodes x l ls
      → FateIs number (λ p. some (to (closed_group n (behind_left l x) ls))) d r

-- so many nodes more, and so much deeper
pub record MoreSize (a : NodeRow) (nodes deep : ℕ) (r : ModelSize) : Type 0 where
  pub is : a.deep ≤ most_node_bytes → (r.nodes ≡ a.length / 2 + nodes) × (r.deep ≡ a.deep + deep)
