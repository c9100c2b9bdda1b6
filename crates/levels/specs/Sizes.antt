-- The nodes and the depth of a model as the code counts them, and what each function hands back. Assumes nothing.
use Rattle.std.specs.Prelude.{◌≡◌, List, ◌∷◌, ℕ, ◌≤◌}
use Rattle.models.specs.Models.{Model, called}
use Rattle.models.specs.Expressions.{model_expression, model_nodes, model_depth}
use Rattle.models.specs.Reader.{LeftOf, behind_left, around_model, short_name}
use Rattle.declarations.specs.declared.NodeRow.{NodeRow}
use Rattle.declarations.specs.Nodes.{room_for_nodes, Shows, LeftShown}
use Rattle.levels.specs.declared.Level.{Level}
use Rattle.levels.specs.declared.Nest.{Nest}
use Rattle.levels.specs.declared.ModelSize.{ModelSize}
use Rattle.levels.specs.Levels.{Around, Nested}

pub record SizeOf (x : Model) (s : ModelSize) : Type 0 where
  pub nodes_are : s.nodes ≡ model_nodes x
  pub deep_is : s.deep ≡ model_depth x

pub record RowSize (a : NodeRow) (r : ModelSize) : Type 0 where
  pub is : (number : List ℕ → ℕ) (x : Model) → Shows (model_expression number x) a → SizeOf x r

-- behind what stands to the left, where there is room for its nodes
pub record BehindSize (p : Level) (s r : ModelSize) : Type 0 where
  pub is : (number : List ℕ → ℕ) (l : LeftOf) (x : Model) → LeftShown number l p.kind p.nodes → SizeOf x s → model_nodes (behind_left l x) ≤ room_for_nodes → SizeOf (behind_left l x) r

-- with every pair closed behind it
pub record SizedAround (v : Nest) (s r : ModelSize) : Type 0 where
  pub is : (number : List ℕ → ℕ) (x : Model) (l : LeftOf) (ls : List LeftOf) → Around number l ls v → SizeOf x s → model_nodes (around_model (l ∷ ls) x) ≤ room_for_nodes → SizeOf (around_model (l ∷ ls) x) r

-- behind the model that was read last; and where a model is wanted, behind a name
pub record MeasuredAs (v : Nest) (r : ModelSize) : Type 0 where
  pub is : (number : List ℕ → ℕ) (x : Model) (l : LeftOf) (ls : List LeftOf) → Nested number x l ls v → model_nodes (around_model (l ∷ ls) x) ≤ room_for_nodes → SizeOf (around_model (l ∷ ls) x) r

pub record WantingAs (v : Nest) (r : ModelSize) : Type 0 where
  pub is : (number : List ℕ → ℕ) (l : LeftOf) (ls : List LeftOf) → Around number l ls v → model_nodes (around_model (l ∷ ls) (called short_name)) ≤ room_for_nodes → SizeOf (around_model (l ∷ ls) (called short_name)) r
