-- What is promised of a place in a content model. Assumes nothing.
use Rattle.std.specs.Prelude.{◌≡◌, ℕ, ◌+◌, ◌≤◌}
use mathlib.Core.List.{List, [], ◌∷◌, ◌++◌, Memᴰ}
use Rattle.models.specs.Models.{Model, called}
use Rattle.models.specs.Expressions.{model_expression, model_nodes}
use Rattle.models.specs.Family.{names_in}
use Rattle.models.specs.Spelling.{MarkIs}
use Rattle.models.specs.Reader.{LeftOf, fresh, commas, bars, behind_left, around_model, short_name}
use Rattle.models.specs.Names.{names_around}
use Rattle.levels.specs.declared.Nest.{Nest}
use Rattle.levels.specs.Levels.{Around, Nested, KeepsNodes}
use Rattle.declarations.specs.Nodes.{room_for_nodes}

-- two ways of numbering give these names the same numbers
abbrev pub NumberedAlike : (List ℕ → ℕ) → (List ℕ → ℕ) → List (List ℕ) → Type 0
NumberedAlike number number' names = (m : List ℕ) → Memᴰ m names → number m ≡ number' m

-- only the numbers of names that were read matter
abbrev pub SameExpression : Type 0
SameExpression = (number number' : List ℕ → ℕ) (x : Model) → NumberedAlike number number' (names_in x) → model_expression number x ≡ model_expression number' x

abbrev pub AroundStays : Type 0
AroundStays = (number number' : List ℕ → ℕ) (l : LeftOf) (ls : List LeftOf) (v : Nest) → NumberedAlike number number' (names_around (l ∷ ls)) → Around number l ls v → Around number' l ls v

abbrev pub NestedStays : Type 0
NestedStays = (number number' : List ℕ → ℕ) (x : Model) (l : LeftOf) (ls : List LeftOf) (v : Nest) → NumberedAlike number number' (names_around (l ∷ ls) ++ names_in x) → Nested number x l ls v → Nested number' x l ls v

-- how many nodes the levels around add
abbrev pub nodes_left : LeftOf → ℕ
nodes_left fresh = 0
nodes_left (commas y) = model_nodes y + 1
nodes_left (bars y) = model_nodes y + 1

abbrev pub nodes_around : List LeftOf → ℕ
nodes_around [] = 0
nodes_around (l ∷ ls) = nodes_around ls + nodes_left l

abbrev pub AroundCounted : Type 0
AroundCounted = (ls : List LeftOf) (x : Model) → model_nodes (around_model ls x) ≡ nodes_around ls + model_nodes x

-- what one byte makes of a model within its limit has room: a mark, a comma, a bar
abbrev pub MarkHasRoom : Type 0
MarkHasRoom = (x y : Model) (b : List ℕ) (l : LeftOf) (ls : List LeftOf) → MarkIs x b y → KeepsNodes x l ls → model_nodes (around_model (l ∷ ls) y) ≤ room_for_nodes

abbrev pub CommaHasRoom : Type 0
CommaHasRoom = (x : Model) (l : LeftOf) (ls : List LeftOf) → KeepsNodes x l ls → model_nodes (around_model (commas (behind_left l x) ∷ ls) (called short_name)) ≤ room_for_nodes

abbrev pub BarHasRoom : Type 0
BarHasRoom = (x : Model) (l : LeftOf) (ls : List LeftOf) → KeepsNodes x l ls → model_nodes (around_model (bars (behind_left l x) ∷ ls) (called short_name)) ≤ room_for_nodes
