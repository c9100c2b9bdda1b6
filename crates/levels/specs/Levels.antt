-- A place in a content model as the code holds it, and what each function hands back. Assumes nothing.
use Rattle.std.specs.Prelude.{◌≡◌, List, [], ◌∷◌, ℕ, ◌+◌, ◌≤◌, length}
use Rattle.limits.specs.Limits.{nodes_at_most}
use Rattle.notation.specs.Statements.{parentheses}
use Rattle.models.specs.Models.{Model, called}
use Rattle.models.specs.Expressions.{model_expression, model_nodes}
use Rattle.models.specs.Spelling.{MarkIs}
use Rattle.models.specs.Reader.{LeftOf, fresh, commas, bars, behind_left, around_model}
use Rattle.declarations.specs.Nodes.{Shows, LeftShown}
use Rattle.extents.specs.Held.{last_first}
use Rattle.levels.specs.declared.Level.{Level}
use Rattle.levels.specs.declared.Nest.{Nest}

-- what stands past the end
abbrev pub bare_level : Level
bare_level = record { kind = 0; nodes = record { length = 0; deep = 0; bytes = [] } }

-- each of them as the code holds it
abbrev pub AllShown : (List ℕ → ℕ) → List LeftOf → List Level → Type 0
AllShown number [] [] = Unit {0}
AllShown number [] (p ∷ ps) = ⊥
AllShown number (l ∷ ls) [] = ⊥
AllShown number (l ∷ ls) (p ∷ ps) = LeftShown number l p.kind p.nodes × AllShown number ls ps

-- the levels around, innermost first
abbrev pub levels_in : Nest → List Level
levels_in v = last_first (λ p. p) bare_level v.around v.«open»

-- l stands to the left in the innermost pair, and ls in the pairs around it, innermost first; `number` numbers the names
pub record Around (number : List ℕ → ℕ) (l : LeftOf) (ls : List LeftOf) (v : Nest) : Type 0 where
  pub open_is : v.«open» ≡ length ls
  pub few_open : length ls + 1 ≤ parentheses
  pub here_is : LeftShown number l v.here.kind v.here.nodes
  pub around_are : AllShown number ls (levels_in v)

-- and x was read last
pub record Nested (number : List ℕ → ℕ) (x : Model) (l : LeftOf) (ls : List LeftOf) (v : Nest) : Type 0 where
  pub around : Around number l ls v
  pub model_is : Shows (model_expression number x) v.model

-- all of it, where every pair is closed behind x, keeps the limit of nodes
abbrev pub KeepsNodes : Model → LeftOf → List LeftOf → Type 0
KeepsNodes x l ls = model_nodes (around_model (l ∷ ls) x) ≤ nodes_at_most

pub record BareLevelIs (r : Level) : Type 0 where
  pub is : r.kind ≡ 0

-- behind the content's own parenthesis
pub record OpenedIs (r : Nest) : Type 0 where
  pub is : (number : List ℕ → ℕ) → Around number fresh [] r

-- a name of that number
pub record NamedIs (v : Nest) (n : ℕ) (r : Nest) : Type 0 where
  pub is : (number : List ℕ → ℕ) (m : List ℕ) (l : LeftOf) (ls : List LeftOf) → Around number l ls v → number m ≡ n → Nested number (called m) l ls r

-- a mark
pub record MarkIn (v : Nest) (b : ℕ) (r : Nest) : Type 0 where
  pub is : (number : List ℕ → ℕ) (x y : Model) (l : LeftOf) (ls : List LeftOf) → Nested number x l ls v → MarkIs x (b ∷ []) y → KeepsNodes x l ls → Nested number y l ls r

-- a comma, or a bar
pub record JoinIs (v : Nest) (kind : ℕ) (r : Nest) : Type 0 where
  pub with_comma_lem : kind ≡ 3 → (number : List ℕ → ℕ) (x : Model) (l : LeftOf) (ls : List LeftOf) → Nested number x l ls v → KeepsNodes x l ls → Around number (commas (behind_left l x)) ls r
  pub with_bar_lem : kind ≡ 4 → (number : List ℕ → ℕ) (x : Model) (l : LeftOf) (ls : List LeftOf) → Nested number x l ls v → KeepsNodes x l ls → Around number (bars (behind_left l x)) ls r

-- a parenthesis that opens, where one more may
pub record PushIs (v r : Nest) : Type 0 where
  pub is : (number : List ℕ → ℕ) (l : LeftOf) (ls : List LeftOf) → Around number l ls v → length ls + 2 ≤ parentheses → Around number fresh (l ∷ ls) r

-- one that closes: inside another pair, and the content's own
pub record CloseIs (v r : Nest) : Type 0 where
  pub inner : (number : List ℕ → ℕ) (x : Model) (l l' : LeftOf) (ls : List LeftOf) → Nested number x l (l' ∷ ls) v → KeepsNodes x l (l' ∷ ls) → Nested number (behind_left l x) l' ls r
  pub outer : (number : List ℕ → ℕ) (x : Model) (l : LeftOf) → Nested number x l [] v → KeepsNodes x l [] → Shows (model_expression number (behind_left l x)) r.model
