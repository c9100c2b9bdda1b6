-- Content models of XML 1.0 as trees: productions 46 to 51, without ANY. Assumes nothing.
use Rattle.std.specs.Prelude.{List, ℕ}

-- a name by its bytes; x,y and x|y, where x,y,z is (x,y),z and x|y|z is (x|y)|z; x?, x* and x+
pub data Model : Type 0 where
  called : List ℕ → Model
  sequence choice : Model → Model → Model
  optional any_number at_least_one : Model → Model

-- what an element's declaration says of its content: EMPTY; (#PCDATA|a|b)*, by the names; or a model of its children
pub data ContentSpec : Type 0 where
  nothing_inside : ContentSpec
  mixed : List (List ℕ) → ContentSpec
  children : Model → ContentSpec

pub record Declaration : Type 0 where
  pub declared : List ℕ  -- the element's name
  pub content : ContentSpec
