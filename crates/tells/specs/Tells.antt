-- What a test tells: whether a thing holds. Assumes nothing.
use Rattle.std.specs.Prelude.{Bool, true, false}

pub data Tells (P : Type 0) : Bool → Type 0 where
  holds : P → Tells P true
  fails : (P → ⊥) → Tells P false
