use mathlib.Core.Path.{◌≡◌, refl}
use mathlib.Core.Bool.{false}
use mathlib.Core.List.{List}
use Prim.Native.Nat.{ℕ}
use Rattle.expressions.specs.Expr.{anychar}
use Rattle.expressions.specs.Grammar.{can_be}
use Rattle.trees.specs.declared.Symbol.{Symbol}
use Rattle.trees.specs.declared.Symbol.TheVariants.{Tag, Character, End}
use Rattle.trees.specs.Symbol.{next_of}
use Rattle.trees.proofs.is_character.Goals as goal

other : (x : Symbol) → (x ≡ Character → ⊥) → (tags : ℕ → List ℕ) → false ≡ can_be tags anychar (next_of x)
other (Tag t) h tags = refl
other Character h tags = absurd (h refl)
other End h tags = refl

-- `is_character` tells a character from the other next symbols.
-- Assumes nothing.
pub returns-in-Character : goal.returns-in-Character
returns-in-Character c = record { is = λ tags. rw c.in-Character.is refl }

pub returns-in_default : goal.returns-in_default
returns-in_default c = record { is = other _ c.in_default.not-Character }
