-- What is promised of the outline: it goes on as the machine does, and has its sizes. Assumes nothing.
use Rattle.std.specs.Prelude.{◌≡◌, Bool, true, false, ◌↔◌, ℕ, suc}
use Rattle.std.proofs.Math.Option.{Option, none, some}
use Rattle.programs.specs.Limits.{Visit}
use Rattle.notation.specs.Limits.{size_of, nesting_of, ProgramWithin}
use Rattle.notation.specs.Tokens.{TextToken}
use Rattle.reading.specs.Statements.{Listing, list_start, step_statements, value_of_list, finished_list}
use Rattle.lexemes.specs.Kinds.{token_kind, TokenFits}
use Rattle.outlines.specs.Extents.{Extent, ExtentWithin}
use Rattle.outlines.specs.Statements.{Outline, outline, step_outline, ends_here, finished, outline_start}

abbrev pub outline_if : Option Listing → Option Outline
outline_if none = none
outline_if (some q) = some (outline q)

abbrev pub given : {A : Type 0} → Option A → Bool
given none = false
given (some x) = true

abbrev pub StartsAlike : Type 0
StartsAlike = outline list_start ≡ outline_start

-- a token is taken or refused by its kind alone, and leads to the outline of where the machine goes
abbrev pub StepsAlike : Type 0
StepsAlike = (v : Visit) (q : Listing) (t : TextToken) → TokenFits t → step_outline v (outline q) (token_kind t) ≡ outline_if (step_statements v q t)

abbrev pub EndsAlike : Type 0
EndsAlike = (q : Listing) → ends_here (outline q) ≡ given (value_of_list q)

abbrev pub SizesAlike : Type 0
SizesAlike = (q : Listing) → (size_of (finished_list q) ≡ suc (finished (outline q)).bytes) × (nesting_of (finished_list q) ≡ (finished (outline q)).nested)

-- the machine takes a token and keeps the limits
pub record MachineKeeps (v : Visit) (q : Listing) (t : TextToken) (q' : Listing) : Type 0 where
  pub taken : step_statements v q t ≡ some q'
  pub within : ProgramWithin (finished_list q')

-- the outline takes a kind and keeps them
pub record OutlineKeeps (v : Visit) (o : Outline) (k : ℕ) (o' : Outline) : Type 0 where
  pub taken : step_outline v o k ≡ some o'
  pub within : ExtentWithin (finished o')

abbrev pub KeepsAlike : Type 0
KeepsAlike = (v : Visit) (q : Listing) (t : TextToken) → TokenFits t →
    ((q' : Listing) → MachineKeeps v q t q' → OutlineKeeps v (outline q) (token_kind t) (outline q'))
    × ((o : Outline) → OutlineKeeps v (outline q) (token_kind t) o → (q' : Listing) × MachineKeeps v q t q' × (o ≡ outline q'))
