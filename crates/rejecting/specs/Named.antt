-- Which visit is named where a program rejects, whatever the bytes of the sheet and of the part and whatever the state.
-- Assumes nothing.
use Rattle.std.specs.Prelude.{◌≡◌, true, false, List, ℕ}
use Rattle.std.proofs.Math.Option.{Option, none, some}
use Rattle.tokens.specs.declared.Cursor.{Cursor}
use Rattle.tokens.specs.declared.Event.{Event}
use Rattle.tokens.specs.declared.Answer.TheVariants.{Token}
use Rattle.tokens.specs.Stream.{ReadAs}
use Rattle.sheet.specs.Sheet.{Sheet, IsSheet}
use Rattle.runs.specs.Acts.{Act, node_first, node_second, start_tag, end_tag}
use Rattle.runs.specs.Taken.{Passed}
use Rattle.calls.specs.Names.{token_of}
use Rattle.state.specs.Meaning.{meaning_of}
use Rattle.state.specs.declared.State.{State}
use Rattle.converter.specs.Answered.{FitsSheet}
use Rattle.rejecting.specs.First.{TokenRejects}
use Rattle.rejecting.specs.declared.Rejecter.{Rejecter}
use Rattle.rejecting.specs.declared.Rejecter.TheVariants.{Node, Element, Nobody}

-- the act that each answer names: of a node or of a production itself, its first visit or, `again`, its second
abbrev pub act_of : Rejecter → Option Act
act_of (Node q i false) = some (node_first q i)
act_of (Node q i true) = some (node_second q i)
act_of (Element q false) = some (start_tag q)
act_of (Element q true) = some (end_tag q)
act_of Nobody = none

-- the bytes s are a sheet that passes, the state fits it, the part begins with a whole token (which a carriage return is that nothing follows), and the act rejects
-- that token where the state stands
pub record Rejects (s : List ℕ) (z : State) (part : List ℕ) (a : Act) : Type 0 where
  pub sheet : Sheet
  pub is_sheet : IsSheet s sheet
  pub passed : Passed sheet
  pub fits : FitsSheet sheet z
  pub event : Event
  pub next : Cursor
  pub read : ReadAs false part 0 (Token event next)
  pub rejects : TokenRejects sheet (meaning_of z) (token_of sheet part event) a

-- the answer names the act that rejects, and nobody where none does
pub data RejectedBy (s : List ℕ) (z : State) (part : List ℕ) (r : Rejecter) : Type 0 where
  by_act : (a : Act) → Rejects s z part a → act_of r ≡ some a → RejectedBy s z part r
  by_nobody : ((a : Act) → Rejects s z part a → ⊥) → r ≡ Nobody → RejectedBy s z part r
