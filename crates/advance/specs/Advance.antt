-- What a writer keeps beside its reader, and that it is kept one token further. Assumes nothing.
use Rattle.std.specs.Prelude.{Option as Taken, IfSome, IfNone, MatchOption, ◌≡◌, List, ◌++◌, ℕ, length}
use Rattle.notation.specs.Rules.{Rules}
use Rattle.notation.specs.Tokens.{TextToken, token_bytes}
use Rattle.reading.specs.Rules.{Progress}
use Rattle.lexemes.specs.Kinds.{token_kind, token_number, TokenFits}
use Rattle.verdicts.specs.Judged.{Goes}
use Rattle.mentions.specs.SoFar.{so_far, Tidy}
use Rattle.ledgers.specs.Trodden.{LeadsToRules}
use Rattle.ledgers.specs.Space.{SpaceFor}
use Rattle.rulings.specs.declared.Reader.{Reader}
use Rattle.rulings.specs.Readers.{Holds}
use Rattle.inks.specs.declared.Ink.{Ink}
use Rattle.inks.specs.Held.{Trim}
use Rattle.turns_ink.specs.Turned.{InkHolds}
use Rattle.turns_bed.specs.Turned.{BedHolds}
use Rattle.turns_past.specs.Turned.{PastIn}
use Rattle.desks.specs.Kept.{StoresHold}
use Rattle.shelves.specs.declared.Shelved.{Shelved}
use Rattle.shelves.specs.Shelves.{Rowed, ShelvedAs}
use Rattle.slips.specs.Slips.{Slipped, SlipFits}
use Rattle.advance.specs.declared.Desk.{Desk}

pub record FiledRow (token : List ℕ) (kind number : ℕ) (ink : Ink) (old : Shelved) (tb te sb se pb pe tb' te' sb' se' pb' pe' : List ℕ) (a : Taken Shelved) : Type 0 where
  pub rowed : MatchOption a (Rowed old tb' te' sb' se' pb' pe') (λ f. Rowed f tb' te' sb' se' pb' pe')
  pub is : (r : Rules) (s s' : Progress) (t : TextToken) (rest : List ℕ) → token ≡ token_bytes t ++ rest → TokenFits t → kind ≡ token_kind t → number ≡ token_number t → Tidy s → Goes s t s' → LeadsToRules s' r → InkHolds r s ink
      → StoresHold r s tb te old.tags sb se old.strings pb pe old.programs → ShelvedAs r s s' t a tb' te' sb' se' pb' pe'

-- whatever is read, the numbers are within bounds
pub record Firmly (d : Desk) (tb te sb se pb pe productions nodes : List ℕ) : Type 0 where
  pub rowed : Rowed d.shelved tb te sb se pb pe
  pub trim : Trim d.ink
  pub production_room : length productions ≡ 768
  pub node_room : length nodes ≡ 1536

-- at a state of the machine, for rules that it can lead to
pub record DeskHolds (r : Rules) (s : Progress) (d : Desk) (tb te sb se pb pe productions nodes : List ℕ) : Type 0 where
  pub stores : StoresHold r s tb te d.shelved.tags sb se d.shelved.strings pb pe d.shelved.programs
  pub slipped : Slipped r s d.slip
  pub slip_fits : SlipFits d.slip
  pub ink_held : InkHolds r s d.ink
  pub bed_held : BedHolds r s d.bed
  pub past_held : PastIn r s d.past productions nodes

-- behind a token: kept, or there is no space for what is mentioned now
pub record BehindToken (r : Rules) (s' : Progress) (a : Taken Desk) (tb te sb se pb pe productions nodes : List ℕ) : Type 0 where
  pub kept : IfSome a (λ d. DeskHolds r s' d tb te sb se pb pe productions nodes)
  pub no_space : IfNone a (SpaceFor r (so_far s') → ⊥)

pub record Advanced (d : Desk) (before behind : Reader) (token : List ℕ) (kind number : ℕ) (tb te sb se pb pe productions nodes tb' te' sb' se' pb' pe' productions' nodes' : List ℕ) (a : Taken Desk) : Type 0 where
  pub firmly : MatchOption a (Firmly d tb' te' sb' se' pb' pe' productions' nodes') (λ f. Firmly f tb' te' sb' se' pb' pe' productions' nodes')
  pub is : (r : Rules) (s s' : Progress) (t : TextToken) (rest : List ℕ) → Holds s before → Holds s' behind → Goes s t s' → TokenFits t → kind ≡ token_kind t → number ≡ token_number t → token ≡ token_bytes t ++ rest → Tidy s → LeadsToRules s' r
      → DeskHolds r s d tb te sb se pb pe productions nodes → BehindToken r s' a tb' te' sb' se' pb' pe' productions' nodes'
