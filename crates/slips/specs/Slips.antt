-- The numbers of a production's record, one token further. Assumes nothing.
use Rattle.std.specs.Prelude.{◌≡◌, cond, ℕ, ◌≤◌, ◌<◌, eqb}
use Rattle.std.proofs.Math.Option.{some}
use Rattle.notation.specs.Rules.{Rules}
use Rattle.notation.specs.Tokens.{TextToken}
use Rattle.reading.specs.Rules.{Progress, step_rules}
use Rattle.lexemes.specs.Kinds.{token_kind, token_number, TokenFits}
use Rattle.desks.specs.Spots.{spot}
use Rattle.desks.specs.Kept.{RowPlaceIs, SlipHolds}
use Rattle.slips.specs.declared.Slip.{Slip}

abbrev pub begun : ℕ → ℕ → Slip → Slip
begun s n o = record { start = s; nonterm = n; tag = o.tag; front = 0xFFFF; back = 0xFFFF }

abbrev pub tagging : Slip → ℕ → Slip
tagging o p = record { start = o.start; nonterm = o.nonterm; tag = p; front = o.front; back = o.back }

abbrev pub fronting : Slip → ℕ → Slip
fronting o p = record { start = o.start; nonterm = o.nonterm; tag = o.tag; front = p; back = o.back }

abbrev pub backing : Slip → ℕ → Slip
backing o p = record { start = o.start; nonterm = o.nonterm; tag = o.tag; front = o.front; back = p }

abbrev pub slip_turned : Slip → ℕ → ℕ → ℕ → ℕ → Slip
slip_turned o here kind number place =
    cond (eqb kind 0) (cond (eqb here 7) o (cond (eqb here 0) (begun number number o) (begun o.start number o)))
    (cond (eqb kind 5) (tagging o place) (cond (eqb kind 28) (cond (eqb here 4) (fronting o place) (cond (eqb here 9) (backing o place) o)) o))

-- the numbers are those of the state
abbrev pub Slipped : Rules → Progress → Slip → Type 0
Slipped r s o = SlipHolds r s o.start o.nonterm o.tag o.front o.back

-- numbers that a record can hold
pub record SlipFits (o : Slip) : Type 0 where
  pub start_small : o.start ≤ 0xFFFF
  pub nonterm_small : o.nonterm < 256
  pub tag_small : o.tag < 256
  pub front_small : o.front ≤ 65535
  pub back_small : o.back ≤ 65535

-- and stay so
abbrev pub Turns : Type 0
Turns = (r : Rules) (s s' : Progress) (t : TextToken) (place : ℕ) (o : Slip) → step_rules s t ≡ some s' → RowPlaceIs r s t place → Slipped r s o → Slipped r s' (slip_turned o (spot s) (token_kind t) (token_number t) place)

abbrev pub FitsTurn : Type 0
FitsTurn = (r : Rules) (s : Progress) (here : ℕ) (t : TextToken) (place : ℕ) (o : Slip) → TokenFits t → RowPlaceIs r s t place → SlipFits o → SlipFits (slip_turned o here (token_kind t) (token_number t) place)
