-- The records and nodes before are those of the state, one token further. Assumes nothing.
use Rattle.std.specs.Prelude.{◌≡◌, List, ℕ, length}
use Rattle.notation.specs.Rules.{Rules}
use Rattle.notation.specs.Tokens.{TextToken}
use Rattle.reading.specs.Rules.{Progress}
use Rattle.lexemes.specs.Kinds.{token_kind}
use Rattle.verdicts.specs.Judged.{Goes}
use Rattle.beds.specs.declared.Bed.{Bed}
use Rattle.desks.specs.Spots.{spot}
use Rattle.desks.specs.Kept.{PastHolds}
use Rattle.slips.specs.declared.Slip.{Slip}
use Rattle.slips.specs.Slips.{Slipped, SlipFits}
use Rattle.pasts.specs.declared.Past.{Past}
use Rattle.turns_bed.specs.Turned.{BedHolds}

abbrev pub PastIn : Rules → Progress → Past → List ℕ → List ℕ → Type 0
PastIn r s o productions nodes = PastHolds r s o.productions o.before o.nodes productions nodes

pub record PastTurned (o : Past) (slip : Slip) (bed : Bed) (here there kind : ℕ) (productions nodes productions_after nodes_after : List ℕ) (a : Past) : Type 0 where
  pub is : (r : Rules) (s s' : Progress) (t : TextToken) → spot s ≡ here → spot s' ≡ there → kind ≡ token_kind t → Goes s t s' → length productions ≡ 768 → length nodes ≡ 1536 → Slipped r s slip → SlipFits slip → BedHolds r s bed
      → PastIn r s o productions nodes → PastIn r s' a productions_after nodes_after
