-- What is promised where a tag's parentheses close: the nodes are the sheet's. Assumes nothing.
use Rattle.std.proofs.Math.Option.{Option}
use Rattle.std.specs.Prelude.{List, ℕ}
use Rattle.notation.specs.Program.{TextProgram}
use Rattle.notation.specs.Rules.{Tree, Rules}
use Rattle.notation.specs.Tokens.{TextToken}
use Rattle.reading.specs.Expressions.{Parsing}
use Rattle.reading.specs.Rules.{Head, within, closed}
use Rattle.verdicts.specs.Judged.{Goes}
use Rattle.packing.specs.Packed.{content_bytes}
use Rattle.beds.specs.declared.Row.{Row}
use Rattle.beds.specs.declared.Bed.{Bed}
use Rattle.beds.specs.Bedded.{Lays, FinishedIs}
use Rattle.turns_bed.specs.Turned.{BedHolds}

abbrev pub ClosesWith : Type 0
ClosesWith = (r : Rules) (x : Parsing) (f f' : Option TextProgram) (u u' : List ℕ) (h h' : Head) (e : Option Tree) (t : TextToken) (b : Bed) (row : Row) → Goes (within x f u h) t (closed f' u' e h')
    → BedHolds r (within x f u h) b → FinishedIs b row → Lays (content_bytes r e) row
