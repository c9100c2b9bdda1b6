-- What we write reads back: as the pieces that it was written as, wherever it stands.
-- Assumes nothing.
use Rattle.std.specs.Prelude.{◌≡◌, Bool, true, List, ◌++◌, ℕ, ◌+◌, length}
use Rattle.tokens.specs.Stream.{Reads}
use Rattle.tokens.specs.LineEnds.{NoCR}
use Rattle.sheet.specs.Sheet.{Sheet}
use Rattle.output.specs.Escape.{Piece, render, events_from, all_pieces}
use Rattle.runs.specs.Fits.{StoreFits}
use Rattle.calls.specs.Held.{Held}
use Rattle.calls.specs.Call.{Result, Called}

-- the bytes o are these tags and characters, written, without a CR byte; and wherever they stand in a stream, after p and before r, reading from their first byte gives one event for each
-- of these and comes to their last, and the events stand for the same tags and characters
pub record ReadsBackAs (o : List ℕ) (printed : List Piece) : Type 0 where
  pub is : o ≡ render printed
  pub no_cr : NoCR o
  pub reads : (p r : List ℕ) → Reads true (p ++ (o ++ r)) (length p) (events_from (length p) printed) (length p + length o)
  pub same : (p r : List ℕ) → all_pieces (p ++ (o ++ r)) (events_from (length p) printed) ≡ printed

-- as some tags and characters
abbrev pub ReadsBack : List ℕ → Type 0
ReadsBack o = (printed : List Piece) × ReadsBackAs o printed

-- the output of every call, whatever it answers, from a state whose values are those of a sheet's programs
abbrev pub CallsReadBack : Sheet → Type 0
CallsReadBack a =
    (part : List ℕ) (more : Bool) (room : ℕ) (h : Held) (r : Result) → StoreFits h.run.store → Called a part more room h r → ReadsBack r.output
