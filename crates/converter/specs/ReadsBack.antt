-- Any text we write reads back as the same characters: of the code, and of every call.
-- Assumes nothing.
use Rattle.std.specs.Prelude.{Bool, List, ℕ, take}
use Rattle.calls.specs.ReadsBack.{ReadsBack}
use Rattle.state.specs.Bytes.{Sized}
use Rattle.state.specs.declared.State.{State}
use Rattle.converter.specs.declared.Reply.{Reply}
use Rattle.converter.specs.declared.Counts.{Counts}
use Rattle.converter.specs.Answered.{AnsweredAs}
use Rattle.converter.specs.Bytes.{BytesAnsweredAs}

-- whatever the sheet, the state (as code holds one) and the part, and whatever the number: the bytes written, which are the first of the lent memory
abbrev pub WrittenReadsBack : Type 0
WrittenReadsBack =
    (s : List ℕ) (z : State) (part : List ℕ) (ended : Bool) (lent after : List ℕ) (r : Reply) → Sized z → AnsweredAs s z part ended lent after r → ReadsBack (take r.written after)

-- the same where the state is bytes
abbrev pub BytesWrittenReadBack : Type 0
BytesWrittenReadBack =
    (s b b' part : List ℕ) (ended : Bool) (lent after : List ℕ) (r : Counts) → BytesAnsweredAs s b b' part ended lent after r → ReadsBack (take r.written after)
