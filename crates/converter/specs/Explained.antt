-- What calls of the code on a stream answer, said of trees: of every number, in one call and in whatever parts and rooms, from the fresh state.
-- Assumes nothing.
use Rattle.std.specs.Prelude.{◌≡◌, Bool, not, List, ◌++◌, ◌↔◌, ℕ, length, take, drop}
use Rattle.sheet.specs.Sheet.{Sheet}
use Rattle.calls.specs.Call.{Result}
use Rattle.calls.specs.Explained.{Explained, Answers}
use Rattle.calls.specs.Parts.{Feeds, EachCall, SameAnswer}
use Rattle.calls.specs.SameCharacters.{SameCharacters}
use Rattle.state.specs.Bytes.{bytes_of}
use Rattle.state.specs.Changes.{fresh_state}
use Rattle.converter.specs.declared.Reply.{Reply}
use Rattle.converter.specs.Answered.{AnsweredAs}
use Rattle.converter.specs.Fed.{ValueCall, BytesCall, ValueAsLent, BytesAsLent}

-- the reply has this number, these bytes taken, these bytes written, first in the lent memory, of which every byte past them is as lent, and these visits
pub record Replies (lent after : List ℕ) (r : Reply) (number taken : ℕ) (output : List ℕ) (visits : ℕ) : Type 0 where
  pub is_number : r.number ≡ number
  pub is_taken : r.taken ≡ taken
  pub is_written : r.written ≡ length output
  pub is_left : after ≡ output ++ drop (length output) lent
  pub is_visits : r.visits ≡ visits

-- in one call on the stream, or on its first bytes
abbrev pub RepliesExactly : List ℕ → Sheet → Type 0
RepliesExactly s a =
    (part : List ℕ) (ended : Bool) (lent after : List ℕ) (r : Reply) → AnsweredAs s fresh_state part ended lent after r → (number taken : ℕ) (output : List ℕ) (visits : ℕ) →
    Replies lent after r number taken output visits ↔ Explained a part (not ended) (length lent) number taken output visits

-- and what it writes reads back as the tags and characters that its tree puts out
abbrev pub RepliesReadBack : List ℕ → Sheet → Type 0
RepliesReadBack s a =
    (part : List ℕ) (ended : Bool) (lent after : List ℕ) (r : Reply) → AnsweredAs s fresh_state part ended lent after r →
    SameCharacters a part (not ended) (length lent) r.number r.taken (take r.written after) r.visits

-- what calls answer together, and the visits that the last of them tells, are the answer of one call on the whole, but for a reference by number that a part has cut
-- off (`SameAnswer`); and that answer is what trees say
pub record FedAs (a : Sheet) (whole : List ℕ) (more : Bool) (room : ℕ) (x : Result) (told : ℕ) : Type 0 where
  pub answer : Result
  pub same : SameAnswer whole x answer
  pub tells : told ≡ answer.held.run.store.env.count
  pub exactly : (number taken : ℕ) (output : List ℕ) (visits : ℕ) → Answers answer number taken output visits ↔ Explained a whole more room number taken output visits

-- calls of one kind, in whatever parts and rooms, the first of which is handed h: what they answer together is what trees say, and P holds of each of them
abbrev pub FedExactly : {H : Type 0} (Call : List ℕ → Bool → ℕ → H → H → Result → ℕ → Type 0) →
    (P : (part : List ℕ) (b : Bool) (room : ℕ) (h h' : H) (r : Result) (v : ℕ) → Call part b room h h' r v → Type 0) → H → Sheet → Type 0
FedExactly Call P h a =
    (whole : List ℕ) (more : Bool) (room : ℕ) (x : Result) (told : ℕ) (d : Feeds Call more whole room h x told) →
    EachCall P d × FedAs a whole more room x told

-- and what they write, one after the other, reads back as the tags and characters that the tree puts out; the number is that of one call on the whole
abbrev pub FedReadBack : {H : Type 0} (Call : List ℕ → Bool → ℕ → H → H → Result → ℕ → Type 0) → H → Sheet → Type 0
FedReadBack Call h a =
    (whole : List ℕ) (more : Bool) (room : ℕ) (x : Result) (told : ℕ) → Feeds Call more whole room h x told →
    (number : ℕ) × SameCharacters a whole more room number x.taken x.output told

-- of states by value and as bytes; of each call as many bytes are written as its output has, and every byte of the memory lent to it past them is as lent
abbrev pub ValueFedExactly : List ℕ → Sheet → Type 0
ValueFedExactly s = FedExactly (ValueCall s) (ValueAsLent s) fresh_state

abbrev pub BytesFedExactly : List ℕ → Sheet → Type 0
BytesFedExactly s = FedExactly (BytesCall s) (BytesAsLent s) (bytes_of fresh_state)

abbrev pub ValueFedReadBack : List ℕ → Sheet → Type 0
ValueFedReadBack s = FedReadBack (ValueCall s) fresh_state

abbrev pub BytesFedReadBack : List ℕ → Sheet → Type 0
BytesFedReadBack s = FedReadBack (BytesCall s) (bytes_of fresh_state)
