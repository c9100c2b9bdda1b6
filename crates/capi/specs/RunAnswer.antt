-- What a host in C is answered by a run: the number, and in the counts the bytes taken, the bytes written and the visits, of a call whose state is bytes.
-- Assumes nothing.
use Rattle.std.specs.Prelude.{◌≡◌, not, List, [], ◌∷◌, ℕ, ◌≤◌, eqb, length}
use Rattle.converter.specs.Bytes.{BytesAnsweredAs}
use Rattle.converter.specs.declared.Counts.{Counts}

-- b and b' are the state's bytes before and after the call; any number but 0 says that the stream has ended
pub record RunAs (s b b' part : List ℕ) (ended : ℕ) (lent after counts : List ℕ) (w : ℕ) : Type 0 where
  pub answer : Counts
  pub as_answered : BytesAnsweredAs s b b' part (not (eqb ended 0)) lent after answer
  pub taken_in : answer.taken ≤ length part
  pub written_in : answer.written ≤ length lent
  pub number : w ≡ answer.number
  pub counted : counts ≡ answer.taken ∷ answer.written ∷ answer.visits ∷ []
