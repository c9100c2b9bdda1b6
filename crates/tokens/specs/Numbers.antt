-- Document 01's number for each case of the reader's answer. Definition.
-- Assumes nothing.
use Rattle.std.specs.Prelude.{ℕ, zero, suc, Bool, true, false}
use Rattle.std.proofs.Math.Option.{Option, none, some}
use Rattle.tokens.specs.declared.Answer.{Answer}
use Rattle.tokens.specs.declared.Answer.TheVariants.{Token, Waiting, Begun, Bad, Long}

-- by whether more is to come, and how many bytes are left. A whole token has no number of its own. Begun is 16 while more is to come. Once the
-- stream is declared ended it is 27, unless nothing is left: of an empty front the reader answers Begun too, because nothing begins every token,
-- and there the root decides between 0 and 27. What waits is 16 while more is to come, and a whole token once the stream is declared ended
abbrev pub number_of : (more_to_come : Bool) (left : ℕ) → Answer → Option ℕ
number_of more left (Token e next) = none
number_of true left (Waiting e next) = some 16
number_of false left (Waiting e next) = none
number_of true left Begun = some 16
number_of false zero Begun = none
number_of false (suc n) Begun = some 27
number_of more left Bad = some 20
number_of more left Long = some 21
