-- Where reading resumes in a part of the stream: at the first of two byte strings that stands there, or where the part begins one of them. Definitions.
-- Assumes nothing.
use Rattle.std.specs.Prelude.{◌⊎◌, List, ℕ, ◌≤◌, ◌<◌, length, drop}
use Rattle.text.specs.Chars.{Starts, Begins, Apart}
use Rattle.tokens.specs.declared.Word.{Word}
use Rattle.tokens.specs.declared.Word.TheVariants.{Whole, Begun, No}
use Rattle.salvaging.specs.declared.Resumed.{Resumed}
use Rattle.salvaging.specs.declared.Resumed.TheVariants.{Here, Waits, Nowhere}

-- whole where one is, else begun where one is
abbrev pub joined_words : Word → Word → Word
joined_words Whole other = Whole
joined_words Begun Whole = Whole
joined_words Begun Begun = Begun
joined_words Begun No = Begun
joined_words No other = other

-- f starts with one of the two; or it begins one of them, and starts with neither; or it is apart from both
abbrev pub EitherIs : (w w' f : List ℕ) → Word → Type 0
EitherIs w w' f Whole = Starts f w ⊎ Starts f w'
EitherIs w w' f Begun = (Begins f w ⊎ Begins f w') × (Starts f w → ⊥) × (Starts f w' → ⊥)
EitherIs w w' f No = Apart f w × Apart f w'

-- the part is apart from both at each place from `from` up to `to`
abbrev pub ApartUpTo : (w w' part : List ℕ) (from to : ℕ) → Type 0
ApartUpTo w w' part from to = (j : ℕ) → from ≤ j → j < to → EitherIs w w' (drop j part) No

-- what `resumption` answers. The bytes from where it waits on are the longest end of the part that begins one of the two
abbrev pub ResumedIs : (w w' part : List ℕ) (from : ℕ) → Resumed → Type 0
ResumedIs w w' part from (Here at) = (from ≤ at) × (at < length part) × EitherIs w w' (drop at part) Whole × ApartUpTo w w' part from at
ResumedIs w w' part from (Waits at) = (from ≤ at) × (at < length part) × EitherIs w w' (drop at part) Begun × ApartUpTo w w' part from at
ResumedIs w w' part from Nowhere = ApartUpTo w w' part from (length part)
