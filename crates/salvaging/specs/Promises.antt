-- Skipping over a stream that comes in parts: what is told of a part is so of the stream, whatever follows the part. Promises.
-- Assumes nothing.
use Rattle.std.specs.Prelude.{◌⊎◌, List, ◌++◌, ℕ, ◌≤◌, ◌<◌, length, drop}
use Rattle.text.specs.Chars.{Starts}
use Rattle.salvaging.specs.declared.Resumed.{Resumed}
use Rattle.salvaging.specs.declared.Resumed.TheVariants.{Here, Waits, Nowhere}
use Rattle.salvaging.specs.Resumed.{ResumedIs}

-- one of the two stands at i
abbrev pub OneStands : (w w' s : List ℕ) → ℕ → Type 0
OneStands w w' s i = Starts (drop i s) w ⊎ Starts (drop i s) w'

-- none does at the places from `from` up to `to`, so these bytes can be passed over
abbrev pub NoneStands : (w w' s : List ℕ) (from to : ℕ) → Type 0
NoneStands w w' s from to = (i : ℕ) → from ≤ i → i < to → OneStands w w' s i → ⊥

-- of the stream s, of which the part has n bytes
abbrev pub OfStream : (w w' s : List ℕ) (n from : ℕ) → Resumed → Type 0
OfStream w w' s n from (Here at) = OneStands w w' s at × NoneStands w w' s from at
OfStream w w' s n from (Waits at) = NoneStands w w' s from at
OfStream w w' s n from Nowhere = NoneStands w w' s from n

abbrev pub PassedOver : Type 0
PassedOver = (w w' part later : List ℕ) (from : ℕ) (r : Resumed) → ResumedIs w w' part from r → OfStream w w' (part ++ later) (length part) from r
