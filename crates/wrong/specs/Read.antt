-- What is read of a sheet that has failed, where it has the trailer and no more bytes than a sheet may have. Definitions.
-- Assumes nothing.
use Rattle.std.specs.Prelude.{ℕ, ◌-◌, ◌<◌, ◌≡◌, List, length}
use Rattle.layout.specs.Layout.{byte_at, word_at, trailer_word, Size}
use Rattle.layout.specs.Records.{production_at}

-- a byte as a number; 0 where there is none
pub record ByteAsRead (s : List ℕ) (i r : ℕ) : Type 0 where
  pub small : r < 256
  pub same : r ≡ byte_at s i

-- two bytes as a number
pub record WordAsRead (s : List ℕ) (i r : ℕ) : Type 0 where
  pub small : r < 65536
  pub same : r ≡ word_at s i

-- the trailer's first byte
pub record TrailerAt (s : List ℕ) (r : ℕ) : Type 0 where
  pub small : r < 27905
  pub same : Size s → r ≡ length s - 24

-- the trailer's number k, from 0
pub record FieldAsRead (s : List ℕ) (k r : ℕ) : Type 0 where
  pub small : r < 65536
  pub same : Size s → r ≡ trailer_word s k

-- the first byte of production q's record
pub record RecordIs (s : List ℕ) (q r : ℕ) : Type 0 where
  pub small : r < 851968
  pub same : Size s → r ≡ production_at s q
