-- What a store answers of a row, whatever rows it has: where the row is among them; and that it was there, is there now, or has no room. Assumes nothing.
use Rattle.std.specs.Prelude.{◌≡◌, ◌⊎◌, true, false, List, [], ◌∷◌, ◌++◌, ℕ, ◌+◌, ◌≤◌, ◌<◌, length, take, drop, set}
use Rattle.encoding.specs.Distinct.{has, place_of, offset_of, run_together}
use Rattle.stores.specs.declared.Seat.{Seat}
use Rattle.stores.specs.declared.Filed.{Filed}
use Rattle.stores.specs.Rows.{RowsIn}

-- a row that is not there has the place and the offset that are behind all the others
pub record SeatIs (bytes ends : List ℕ) (count : ℕ) (x : List ℕ) (r : Seat) : Type 0 where
  pub low : r.place ≤ count
  pub inside : r.offset ≤ length bytes
  pub place_is : (l : List (List ℕ)) → RowsIn bytes ends count l → r.place ≡ place_of l x
  pub offset_is : (l : List (List ℕ)) → RowsIn bytes ends count l → r.offset ≡ offset_of l x

-- nothing is changed
pub record SameStore (bytes ends bytes_after ends_after : List ℕ) : Type 0 where
  pub same_bytes : bytes_after ≡ bytes
  pub same_ends : ends_after ≡ ends

pub record ThereAs (l : List (List ℕ)) (x : List ℕ) (place offset : ℕ) : Type 0 where
  pub had : has l x ≡ true
  pub place_is : place ≡ place_of l x
  pub offset_is : offset ≡ offset_of l x

-- the row is the last one now, and every other byte is as lent
pub record AddedAs (l : List (List ℕ)) (x bytes ends : List ℕ) (count : ℕ) (bytes_after ends_after : List ℕ) (place offset : ℕ) : Type 0 where
  pub new : has l x ≡ false
  pub place_is : place ≡ place_of (l ++ x ∷ []) x
  pub offset_is : offset ≡ offset_of (l ++ x ∷ []) x
  pub rows : RowsIn bytes_after ends_after (count + 1) (l ++ x ∷ [])
  pub bytes_left : bytes_after ≡ take offset bytes ++ x ++ drop (offset + length x) bytes
  pub ends_left : ends_after ≡ set ends count (offset + length x)

-- there is no room for its bytes, or none for its end
pub record FullAs (l : List (List ℕ)) (x bytes ends : List ℕ) (count : ℕ) : Type 0 where
  pub new : has l x ≡ false
  pub no_room : (length bytes < length (run_together l) + length x) ⊎ (length ends ≤ count)

abbrev pub FiledAs : List (List ℕ) → List ℕ → List ℕ → List ℕ → ℕ → List ℕ → List ℕ → Filed → Type 0
FiledAs l x bytes ends count bytes_after ends_after (Filed.There p o) = ThereAs l x p o × SameStore bytes ends bytes_after ends_after
FiledAs l x bytes ends count bytes_after ends_after (Filed.Added p o) = AddedAs l x bytes ends count bytes_after ends_after p o
FiledAs l x bytes ends count bytes_after ends_after Filed.Full = FullAs l x bytes ends count × SameStore bytes ends bytes_after ends_after

pub record FiledIs (bytes ends : List ℕ) (count : ℕ) (x bytes_after ends_after : List ℕ) (r : Filed) : Type 0 where
  pub is : (l : List (List ℕ)) → RowsIn bytes ends count l → FiledAs l x bytes ends count bytes_after ends_after r
