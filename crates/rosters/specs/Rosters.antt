-- A store of names while declarations are read: all that were mentioned, or, where there was no room for all, the first of them. Assumes nothing.
use Rattle.std.specs.Prelude.{◌≡◌, true, false, ℕ, ◌*◌, ◌≤◌, ◌<◌, length}
use mathlib.Core.List.{List, [], ◌∷◌, ◌++◌, Memᴰ}
use Rattle.limits.specs.Limits.{most_tags, longest_name}
use Rattle.encoding.specs.Distinct.{distinct, place_of}
use Rattle.stores.specs.Rows.{RowsIn, HasRows}
use Rattle.binding.specs.Bound.{ShortNames}
use Rattle.rosters.specs.declared.Roster.{Roster}

-- memory for as many names as a sheet has tags
pub record RosterRoom (bytes ends : List ℕ) : Type 0 where
  pub room : length bytes ≡ most_tags * longest_name
  pub places : length ends ≡ most_tags

pub record Enrolling (bytes ends : List ℕ) (r : Roster) : Type 0 where
  pub sized : RosterRoom bytes ends
  pub has_rows : HasRows bytes ends r.count

-- the store's rows; a name that is none of them has their number behind them
pub record RosterIs (all : List (List ℕ)) (bytes ends : List ℕ) (r : Roster) (rows : List (List ℕ)) : Type 0 where
  pub sized : RosterRoom bytes ends
  pub held : RowsIn bytes ends r.count rows
  pub short : ShortNames rows
  pub all_held : r.full ≡ false → rows ≡ distinct all
  pub all_places : r.full ≡ true → length rows ≡ most_tags
  pub too_many : r.full ≡ true → most_tags < length (distinct all)

-- one mention more; those before keep their numbers
pub record EnrolledAs (all rows : List (List ℕ)) (x bytes ends : List ℕ) (r : Roster) : Type 0 where
  pub rows_now : List (List ℕ)
  pub are : RosterIs (all ++ x ∷ []) bytes ends r rows_now
  pub number_is : r.number ≡ place_of rows_now x
  pub stay : (y : List ℕ) → Memᴰ y all → place_of rows_now y ≡ place_of rows y

pub record Enrolled (bytes ends : List ℕ) (r : Roster) (x bytes_after ends_after : List ℕ) (n : Roster) : Type 0 where
  pub small : n.number ≤ most_tags
  pub long_bytes : length bytes_after ≡ length bytes
  pub long_ends : length ends_after ≡ length ends
  pub is : (all rows : List (List ℕ)) → RosterIs all bytes ends r rows → length x ≤ longest_name → EnrolledAs all rows x bytes_after ends_after n
