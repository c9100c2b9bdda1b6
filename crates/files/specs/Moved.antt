-- What moving a part of a memory to its start leaves.
-- Assumes nothing.
use Rattle.std.specs.Prelude.{◌≡◌, List, ◌++◌, ℕ, ◌≤◌, ◌<◌, length, take, drop}

-- the bytes of the memory m from `from` on, before `end`, stand first in m', every byte past them is as it was, and r is how many they are; where the memory has no
-- such end nothing is moved
pub data MovedAs (from end : ℕ) (m m' : List ℕ) (r : ℕ) : Type 0 where
  moved : end ≤ length m → r ≡ length (drop from (take end m)) → m' ≡ drop from (take end m) ++ drop r m → MovedAs from end m m' r
  no_such_end : length m < end → r ≡ 0 → m' ≡ m → MovedAs from end m m' r
