-- What writing leaves in lent memory: new bytes from an offset on, every other byte as lent; or, in a dry run, all as lent. Assumes nothing.
use Rattle.std.specs.Prelude.{◌≡◌, List, Bool, true, false, ℕ, ◌+◌, length}
use Rattle.std.proofs.lemmas.List.Edits.{sets}

-- the bytes `new` stored one after another from `at` on, where `write` says so. A byte past the memory's end is not stored
unfoldable pub put : Bool → List ℕ → ℕ → List ℕ → List ℕ
put true memory at new = sets memory at new
put false memory at new = memory

-- what a function that puts `new` answers, r, and leaves: where the next byte goes, and the memory
pub record PutAs (write : Bool) (memory : List ℕ) (at : ℕ) (new after : List ℕ) (r : ℕ) : Type 0 where
  pub next : r ≡ at + length new
  pub left : after ≡ put write memory at new
