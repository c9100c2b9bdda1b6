-- What a host in C is answered: the checker's number and count in one number. Assumes nothing.
use Rattle.std.specs.Prelude.{◌≡◌, List, ℕ, ◌+◌, ◌*◌}
use Rattle.faults.specs.Checked.{CheckedAs}
use Rattle.faults.specs.declared.Checked.{Checked}

-- w is the checker's number, below 256, and 256 times its count
pub record PackedAs (s lent after : List ℕ) (w : ℕ) : Type 0 where
  pub answer : Checked
  pub as_checked : CheckedAs s lent after answer
  pub packed : w ≡ 256 * answer.count + answer.number
