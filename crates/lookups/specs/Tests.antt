-- What the test of a single tag tells: whether its bytes have a name. Of bytes that are no tag's it tells nothing.
-- Assumes nothing.
use Rattle.std.specs.Prelude.{◌≡◌, Bool, List, ℕ, ◌≤◌, length}
use Rattle.limits.specs.Limits.{longest_name}
use Rattle.sheet.specs.Tags.{tag_record}
use Rattle.calls.specs.Names.{same_name}

pub record NameTold (b name : List ℕ) (r : Bool) : Type 0 where
  pub is : (n : List ℕ) → length n ≤ longest_name → b ≡ tag_record n → r ≡ same_name n name
