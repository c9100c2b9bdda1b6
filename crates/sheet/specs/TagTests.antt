-- What the tests of a single tag tell. Assumes nothing.
use Rattle.std.specs.Prelude.{◌≡◌, List, ℕ, ◌≤◌, ◌<◌, length}
use Rattle.limits.specs.Limits.{longest_name}
use Rattle.text.specs.Names.{Name}
use Rattle.sheet.specs.Tags.{tag_record, tag_bytes}

-- these are the bytes of a tag of that name
pub record TagSpelled (b n : List ℕ) : Type 0 where
  pub a_name : Name n
  pub short : length n ≤ longest_name
  pub spelled : b ≡ tag_record n

-- the bytes of tag t are not those of a tag before it
abbrev pub New : List ℕ → ℕ → Type 0
New s t = (u : ℕ) → u < t → tag_bytes s u ≡ tag_bytes s t → ⊥
