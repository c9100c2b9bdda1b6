-- The tags of a sheet. Number 3 of document 01. Assumes nothing.
use Rattle.std.specs.Prelude.{◌≡◌, List, ◌∷◌, ◌++◌, ℕ, ◌+◌, ◌-◌, ◌*◌, ◌≤◌, ◌<◌, length, take, drop, replicate}
use Rattle.limits.specs.Limits.{longest_name}
use Rattle.text.specs.Names.{Name}
use Rattle.layout.specs.Layout.{tag_offset, tag_count}

-- a tag's 16 bytes: the length, the name, zero fill
abbrev pub tag_record : List ℕ → List ℕ
tag_record n = length n ∷ (n ++ replicate (longest_name - length n) 0)

-- the bytes of tag number t
abbrev pub tag_bytes : List ℕ → ℕ → List ℕ
tag_bytes s t = take 16 (drop (tag_offset s + 16 * t) s)

-- tag number t has the name n: a name, of at most 15 bytes (a name has at least one)
pub record TagAt (s : List ℕ) (t : ℕ) (n : List ℕ) : Type 0 where
  pub a_name : Name n
  pub short : length n ≤ longest_name
  pub spelled : tag_bytes s t ≡ tag_record n

-- number 3: each tag has a name, and all are different
pub record Tags (s : List ℕ) : Type 0 where
  pub named : (t : ℕ) → t < tag_count s → (n : List ℕ) × TagAt s t n
  pub different : (t u : ℕ) (n : List ℕ) → t < tag_count s → u < tag_count s → TagAt s t n → TagAt s u n → t ≡ u
