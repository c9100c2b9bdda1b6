-- The sections of a sheet put behind one another: tags from a store of names, the others as they are, and the trailer. Assumes nothing.
use Rattle.std.specs.Prelude.{◌≡◌, true, List, [], ◌∷◌, ◌++◌, ℕ, ◌+◌, ◌*◌, ◌/◌, ◌≤◌, length}
use Rattle.limits.specs.Limits.{most_tags, most_productions, most_nodes, most_program_bytes, most_string_bytes, longest_name}
use Rattle.lent.specs.Put.{PutAs}
use Rattle.stores.specs.Rows.{RowsIn}
use Rattle.packing.specs.Packed.{tags_section, trailer}

-- names that a tag's record can hold
abbrev pub ShortNames : List (List ℕ) → Type 0
ShortNames [] = Unit {0}
ShortNames (n ∷ l) = (length n ≤ longest_name) × ShortNames l

-- a store of such names, no more than a sheet has
pub record TagRows (bytes ends : List ℕ) (count : ℕ) : Type 0 where
  pub few : count ≤ most_tags
  pub rows : List (List ℕ)
  pub are : RowsIn bytes ends count rows
  pub short : ShortNames rows

-- their records, from an offset on
pub record TagsPut (bytes ends : List ℕ) (count : ℕ) (memory : List ℕ) (at : ℕ) (after : List ℕ) (r : ℕ) : Type 0 where
  pub next : r ≡ at + 16 * count
  pub is : (l : List (List ℕ)) → RowsIn bytes ends count l → PutAs true memory at (tags_section l) after r

-- sections within a sheet's limits
pub record SectionsFit (productions nodes programs strings : List ℕ) (start : ℕ) : Type 0 where
  pub few_productions : length productions ≤ 12 * most_productions
  pub few_nodes : length nodes ≤ 6 * most_nodes
  pub short_programs : length programs ≤ most_program_bytes
  pub short_strings : length strings ≤ most_string_bytes
  pub start_fits : start ≤ 0xFFFF

-- all sections
abbrev pub bound_bytes : List (List ℕ) → List ℕ → List ℕ → List ℕ → List ℕ → ℕ → List ℕ
bound_bytes tags productions nodes programs strings start =
    tags_section tags ++ (productions ++ (nodes ++ (programs ++ (strings ++ trailer (length tags) (length productions / 12) (length nodes / 6) (length programs) (length strings) start))))

pub record BoundIs (bytes ends : List ℕ) (count : ℕ) (productions nodes programs strings : List ℕ) (start : ℕ) (area after : List ℕ) (r : ℕ) : Type 0 where
  pub is : (l : List (List ℕ)) → RowsIn bytes ends count l → PutAs true area 0 (bound_bytes l productions nodes programs strings start) after r
