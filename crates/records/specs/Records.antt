-- A production's 12 bytes by its numbers, and numbers that a sheet's records can hold. Assumes nothing.
use Rattle.std.specs.Prelude.{List, [], ◌∷◌, ℕ, ◌≤◌, ◌<◌}
use Rattle.limits.specs.Limits.{most_tags, most_productions, most_nodes, most_program_bytes, most_string_bytes}
use Rattle.packing.specs.Packed.{word}

-- nonterminal, tag, first node, count of nodes, 0, the fields of both programs, 0, 0
abbrev pub record_bytes : ℕ → ℕ → ℕ → ℕ → ℕ → ℕ → List ℕ
record_bytes nonterminal tag first nodes front back = nonterminal ∷ tag ∷ word first (nodes ∷ 0 ∷ word front (word back (0 ∷ 0 ∷ [])))

-- each fits the bytes that it has there
pub record FitsRecord (nonterminal tag first nodes front back : ℕ) : Type 0 where
  pub nonterminal_fits : nonterminal < 256
  pub tag_fits : tag < 256
  pub first_fits : first ≤ 0xFFFF
  pub nodes_fit : nodes < 256
  pub front_fits : front ≤ 0xFFFF
  pub back_fits : back ≤ 0xFFFF

-- counts and lengths within a sheet's limits
pub record TrailerFits (tags productions nodes programs strings start : ℕ) : Type 0 where
  pub few_tags : tags ≤ most_tags
  pub few_productions : productions ≤ most_productions
  pub few_nodes : nodes ≤ most_nodes
  pub short_programs : programs ≤ most_program_bytes
  pub short_strings : strings ≤ most_string_bytes
  pub start_fits : start ≤ 0xFFFF
