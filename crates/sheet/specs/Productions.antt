-- The production records of a sheet. Number 4 of document 01. Assumes nothing.
use Rattle.std.specs.Prelude.{◌≡◌, List, ℕ, ◌+◌, ◌≤◌, ◌<◌}
use Rattle.limits.specs.Limits.{nodes_at_most}
use Rattle.expressions.specs.Grammar.{last_nonterminal}
use Rattle.layout.specs.Layout.{byte_at, tag_count, production_count, node_count, start}
use Rattle.layout.specs.Records.{production_at, nonterminal_of, tag_number_of, first_node_of, node_count_of, nodes_before}

pub record ProductionFits (s : List ℕ) (q : ℕ) : Type 0 where
  pub nonterminal : nonterminal_of s q ≤ last_nonterminal
  pub tag : tag_number_of s q < tag_count s
  pub follows : first_node_of s q ≡ nodes_before s q
  pub few_nodes : node_count_of s q ≤ nodes_at_most
  pub zero_5 : byte_at s (production_at s q + 5) ≡ 0
  pub zero_10 : byte_at s (production_at s q + 10) ≡ 0
  pub zero_11 : byte_at s (production_at s q + 11) ≡ 0

-- number 4: each production fits, their runs use every node, and the start is a nonterminal
pub record Productions (s : List ℕ) : Type 0 where
  pub each : (q : ℕ) → q < production_count s → ProductionFits s q
  pub every_node : nodes_before s (production_count s) ≡ node_count s
  pub start_fits : start s ≤ last_nonterminal
