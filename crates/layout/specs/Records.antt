-- What the 12 bytes of a production record and the 6 bytes of a node record hold. Assumes nothing.
use Rattle.std.specs.Prelude.{List, ℕ, zero, suc, ◌+◌, ◌*◌}
use Rattle.layout.specs.Layout.{byte_at, word_at, production_offset, node_offset}

-- where production q's 12 bytes lie, and what they hold
abbrev pub production_at : List ℕ → ℕ → ℕ
production_at s q = production_offset s + 12 * q

abbrev pub nonterminal_of : List ℕ → ℕ → ℕ
nonterminal_of s q = byte_at s (production_at s q + 0)

abbrev pub tag_number_of : List ℕ → ℕ → ℕ
tag_number_of s q = byte_at s (production_at s q + 1)

abbrev pub first_node_of : List ℕ → ℕ → ℕ
first_node_of s q = word_at s (production_at s q + 2)

abbrev pub node_count_of : List ℕ → ℕ → ℕ
node_count_of s q = byte_at s (production_at s q + 4)

abbrev pub first_program_of : List ℕ → ℕ → ℕ
first_program_of s q = word_at s (production_at s q + 6)

abbrev pub second_program_of : List ℕ → ℕ → ℕ
second_program_of s q = word_at s (production_at s q + 8)

-- the nodes of the productions before q
abbrev pub nodes_before : List ℕ → ℕ → ℕ
nodes_before s zero = 0
nodes_before s (suc q) = nodes_before s q + node_count_of s q

-- where node i's 6 bytes lie, and what they hold
abbrev pub node_at : List ℕ → ℕ → ℕ
node_at s i = node_offset s + 6 * i

abbrev pub kind_of : List ℕ → ℕ → ℕ
kind_of s i = byte_at s (node_at s i + 0)

abbrev pub argument_of : List ℕ → ℕ → ℕ
argument_of s i = byte_at s (node_at s i + 1)

abbrev pub first_program_of_node : List ℕ → ℕ → ℕ
first_program_of_node s i = word_at s (node_at s i + 2)

abbrev pub second_program_of_node : List ℕ → ℕ → ℕ
second_program_of_node s i = word_at s (node_at s i + 4)
