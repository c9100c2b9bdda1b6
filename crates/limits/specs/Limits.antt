-- Document 01's limits of sheets and tokens, each once. Assumes nothing.
use Rattle.std.specs.Prelude.{ℕ}

-- bytes of a sheet
abbrev pub largest_sheet : ℕ
largest_sheet = 27928

-- tags, productions, nodes in all, bytes of programs and of strings
abbrev pub most_tags : ℕ
most_tags = 64

abbrev pub most_productions : ℕ
most_productions = 64

abbrev pub most_nodes : ℕ
most_nodes = 256

abbrev pub most_program_bytes : ℕ
most_program_bytes = 16384

abbrev pub most_string_bytes : ℕ
most_string_bytes = 8192

-- bytes of a tag's name
abbrev pub longest_name : ℕ
longest_name = 15

-- nodes of one production, and how deep they nest
abbrev pub nodes_at_most : ℕ
nodes_at_most = 32

abbrev pub deepest_tree : ℕ
deepest_tree = 12

-- bytes of a program with its closing 0, and how deep if, not, and, or nest in it
abbrev pub longest_program : ℕ
longest_program = 256

abbrev pub deepest_program : ℕ
deepest_program = 8

-- bytes of a token of the stream
abbrev pub longest_token : ℕ
longest_token = 32
