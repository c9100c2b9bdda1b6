-- The sections of the sheet of declarations, and the records of a model's nodes. Assumes nothing.
use Rattle.std.specs.Prelude.{List, [], ◌∷◌, ℕ}
use Rattle.packing.specs.Packed.{word, productions_section, nodes_section}
use Rattle.models.specs.Models.{Declaration}
use Rattle.declaring.specs.Rules.{rules_of_dtd}

unfoldable pub declared_productions : List Declaration → List ℕ
declared_productions ds = productions_section (rules_of_dtd ds) 0 (rules_of_dtd ds).productions

unfoldable pub declared_nodes : List Declaration → List ℕ
declared_nodes ds = nodes_section (rules_of_dtd ds) (rules_of_dtd ds).productions

-- behind each kind and argument the fields of no programs
abbrev pub node_records : List ℕ → List ℕ
node_records [] = []
node_records (kind ∷ []) = []
node_records (kind ∷ argument ∷ l) = kind ∷ argument ∷ word 0xFFFF (word 0xFFFF (node_records l))
