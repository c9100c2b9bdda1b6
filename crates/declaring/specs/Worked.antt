-- The declaration that document 02 names, as a sheet and as text. Assumes nothing.
use Rattle.std.specs.Prelude.{◌≡◌, List, [], ◌∷◌, ◌++◌, ℕ, ◌≤◌, length, drop}
use Rattle.printed.specs.Text.{text_of}
use Rattle.models.specs.Worked.{partner_text, partner_declaration}
use Rattle.declaring.specs.Rules.{rules_of_dtd}
use Rattle.declaring.specs.Declares.{DeclaredAs}

-- the tag, the production, its eight nodes, the trailer
abbrev pub partner_tag : List ℕ
partner_tag = 4 ∷ 110 ∷ 97 ∷ 109 ∷ 101 ∷ 0 ∷ 0 ∷ 0 ∷ 0 ∷ 0 ∷ 0 ∷ 0 ∷ 0 ∷ 0 ∷ 0 ∷ 0 ∷ []

abbrev pub partner_production : List ℕ
partner_production = 0 ∷ 0 ∷ 0 ∷ 0 ∷ 8 ∷ 0 ∷ 255 ∷ 255 ∷ 255 ∷ 255 ∷ 0 ∷ 0 ∷ []

abbrev pub partner_nodes : List ℕ
partner_nodes = 3 ∷ 0 ∷ 255 ∷ 255 ∷ 255 ∷ 255 ∷ 3 ∷ 0 ∷ 255 ∷ 255 ∷ 255 ∷ 255 ∷ 1 ∷ 1 ∷ 255 ∷ 255 ∷ 255 ∷ 255 ∷ 1 ∷ 2 ∷ 255 ∷ 255 ∷ 255 ∷ 255 ∷ 3 ∷ 0 ∷ 255 ∷ 255 ∷ 255 ∷ 255 ∷ 1 ∷ 3 ∷ 255 ∷ 255 ∷ 255 ∷ 255 ∷ 5 ∷ 0 ∷ 255 ∷ 255 ∷ 255 ∷ 255 ∷ 1 ∷ 3 ∷ 255 ∷ 255 ∷ 255 ∷ 255 ∷ []

abbrev pub partner_trailer : List ℕ
partner_trailer = 0 ∷ 0 ∷ 1 ∷ 0 ∷ 16 ∷ 0 ∷ 1 ∷ 0 ∷ 28 ∷ 0 ∷ 8 ∷ 0 ∷ 76 ∷ 0 ∷ 0 ∷ 0 ∷ 76 ∷ 0 ∷ 0 ∷ 0 ∷ 0 ∷ 0 ∷ 88 ∷ 83 ∷ []

abbrev pub partner_sheet : List ℕ
partner_sheet = partner_tag ++ (partner_production ++ (partner_nodes ++ partner_trailer))

-- n0, and n0 ::= name(n1.n2.(n3.n3*))
abbrev pub partner_rules : List ℕ
partner_rules = 110 ∷ 48 ∷ 10 ∷ 110 ∷ 48 ∷ 32 ∷ 58 ∷ 58 ∷ 61 ∷ 32 ∷ 110 ∷ 97 ∷ 109 ∷ 101 ∷ 40 ∷ 110 ∷ 49 ∷ 46 ∷ 110 ∷ 50 ∷ 46 ∷ 40 ∷ 110 ∷ 51 ∷ 46 ∷ 110 ∷ 51 ∷ 42 ∷ 41 ∷ 41 ∷ 10 ∷ []

pub record PartnerSheet : Type 0 where
  pub printed_as : text_of (rules_of_dtd (partner_declaration ∷ [])) ≡ partner_rules
  pub written_as : (area : List ℕ) → 100 ≤ length area → DeclaredAs partner_text area 0 100 (partner_sheet ++ drop 100 area)
