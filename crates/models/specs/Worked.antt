-- The declaration that document 02 names, `<!ELEMENT name (year,title,author+)>`, and the expression that it becomes. Assumes nothing.
use Rattle.std.specs.Prelude.{◌≡◌, List, [], ◌∷◌, ℕ}
use Rattle.expressions.specs.Expr.{nonterminal, Exp, atom, cat, star, Content, tree}
use Rattle.models.specs.Models.{called, sequence, at_least_one, children, Declaration}
use Rattle.models.specs.Expressions.{spec_content}
use Rattle.models.specs.Family.{Family}
use Rattle.models.specs.Sheets.{number_of_name}

abbrev pub partner_text : List ℕ
partner_text = 60 ∷ 33 ∷ 69 ∷ 76 ∷ 69 ∷ 77 ∷ 69 ∷ 78 ∷ 84 ∷ 32 ∷ 110 ∷ 97 ∷ 109 ∷ 101 ∷ 32 ∷ 40 ∷ 121 ∷ 101 ∷ 97 ∷ 114 ∷ 44 ∷ 116 ∷ 105 ∷ 116 ∷ 108 ∷ 101 ∷ 44 ∷ 97 ∷ 117 ∷ 116 ∷ 104 ∷ 111 ∷ 114 ∷ 43 ∷ 41 ∷ 62 ∷ []

abbrev pub partner_declaration : Declaration
partner_declaration = record {
  declared = 110 ∷ 97 ∷ 109 ∷ 101 ∷ [];
  content = children (sequence (sequence (called (121 ∷ 101 ∷ 97 ∷ 114 ∷ [])) (called (116 ∷ 105 ∷ 116 ∷ 108 ∷ 101 ∷ []))) (at_least_one (called (97 ∷ 117 ∷ 116 ∷ 104 ∷ 111 ∷ 114 ∷ []))));
}

-- n1.n2.(n3.n3*)
abbrev pub partner_content : Content
partner_content = tree (cat (cat (atom (nonterminal 1)) (atom (nonterminal 2))) (cat (atom (nonterminal 3)) (star (atom (nonterminal 3)))))

pub record Partner : Type 0 where
  pub of_the_family : Family partner_text (partner_declaration ∷ [])
  pub becomes : spec_content (number_of_name (partner_declaration ∷ [])) partner_declaration.content ≡ partner_content
