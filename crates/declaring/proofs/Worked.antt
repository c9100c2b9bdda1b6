-- The worked declaration: its sheet and its text are computed. Assumes nothing.
use mathlib.Core.Path.{◌≡◌, refl, ap, subst}
use mathlib.Core.List.{List, [], ◌∷◌, ◌++◌}
use Prim.Native.Nat.{ℕ}
use native.Mathlib.Omega.{arith}
use lib.ListN.{length, drop}
use Rattle.notation.specs.Tokens.{decimal}
use Rattle.packing.specs.Packed.{sheet_bytes}
use Rattle.printed.specs.Text.{text_of}
use Rattle.models.specs.Answers.{declared}
use Rattle.models.specs.Worked.{partner_text, partner_declaration}
use Rattle.models.proofs.Worked.{partner}
use Rattle.declaring.specs.Rules.{rules_of_dtd}
use Rattle.declaring.specs.Declares.{DeclaredAs, written}
use Rattle.declaring.specs.Worked.{partner_sheet, partner_rules, PartnerSheet}

its_sheet : sheet_bytes (rules_of_dtd (partner_declaration ∷ [])) ≡ partner_sheet
unfolding sheet_bytes rules_of_dtd
its_sheet = refl

its_text : text_of (rules_of_dtd (partner_declaration ∷ [])) ≡ partner_rules
unfolding text_of rules_of_dtd decimal
its_text = refl

pub partner_sheet_lem : PartnerSheet
partner_sheet_lem = record {
  printed_as = its_text;
  written_as = λ area long.
      let sheet : List ℕ = sheet_bytes (rules_of_dtd (partner_declaration ∷ [])) in
      let its_length : length sheet ≡ 100 = ap length its_sheet in
      let whole : DeclaredAs partner_text area 0 (length sheet) (sheet ++ drop (length sheet) area) =
      written (partner_declaration ∷ []) (declared partner.of_the_family (record { few_declarations = omega arith; few_names = omega arith; few_nodes = omega arith })) (omega (arith, its_length, long)) in
      subst (λ (x : List ℕ). DeclaredAs partner_text area 0 (length x) (x ++ drop (length x) area)) its_sheet whole;
}
