-- The rules of declarations: what they mention, how many nodes they have, and that their sheet is the declarations'. Assumes nothing.
use mathlib.Core.Path.{◌≡◌, refl, ◌∙◌, ap, ap₂}
use mathlib.Core.List.{List, [], ◌∷◌, ◌++◌}
use Prim.Native.Nat.{ℕ, suc, ◌+◌}
use lib.ListN.{length, replicate}
use Rattle.expressions.specs.Expr.{Content, nodes_of}
use Rattle.sheet.specs.Fields.{Visits}
use Rattle.sheet.specs.Sheet.{Rule, Sheet}
use Rattle.notation.specs.Program.{TextProgram}
use Rattle.notation.specs.Rules.{content_inside, visits_inside, Rules}
use Rattle.notation.specs.Limits.{nodes_in_all}
use Rattle.encoding.specs.Mentions.{Mention, a_tag, in_rules, tags_mentioned, strings_mentioned, programs_mentioned}
use Rattle.encoding.specs.Distinct.{distinct, place_of, run_together}
use Rattle.encoding.specs.Encoded.{tags_stored, strings_stored, bytes_of_each, programs_stored, each, rules_of}
use Rattle.packing.specs.Packed.{nodes_of_rule}
use Rattle.models.specs.Models.{Declaration}
use Rattle.models.specs.Expressions.{spec_content, spec_nodes}
use Rattle.models.specs.Family.{nodes_together}
use Rattle.models.specs.Sheets.{declared_names, number_of_name, tag_of_name, no_programs, declared_rule, declared_rules}
use Rattle.models.proofs.Counted.{nodes_counted}
use Rattle.declaring.specs.Rules.{plain_content, declaration_rule, declaration_rules, rules_of_dtd}
use Rattle.declaring.specs.Promises.{SheetIsDeclared}
use Rattle.declaring.proofs.Plain.{content_plain, visits_none, each_none, mentions_none}

-- only tags are mentioned
abbrev only_tags : List (List ℕ) → List Mention
only_tags [] = []
only_tags (n ∷ ns) = a_tag n ∷ only_tags ns

tags_only : (ns : List (List ℕ)) → tags_mentioned (only_tags ns) ≡ ns
tags_only [] = refl
tags_only (n ∷ ns) = ap (λ (l : List (List ℕ)). n ∷ l) (tags_only ns)

no_strings : (ns : List (List ℕ)) → strings_mentioned (only_tags ns) ≡ []
no_strings [] = refl
no_strings (n ∷ ns) = no_strings ns

no_programs_lem : (ns : List (List ℕ)) → programs_mentioned (only_tags ns) ≡ []
no_programs_lem [] = refl
no_programs_lem (n ∷ ns) = no_programs_lem ns

mentions_tags : (all ds : List Declaration) → in_rules (declaration_rules all ds) ≡ only_tags (declared_names ds)
mentions_tags all [] = refl
mentions_tags all (d ∷ ds) = ap₂ (λ (x y : List Mention). a_tag d.declared ∷ ((x ++ []) ++ y)) (mentions_none (spec_content (number_of_name all) d.content)) (mentions_tags all ds)

pub tags_declared : (ds : List Declaration) → tags_stored (rules_of_dtd ds) ≡ distinct (declared_names ds)
unfolding rules_of_dtd
tags_declared ds = ap (λ (m : List Mention). distinct (tags_mentioned m)) (mentions_tags ds ds) ∙ ap distinct (tags_only (declared_names ds))

pub strings_none : (ds : List Declaration) → strings_stored (rules_of_dtd ds) ≡ []
unfolding rules_of_dtd
strings_none ds = ap (λ (m : List Mention). distinct (strings_mentioned m)) (mentions_tags ds ds) ∙ ap distinct (no_strings (declared_names ds))

pub programs_none : (ds : List Declaration) → programs_stored (rules_of_dtd ds) ≡ []
unfolding rules_of_dtd
programs_none ds =
    ap (λ (m : List Mention). distinct (bytes_of_each (rules_of_dtd ds) (programs_mentioned m))) (mentions_tags ds ds) ∙ ap (λ (p : List TextProgram). distinct (bytes_of_each (rules_of_dtd ds) p)) (no_programs_lem (declared_names ds))

-- as many nodes as the marks count
pub rule_nodes : (all : List Declaration) (d : Declaration) → nodes_of_rule (declaration_rule all d) ≡ spec_nodes d.content
rule_nodes all d = ap nodes_of (content_plain (spec_content (number_of_name all) d.content)) ∙ nodes_counted (number_of_name all) d.content

pub nodes_together_lem : (all ds : List Declaration) → nodes_in_all (declaration_rules all ds) ≡ nodes_together ds
nodes_together_lem all [] = refl
nodes_together_lem all (d ∷ ds) = ap₂ ◌+◌ (rule_nodes all d) (nodes_together_lem all ds)

pub as_many : (all ds : List Declaration) → length (declaration_rules all ds) ≡ length ds
as_many all [] = refl
as_many all (d ∷ ds) = ap suc (as_many all ds)

-- each is the sheet's
module _ (all : List Declaration) (r : Rules) (tags : tags_stored r ≡ distinct (declared_names all)) where
  nodes_none : (d : Declaration) → each r (visits_inside (plain_content (spec_content (number_of_name all) d.content))) ≡ replicate (spec_nodes d.content) no_programs
  nodes_none d =
      let c = spec_content (number_of_name all) d.content in
      ap (each r) (visits_none c) ∙ each_none r (nodes_of c) ∙ ap (λ (n : ℕ). replicate n no_programs) (nodes_counted (number_of_name all) d.content)

  abbrev rule_of_three : Declaration → ℕ → Content → List Visits → Rule
  rule_of_three d tag content visits = record { production = record { nonterm = number_of_name all d.declared; tagno = tag; content = content }; own = no_programs; of_nodes = visits }

  rules_declared : (ds : List Declaration) → rules_of r (declaration_rules all ds) ≡ declared_rules all ds
  rules_declared [] = refl
  rules_declared (d ∷ ds) =
      let c = spec_content (number_of_name all) d.content in
      let v = each r (visits_inside (plain_content c)) in
      ap (λ (t : ℕ). rule_of_three d t (content_inside (plain_content c)) v ∷ rules_of r (declaration_rules all ds)) (ap (λ (l : List (List ℕ)). place_of l d.declared) tags)
      ∙ ap (λ (x : Content). rule_of_three d (tag_of_name all d.declared) x v ∷ rules_of r (declaration_rules all ds)) (content_plain c)
      ∙ ap (λ (x : List Visits). rule_of_three d (tag_of_name all d.declared) c x ∷ rules_of r (declaration_rules all ds)) (nodes_none d)
      ∙ ap (λ (l : List Rule). declared_rule all d ∷ l) (rules_declared ds)

abbrev sheet_of_three : List (List ℕ) → List Rule → List ℕ → Sheet
sheet_of_three names rules strings = record { names = names; rules = rules; strings = strings; start_nonterminal = 0 }

pub sheet_is_declared : SheetIsDeclared
unfolding rules_of_dtd
sheet_is_declared ds =
    let r : Rules = rules_of_dtd ds in
    ap (λ (l : List (List ℕ)). sheet_of_three l (rules_of r (declaration_rules ds ds)) (run_together (strings_stored r))) (tags_declared ds)
    ∙ ap (λ (l : List Rule). sheet_of_three (distinct (declared_names ds)) l (run_together (strings_stored r))) (rules_declared ds r (tags_declared ds) ds)
    ∙ ap (λ (l : List (List ℕ)). sheet_of_three (distinct (declared_names ds)) (declared_rules ds ds) (run_together l)) (strings_none ds)
