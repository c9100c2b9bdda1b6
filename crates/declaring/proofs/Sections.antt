-- The sections of declarations by the numbers of names, and with one declaration more. Assumes nothing.
use mathlib.Core.Path.{◌≡◌, refl, sym, ◌∙◌, ap, ap₂}
use mathlib.Core.Bool.{true}
use mathlib.Core.List.{List, [], ◌∷◌, ◌++◌, append_assoc, append-nil}
use Prim.Native.Nat.{ℕ, ◌+◌, ◌*◌}
use native.Mathlib.Nat.{add-zero, zero-add}
use native.Mathlib.Omega.{arith}
use Rattle.expressions.specs.Expr.{nonterminal, anychar, Exp, atom, cat, alt, star, empty, Content, tree}
use Rattle.notation.specs.Rules.{Rules}
use Rattle.encoding.specs.Distinct.{has, added, distinct, place_of}
use Rattle.encoding.specs.Encoded.{tags_stored}
use Rattle.encoding.proofs.Stored.{AllHad, distinct_all}
use Rattle.stores.proofs.Grows.{grows_behind, places_stay}
use Rattle.packing.specs.Packed.{nodes_section, productions_section}
use Rattle.packing.proofs.Productions.{productions_length, nodes_length}
use Rattle.records.specs.Records.{record_bytes}
use Rattle.models.specs.Models.{Model, called, sequence, choice, optional, any_number, at_least_one, ContentSpec, nothing_inside, mixed, children, Declaration}
use Rattle.models.specs.Expressions.{model_expression, or_names, spec_content, spec_nodes}
use Rattle.models.specs.Family.{names_in, names_in_spec, mentioned, nodes_together}
use Rattle.models.specs.Sheets.{declared_names, number_of_name, tag_of_name}
use Rattle.models.proofs.Sheets.{had_behind}
use Rattle.declarations.specs.Nodes.{content_preorder}
use Rattle.declaring.specs.Rules.{declaration_rules, rules_of_dtd}
use Rattle.declaring.specs.Sections.{declared_productions, declared_nodes, node_records}
use Rattle.declaring.specs.Promises.{OneDeclarationMore, SectionsAreLong}
use Rattle.declaring.proofs.Plain.{bytes_plain}
use Rattle.declaring.proofs.Rules.{tags_declared, rule_nodes, nodes_together_lem, as_many}
use Rattle.declaring.proofs.Typed.{had_front}

-- by numbers of names, whatever they are
abbrev record_of : (List ℕ → ℕ) → (List ℕ → ℕ) → ℕ → Declaration → List ℕ
record_of number tag first d = record_bytes (number d.declared) (tag d.declared) first (spec_nodes d.content) 0xFFFF 0xFFFF

abbrev records_of : (List ℕ → ℕ) → (List ℕ → ℕ) → ℕ → List Declaration → List ℕ
records_of number tag first [] = []
records_of number tag first (d ∷ ds) = record_of number tag first d ++ records_of number tag (first + spec_nodes d.content) ds

abbrev nodes_of_one : (List ℕ → ℕ) → Declaration → List ℕ
nodes_of_one number d = node_records (content_preorder (spec_content number d.content))

abbrev nodes_of_all : (List ℕ → ℕ) → List Declaration → List ℕ
nodes_of_all number [] = []
nodes_of_all number (d ∷ ds) = nodes_of_one number d ++ nodes_of_all number ds

module _ (all : List Declaration) (r : Rules) (tags : tags_stored r ≡ distinct (declared_names all)) where
  productions_by_number : (first : ℕ) (ds : List Declaration) → productions_section r first (declaration_rules all ds) ≡ records_of (number_of_name all) (tag_of_name all) first ds
  productions_by_number first [] = refl
  productions_by_number first (d ∷ ds) =
      ap₂ (λ (l : List (List ℕ)) (n : ℕ). record_bytes (number_of_name all d.declared) (place_of l d.declared) first n 0xFFFF 0xFFFF ++ productions_section r (first + n) (declaration_rules all ds)) tags (rule_nodes all d)
      ∙ ap (λ (l : List ℕ). record_of (number_of_name all) (tag_of_name all) first d ++ l) (productions_by_number (first + spec_nodes d.content) ds)

  nodes_by_number : (ds : List Declaration) → nodes_section r (declaration_rules all ds) ≡ nodes_of_all (number_of_name all) ds
  nodes_by_number [] = refl
  nodes_by_number (d ∷ ds) = ap₂ (λ (x y : List ℕ). x ++ y) (bytes_plain r (spec_content (number_of_name all) d.content)) (nodes_by_number ds)

productions_are : (ds : List Declaration) → declared_productions ds ≡ records_of (number_of_name ds) (tag_of_name ds) 0 ds
unfolding declared_productions rules_of_dtd
productions_are ds = productions_by_number ds (rules_of_dtd ds) (tags_declared ds) 0 ds

nodes_are : (ds : List Declaration) → declared_nodes ds ≡ nodes_of_all (number_of_name ds) ds
unfolding declared_nodes rules_of_dtd
nodes_are ds = nodes_by_number ds (rules_of_dtd ds) (tags_declared ds) ds

-- two numberings that agree on the names of a list
module _ (f g : List ℕ → ℕ) (l : List (List ℕ)) (same : (n : List ℕ) → has l n ≡ true → f n ≡ g n) where
  same_model : (x : Model) → AllHad l (names_in x) → model_expression f x ≡ model_expression g x
  same_model (called n) h = ap (λ (k : ℕ). atom (nonterminal k)) (same n h.0)
  same_model (sequence x y) h = ap₂ cat (same_model x (had_front l (names_in x) (names_in y) h)) (same_model y (had_behind l (names_in x) (names_in y) h))
  same_model (choice x y) h = ap₂ alt (same_model x (had_front l (names_in x) (names_in y) h)) (same_model y (had_behind l (names_in x) (names_in y) h))
  same_model (optional x) h = ap (λ (e : Exp). alt e empty) (same_model x h)
  same_model (any_number x) h = ap star (same_model x h)
  same_model (at_least_one x) h = ap (λ (e : Exp). cat e (star e)) (same_model x h)

  same_names : (e : Exp) (ns : List (List ℕ)) → AllHad l ns → or_names f e ns ≡ or_names g e ns
  same_names e [] h = refl
  same_names e (n ∷ ns) h = same_names (alt e (atom (nonterminal (f n)))) ns h.1 ∙ ap (λ (k : ℕ). or_names g (alt e (atom (nonterminal k))) ns) (same n h.0)

  pub same_content : (c : ContentSpec) → AllHad l (names_in_spec c) → spec_content f c ≡ spec_content g c
  same_content nothing_inside h = refl
  same_content (mixed ns) h = ap (λ (e : Exp). tree (star e)) (same_names (atom anychar) ns h)
  same_content (children x) h = ap tree (same_model x h)

  same_nodes : (ds : List Declaration) → AllHad l (mentioned ds) → nodes_of_all f ds ≡ nodes_of_all g ds
  same_nodes [] h = refl
  same_nodes (d ∷ ds) h =
      ap₂ (λ (c : Content) (m : List ℕ). node_records (content_preorder c) ++ m) (same_content d.content (had_front l (names_in_spec d.content) (mentioned ds) h.1))
      (same_nodes ds (had_behind l (names_in_spec d.content) (mentioned ds) h.1))

  same_numbers : (tag : List ℕ → ℕ) (first : ℕ) (ds : List Declaration) → AllHad l (mentioned ds) → records_of f tag first ds ≡ records_of g tag first ds
  same_numbers tag first [] h = refl
  same_numbers tag first (d ∷ ds) h =
      ap₂ (λ (k : ℕ) (m : List ℕ). record_bytes k (tag d.declared) first (spec_nodes d.content) 0xFFFF 0xFFFF ++ m) (same d.declared h.0)
      (same_numbers tag (first + spec_nodes d.content) ds (had_behind l (names_in_spec d.content) (mentioned ds) h.1))

  same_tags : (number : List ℕ → ℕ) (first : ℕ) (ds : List Declaration) → AllHad l (declared_names ds) → records_of number f first ds ≡ records_of number g first ds
  same_tags number first [] h = refl
  same_tags number first (d ∷ ds) h =
      ap₂ (λ (k : ℕ) (m : List ℕ). record_bytes (number d.declared) k first (spec_nodes d.content) 0xFFFF 0xFFFF ++ m) (same d.declared h.0)
      (same_tags number (first + spec_nodes d.content) ds h.1)

-- what was mentioned keeps its place
stays : (l more both : List (List ℕ)) → both ≡ l ++ more → (n : List ℕ) → has (distinct l) n ≡ true → place_of (distinct both) n ≡ place_of (distinct l) n
stays l more both e n h = ap (λ (x : List (List ℕ)). place_of (distinct x) n) e ∙ ap (λ (x : List (List ℕ)). place_of x n) (grows_behind l more) ∙ places_stay (distinct l) (added (distinct l) more) n h

-- behind the others
names_behind : (ds : List Declaration) (d : Declaration) → mentioned (ds ++ d ∷ []) ≡ mentioned ds ++ d.declared ∷ names_in_spec d.content
names_behind [] d = ap (λ (l : List (List ℕ)). d.declared ∷ l) (append-nil (names_in_spec d.content))
names_behind (x ∷ ds) d =
    ap (λ (l : List (List ℕ)). x.declared ∷ l) (ap (λ (l : List (List ℕ)). names_in_spec x.content ++ l) (names_behind ds d) ∙ sym (append_assoc (names_in_spec x.content) (mentioned ds) (d.declared ∷ names_in_spec d.content)))

tags_behind : (ds : List Declaration) (d : Declaration) → declared_names (ds ++ d ∷ []) ≡ declared_names ds ++ d.declared ∷ []
tags_behind [] d = refl
tags_behind (x ∷ ds) d = ap (λ (l : List (List ℕ)). x.declared ∷ l) (tags_behind ds d)

count_behind : (ds : List Declaration) (d : Declaration) → nodes_together (ds ++ d ∷ []) ≡ nodes_together ds + spec_nodes d.content
count_behind [] d = omega arith
count_behind (x ∷ ds) d = omega (arith, count_behind ds d)

records_behind : (number tag : List ℕ → ℕ) (first : ℕ) (ds : List Declaration) (d : Declaration) → records_of number tag first (ds ++ d ∷ []) ≡ records_of number tag first ds ++ record_of number tag (first + nodes_together ds) d
records_behind number tag first [] d = append-nil (record_of number tag first d) ∙ ap (λ (n : ℕ). record_of number tag n d) (sym (add-zero first))
records_behind number tag first (x ∷ ds) d =
    let sum : first + spec_nodes x.content + nodes_together ds ≡ first + (spec_nodes x.content + nodes_together ds) = omega arith in
    ap (λ (l : List ℕ). record_of number tag first x ++ l) (records_behind number tag (first + spec_nodes x.content) ds d)
    ∙ sym (append_assoc (record_of number tag first x) (records_of number tag (first + spec_nodes x.content) ds) (record_of number tag (first + spec_nodes x.content + nodes_together ds) d))
    ∙ ap (λ (n : ℕ). records_of number tag first (x ∷ ds) ++ record_of number tag n d) sum

nodes_behind : (number : List ℕ → ℕ) (ds : List Declaration) (d : Declaration) → nodes_of_all number (ds ++ d ∷ []) ≡ nodes_of_all number ds ++ nodes_of_one number d
nodes_behind number [] d = append-nil (nodes_of_one number d)
nodes_behind number (x ∷ ds) d = ap (λ (l : List ℕ). nodes_of_one number x ++ l) (nodes_behind number ds d) ∙ sym (append_assoc (nodes_of_one number x) (nodes_of_all number ds) (nodes_of_one number d))

-- as long as one declaration more comes
module _ (ds : List Declaration) (d : Declaration) where
  abbrev more : List Declaration
  more = ds ++ d ∷ []

  numbers_stay : (n : List ℕ) → has (distinct (mentioned ds)) n ≡ true → number_of_name more n ≡ number_of_name ds n
  numbers_stay = stays (mentioned ds) (d.declared ∷ names_in_spec d.content) (mentioned more) (names_behind ds d)

  tags_stay : (n : List ℕ) → has (distinct (declared_names ds)) n ≡ true → tag_of_name more n ≡ tag_of_name ds n
  tags_stay = stays (declared_names ds) (d.declared ∷ []) (declared_names more) (tags_behind ds d)

  same_productions : records_of (number_of_name more) (tag_of_name more) 0 ds ≡ declared_productions ds
  same_productions =
      same_numbers (number_of_name more) (number_of_name ds) (distinct (mentioned ds)) numbers_stay (tag_of_name more) 0 ds (distinct_all (mentioned ds))
      ∙ same_tags (tag_of_name more) (tag_of_name ds) (distinct (declared_names ds)) tags_stay (number_of_name ds) 0 ds (distinct_all (declared_names ds)) ∙ sym (productions_are ds)

pub one_declaration_more : OneDeclarationMore
one_declaration_more ds d =
    let all : List Declaration = ds ++ d ∷ [] in
    record {
      names = names_behind ds d;
      tags = tags_behind ds d;
      count = count_behind ds d;
      productions =
          productions_are all ∙ records_behind (number_of_name all) (tag_of_name all) 0 ds d
          ∙ ap₂ (λ (l : List ℕ) (n : ℕ). l ++ record_of (number_of_name all) (tag_of_name all) n d) (same_productions ds d) (zero-add (nodes_together ds));
      nodes =
          nodes_are all ∙ nodes_behind (number_of_name all) ds d
          ∙ ap (λ (l : List ℕ). l ++ nodes_of_one (number_of_name all) d) (same_nodes (number_of_name all) (number_of_name ds) (distinct (mentioned ds)) (numbers_stay ds d) ds (distinct_all (mentioned ds)) ∙ sym (nodes_are ds));
    }

pub sections_long : SectionsAreLong
unfolding declared_productions declared_nodes rules_of_dtd
sections_long ds = record {
  productions_long = productions_length (rules_of_dtd ds) 0 (declaration_rules ds ds) ∙ ap (λ (n : ℕ). 12 * n) (as_many ds ds);
  nodes_long = nodes_length (rules_of_dtd ds) (declaration_rules ds ds) ∙ ap (λ (n : ℕ). 6 * n) (nodes_together_lem ds ds);
}
