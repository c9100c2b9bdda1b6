-- What is promised of declarations written as a sheet. Assumes nothing.
use Rattle.std.specs.Prelude.{◌≡◌, ◌⊎◌, ◌↔◌, ℕ, ◌+◌, ◌*◌, ◌≤◌, length, take, drop}
use mathlib.Core.List.{List, [], ◌∷◌, ◌++◌, Memᴰ}
use Rattle.language.specs.Language.{LanguageOf}
use Rattle.sheet.specs.Grounded.{Grounded}
use Rattle.sheet.specs.Defect.{DefectIs}
use Rattle.sheet.specs.Sheet.{IsSheet}
use Rattle.notation.specs.RuleText.{RuleText}
use Rattle.encoding.specs.Distinct.{distinct}
use Rattle.encoding.specs.Encoded.{Room, sheet_of}
use Rattle.stores.specs.Rows.{RowsIn}
use Rattle.packing.specs.Packed.{sheet_bytes}
use Rattle.packing.specs.Packs.{Packs}
use Rattle.records.specs.Records.{record_bytes}
use Rattle.binding.specs.Bound.{TagRows, SectionsFit}
use Rattle.sealing.specs.declared.Outcome.{Outcome}
use Rattle.sealing.specs.Sealed.{SealedIs}
use Rattle.printed.specs.Text.{text_of}
use Rattle.writing.specs.Written.{WrittenAs}
use Rattle.models.specs.Models.{Declaration}
use Rattle.models.specs.Valid.{Child, Valid}
use Rattle.models.specs.Expressions.{spec_content, spec_nodes}
use Rattle.models.specs.Family.{names_in_spec, mentioned, nodes_together, Family, Holdable}
use Rattle.models.specs.Answers.{declares, ReadModels}
use Rattle.models.specs.Promises.{as_atoms}
use Rattle.models.specs.Sheets.{declared_names, number_of_name, tag_of_name, declared_rule, declared_sheet, NamedAmong}
use Rattle.declarations.specs.Nodes.{content_preorder}
use Rattle.declaring.specs.Rules.{rules_of_dtd}
use Rattle.declaring.specs.Sections.{declared_productions, declared_nodes, node_records}
use Rattle.declaring.specs.Declares.{DeclaredAs}

-- the sheet of the rules is the sheet of the declarations
abbrev pub SheetIsDeclared : Type 0
SheetIsDeclared = (ds : List Declaration) → sheet_of (rules_of_dtd ds) ≡ declared_sheet ds

-- declarations of the family that a sheet can hold are rules with a text and with room
abbrev pub DeclarationsHaveText : Type 0
DeclarationsHaveText = (text : List ℕ) (ds : List Declaration) → Family text ds → Holdable ds → RuleText (text_of (rules_of_dtd ds)) (rules_of_dtd ds)

abbrev pub DeclarationsHaveRoom : Type 0
DeclarationsHaveRoom = (ds : List Declaration) → Holdable ds → Room (rules_of_dtd ds)

-- so the bytes are their sheet, and keep numbers 1 to 6; and where number 7 is kept too, the checker reads this sheet
abbrev pub PacksDeclarations : Type 0
PacksDeclarations = (text : List ℕ) (ds : List Declaration) → Family text ds → Holdable ds → Packs (sheet_bytes (rules_of_dtd ds)) (declared_sheet ds)

abbrev pub NoneOfSixDeclared : Type 0
NoneOfSixDeclared = (text : List ℕ) (ds : List Declaration) (d : ℕ) → Family text ds → Holdable ds → DefectIs (sheet_bytes (rules_of_dtd ds)) d → (d ≡ 0) ⊎ (d ≡ 7)

abbrev pub IsDeclaredSheet : Type 0
IsDeclaredSheet = (text : List ℕ) (ds : List Declaration) → Family text ds → Holdable ds → Grounded (sheet_bytes (rules_of_dtd ds)) → IsSheet (sheet_bytes (rules_of_dtd ds)) (declared_sheet ds)

-- 64 tags, 64 productions, 256 nodes and the trailer
abbrev pub LargestDeclared : Type 0
LargestDeclared = (text : List ℕ) (ds : List Declaration) → Family text ds → Holdable ds → length (sheet_bytes (rules_of_dtd ds)) ≤ 3352

-- any two answers allowed are equal; and there is one
abbrev pub OneDeclaring : Type 0
OneDeclaring = (text area : List ℕ) (m n j k : ℕ) (x y : List ℕ) → DeclaredAs text area m j x → DeclaredAs text area n k y → (m ≡ n) × (j ≡ k) × (x ≡ y)

abbrev pub SomeDeclaring : Type 0
SomeDeclaring = (text area : List ℕ) → (n : ℕ) × ((k : ℕ) × ((x : List ℕ) × DeclaredAs text area n k x))

-- by 0, 43, or 50 to 56
abbrev pub NumbersDeclared : Type 0
NumbersDeclared = (text area : List ℕ) (n k : ℕ) (x : List ℕ) → DeclaredAs text area n k x → (n ≡ 0) ⊎ ((n ≡ 43) ⊎ ((50 ≤ n) × (n ≤ 56)))

-- with 0 the bytes written are a sheet that keeps numbers 1 to 6; for each declaration a row of the names that the text mentions is valid exactly when it is in the language of
-- its production's expression; and every byte past the sheet is as lent
pub record ModelsIn (text area : List ℕ) (n : ℕ) (x : List ℕ) : Type 0 where
  pub declarations : List Declaration
  pub of_family : Family text declarations
  pub is_sheet : Packs (take n x) (declared_sheet declarations)
  pub rows : (d : Declaration) → Memᴰ d declarations → (w : List Child) → NamedAmong (distinct (mentioned declarations)) w
      → Valid d.content w ↔ LanguageOf (declared_rule declarations d).production.content (as_atoms (number_of_name declarations) w)
  pub as_lent : drop n x ≡ drop n area

abbrev pub ModelsAreWritten : Type 0
ModelsAreWritten = (text area : List ℕ) (n : ℕ) (x : List ℕ) → DeclaredAs text area 0 n x → ModelsIn text area n x

-- the answer is what is written of the text of their rules, to the byte
abbrev pub DeclaredIsWritten : Type 0
DeclaredIsWritten = (text area : List ℕ) (ds : List Declaration) (n k : ℕ) (x : List ℕ) → ReadModels text (declares ds) → DeclaredAs text area n k x → WrittenAs (text_of (rules_of_dtd ds)) area n k x

abbrev pub WrittenIsDeclared : Type 0
WrittenIsDeclared = (text area : List ℕ) (ds : List Declaration) (n k : ℕ) (x : List ℕ) → ReadModels text (declares ds) → WrittenAs (text_of (rules_of_dtd ds)) area n k x → DeclaredAs text area n k x

-- one declaration more: its names and its tag are mentioned behind those before, and its records stand behind theirs
pub record DeclaredBehind (ds : List Declaration) (d : Declaration) : Type 0 where
  pub names : mentioned (ds ++ d ∷ []) ≡ mentioned ds ++ d.declared ∷ names_in_spec d.content
  pub tags : declared_names (ds ++ d ∷ []) ≡ declared_names ds ++ d.declared ∷ []
  pub count : nodes_together (ds ++ d ∷ []) ≡ nodes_together ds + spec_nodes d.content
  pub productions : declared_productions (ds ++ d ∷ [])
      ≡ declared_productions ds ++ record_bytes (number_of_name (ds ++ d ∷ []) d.declared) (tag_of_name (ds ++ d ∷ []) d.declared) (nodes_together ds) (spec_nodes d.content) 0xFFFF 0xFFFF
  pub nodes : declared_nodes (ds ++ d ∷ []) ≡ declared_nodes ds ++ node_records (content_preorder (spec_content (number_of_name (ds ++ d ∷ [])) d.content))

abbrev pub OneDeclarationMore : Type 0
OneDeclarationMore = (ds : List Declaration) (d : Declaration) → DeclaredBehind ds d

-- as long as their counts say
pub record SectionsLong (ds : List Declaration) : Type 0 where
  pub productions_long : length (declared_productions ds) ≡ 12 * length ds
  pub nodes_long : length (declared_nodes ds) ≡ 6 * nodes_together ds

abbrev pub SectionsAreLong : Type 0
SectionsAreLong = (ds : List Declaration) → SectionsLong ds

-- so a store of their tags and these sections can be sealed, and what is then handed back is the answer
abbrev pub TagsCanBeSealed : Type 0
TagsCanBeSealed = (text bytes ends : List ℕ) (count : ℕ) (ds : List Declaration) → Family text ds → Holdable ds → RowsIn bytes ends count (distinct (declared_names ds)) → TagRows bytes ends count

abbrev pub SectionsCanBeSealed : Type 0
SectionsCanBeSealed = (ds : List Declaration) → Holdable ds → SectionsFit (declared_productions ds) (declared_nodes ds) [] [] 0

abbrev pub SealsDeclarations : Type 0
SealsDeclarations = (text area after bytes ends : List ℕ) (count : ℕ) (ds : List Declaration) (o : Outcome) → ReadModels text (declares ds) → RowsIn bytes ends count (distinct (declared_names ds))
    → SealedIs bytes ends count (declared_productions ds) (declared_nodes ds) [] [] 0 area after o → DeclaredAs text area o.number o.count after
