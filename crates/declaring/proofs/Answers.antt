-- The answer: one, and some; and what is sealed is it. Assumes nothing.
use mathlib.Core.Path.{◌≡◌, refl, sym, ap, subst}
use mathlib.Core.Logic.{inl, inr}
use mathlib.Core.List.{List, [], ◌∷◌, ◌++◌}
use Prim.Native.Nat.{ℕ, ◌+◌, ◌≤◌, ◌<◌}
use native.Mathlib.Omega.{arith}
use native.Mathlib.Decide.{dec_lt}
use lib.ListN.{length, drop, length-append}
use lib.Seq.{take-append_seam, drop-append_seam}
use Rattle.notation.specs.Rules.{Rules}
use Rattle.encoding.specs.Distinct.{distinct, run_together}
use Rattle.encoding.specs.Encoded.{tags_stored, strings_stored, programs_stored}
use Rattle.encoding.specs.Keeps.{AllNames}
use Rattle.stores.specs.Rows.{RowsIn}
use Rattle.packing.specs.Packed.{tags_section, sheet_bytes, trailer_of}
use Rattle.packing.specs.Packs.{Packs}
use Rattle.writing.specs.Written.{WrittenAs}
use Rattle.writing.proofs.OneAnswer.{one_writing}
use Rattle.binding.specs.Bound.{ShortNames}
use Rattle.sealing.specs.Sealed.{SectionsOf}
use Rattle.sealing.proofs.Laws.{tags_length}
use Rattle.printed.specs.Text.{text_of}
use Rattle.models.specs.Models.{Declaration}
use Rattle.models.specs.Family.{Family, Holdable}
use Rattle.models.specs.Answers.{Stands, any, entity, attlist, other, ModelsTold, declares, refuses, ReadModels, declared, no_family, too_large, too_deep, too_much}
use Rattle.models.specs.Sheets.{declared_names, declared_sheet}
use Rattle.models.proofs.OneAnswer.{one_models_answer}
use Rattle.models.proofs.Sheets.{declared_sheets_keep}
use Rattle.models.proofs.Rows.{same_rows}
use Rattle.judging.proofs.Every.{every_text}
use Rattle.declaring.specs.Rules.{rules_of_dtd}
use Rattle.declaring.specs.Sections.{declared_productions, declared_nodes}
use Rattle.declaring.specs.Declares.{DeclaredAs, refused, too_short, written}
use Rattle.declaring.specs.Promises.{LargestDeclared, OneDeclaring, SomeDeclaring, NumbersDeclared, ModelsAreWritten, DeclaredIsWritten, WrittenIsDeclared, TagsCanBeSealed, SectionsCanBeSealed, SealsDeclarations}
use Rattle.declaring.proofs.Rules.{tags_declared, strings_none, programs_none}
use Rattle.declaring.proofs.Typed.{have_text, have_room, few_added, as_many_names, packs_declarations}
use Rattle.declaring.proofs.Sections.{sections_long}

-- what two answers are told of is one
abbrev of_told : ModelsTold → List Declaration
of_told (declares ds) = ds
of_told (refuses n k) = []

abbrev number_told : ModelsTold → ℕ
number_told (declares ds) = 0
number_told (refuses n k) = n

abbrev byte_told : ModelsTold → ℕ
byte_told (declares ds) = 0
byte_told (refuses n k) = k

abbrev refuses_one : ModelsTold → ℕ
refuses_one (declares ds) = 0
refuses_one (refuses n k) = 1

module _ (text : List ℕ) where
  one_dtd_told : (ds es : List Declaration) → ReadModels text (declares ds) → ReadModels text (declares es) → ds ≡ es
  one_dtd_told ds es a b = ap of_told (one_models_answer text (declares ds) (declares es) a b)

  not_both : {A : Type 0} (ds : List Declaration) (n k : ℕ) → ReadModels text (declares ds) → ReadModels text (refuses n k) → A
  not_both ds n k a b = absurd (omega (arith, ap refuses_one (one_models_answer text (declares ds) (refuses n k) a b)))

  no_fit : {A : Type 0} (n : ℕ) (ds es : List Declaration) → ReadModels text (declares ds) → ReadModels text (declares es) → n < length (sheet_bytes (rules_of_dtd ds)) → length (sheet_bytes (rules_of_dtd es)) ≤ n → A
  no_fit n ds es a b l h = absurd (omega (arith, ap (λ (z : List Declaration). length (sheet_bytes (rules_of_dtd z))) (one_dtd_told ds es a b)))

pub one_declaring : OneDeclaring
one_declaring text area m n j k x y (refused a) (refused b) = let e = one_models_answer text (refuses m j) (refuses n k) a b in (ap number_told e, ap byte_told e, refl)
one_declaring text area m n j k x y (refused a) (too_short ds b l) = not_both text ds m j b a
one_declaring text area m n j k x y (refused a) (written ds b l) = not_both text ds m j b a
one_declaring text area m n j k x y (too_short ds a l) (refused b) = not_both text ds n k a b
one_declaring text area m n j k x y (too_short ds a l) (too_short es b h) = (refl, ap (λ (z : List Declaration). length (sheet_bytes (rules_of_dtd z))) (one_dtd_told text ds es a b), refl)
one_declaring text area m n j k x y (too_short ds a l) (written es b h) = no_fit text (length area) ds es a b l h
one_declaring text area m n j k x y (written ds a l) (refused b) = not_both text ds n k a b
one_declaring text area m n j k x y (written ds a l) (too_short es b h) = no_fit text (length area) es ds b a h l
one_declaring text area m n j k x y (written ds a l) (written es b h) =
    let e = one_dtd_told text ds es a b in
    (refl, ap (λ (z : List Declaration). length (sheet_bytes (rules_of_dtd z))) e, ap (λ (z : List Declaration). sheet_bytes (rules_of_dtd z) ++ drop (length (sheet_bytes (rules_of_dtd z))) area) e)

-- which numbers there are
stands_numbers : {text : List ℕ} {k n : ℕ} → Stands text k n → (50 ≤ n) × (n ≤ 56)
stands_numbers (any h) = (omega arith, omega arith)
stands_numbers (entity h) = (omega arith, omega arith)
stands_numbers (attlist h) = (omega arith, omega arith)
stands_numbers (other f g h) = (omega arith, omega arith)

refused_numbers : {text : List ℕ} {n k : ℕ} → ReadModels text (refuses n k) → (50 ≤ n) × (n ≤ 56)
refused_numbers (no_family r g s) = stands_numbers s
refused_numbers (too_large r g h) = (omega arith, omega arith)
refused_numbers (too_deep r g) = (omega arith, omega arith)
refused_numbers (too_much f h t) = (omega arith, omega arith)

pub numbers_declared : NumbersDeclared
numbers_declared text area n k x (refused h) = inr (inr (refused_numbers h))
numbers_declared text area n k x (too_short ds h l) = inr (inl refl)
numbers_declared text area n k x (written ds h l) = inl refl

-- the answers of a text that declares something, beside what is written of its rules' text
record Answer (text area : List ℕ) (ds : List Declaration) : Type 0 where
  number : ℕ
  count : ℕ
  after : List ℕ
  declares_it : DeclaredAs text area number count after
  writes_it : WrittenAs (text_of (rules_of_dtd ds)) area number count after

module _ (text area : List ℕ) (ds : List Declaration) (f : Family text ds) (h : Holdable ds) where
  abbrev sheet : List ℕ
  sheet = sheet_bytes (rules_of_dtd ds)

  no_room : length area < length sheet → Answer text area ds
  no_room l = record { number = 43; count = length sheet; after = area; declares_it = too_short ds (declared f h) l; writes_it = WrittenAs.too_short (rules_of_dtd ds) (have_text text ds f h) (have_room ds h) l }

  room : length sheet ≤ length area → Answer text area ds
  room l = record {
    number = 0;
    count = length sheet;
    after = sheet ++ drop (length sheet) area;
    declares_it = written ds (declared f h) l;
    writes_it = WrittenAs.written (rules_of_dtd ds) (have_text text ds f h) (have_room ds h) l;
  }

answer : (text area : List ℕ) (ds : List Declaration) → ReadModels text (declares ds) → Answer text area ds
answer text area ds (declared f h) = on (dec_lt (length area) (length (sheet_bytes (rules_of_dtd ds))))
  where
    on : Dec (length area < length (sheet_bytes (rules_of_dtd ds))) → Answer text area ds
    on (yes l) = no_room text area ds f h l
    on (no n) = room text area ds f h (omega (arith, n))

carried : (P : ℕ → ℕ → List ℕ → Type 0) {m n j k : ℕ} {x y : List ℕ} → m ≡ n → j ≡ k → x ≡ y → P m j x → P n k y
carried P {m} {n} {j} {k} {x} {y} e f g h = subst (λ (i : ℕ). P i k y) e (subst (λ (i : ℕ). P m i y) f (subst (P m j) g h))

pub some_declaring : SomeDeclaring
some_declaring text area = let t = every_text text in on t.0 t.1
  where
    on : (a : ModelsTold) → ReadModels text a → (n : ℕ) × ((k : ℕ) × ((x : List ℕ) × DeclaredAs text area n k x))
    on (declares ds) h = let a = answer text area ds h in (a.number, (a.count, (a.after, a.declares_it)))
    on (refuses n k) h = (n, (k, (area, refused h)))

pub written_is_declared : WrittenIsDeclared
written_is_declared text area ds n k x h w =
    let a = answer text area ds h in
    let e = one_writing (text_of (rules_of_dtd ds)) area a.number n a.count k a.after x a.writes_it w in
    carried (DeclaredAs text area) e.0 e.1 e.2 a.declares_it

pub declared_is_written : DeclaredIsWritten
declared_is_written text area ds n k x h w =
    let a = answer text area ds h in
    let e = one_declaring text area a.number n a.count k a.after x a.declares_it w in
    carried (WrittenAs (text_of (rules_of_dtd ds)) area) e.0 e.1 e.2 a.writes_it

-- what stands in the memory then
pub models_are_written : ModelsAreWritten
models_are_written text area n x (refused h) = absurd (omega (arith, (refused_numbers h).0))
models_are_written text area n x (written ds (declared f h) l) =
    let sheet : List ℕ = sheet_bytes (rules_of_dtd ds) in
    let rest : List ℕ = drop (length sheet) area in
    record {
      declarations = ds;
      of_family = f;
      is_sheet = subst (λ (b : List ℕ). Packs b (declared_sheet ds)) (sym (take-append_seam sheet rest)) (packs_declarations text ds f h);
      rows = same_rows ds;
      as_lent = drop-append_seam sheet rest;
    }

-- names are short
all_short : (l : List (List ℕ)) → AllNames l → ShortNames l
all_short [] h = tt
all_short (n ∷ l) h = (h.0.short, all_short l h.1)

few_tags : (ds : List Declaration) → Holdable ds → length (distinct (declared_names ds)) ≤ 64
few_tags ds h = omega (arith, few_added [] (declared_names ds), as_many_names ds, h.few_declarations)

pub tags_can_be_sealed : TagsCanBeSealed
tags_can_be_sealed text bytes ends count ds f h rows =
    record { few = omega (arith, few_tags ds h, rows.number); rows = distinct (declared_names ds); are = rows; short = all_short (distinct (declared_names ds)) (declared_sheets_keep text ds f h).names }

pub sections_can_be_sealed : SectionsCanBeSealed
sections_can_be_sealed ds h =
    let s = sections_long ds in
    record {
      few_productions = omega (arith, s.productions_long, h.few_declarations);
      few_nodes = omega (arith, s.nodes_long, h.few_nodes);
      short_programs = omega arith;
      short_strings = omega arith;
      start_fits = omega arith;
    }

their_sections : (bytes ends : List ℕ) (count : ℕ) (ds : List Declaration) → RowsIn bytes ends count (distinct (declared_names ds)) → SectionsOf (rules_of_dtd ds) bytes ends count (declared_productions ds) (declared_nodes ds) [] [] 0
unfolding declared_productions declared_nodes rules_of_dtd
their_sections bytes ends count ds rows = record {
  tags_are = subst (RowsIn bytes ends count) (sym (tags_declared ds)) rows;
  productions_are = refl;
  nodes_are = refl;
  programs_are = sym (ap run_together (programs_none ds));
  strings_are = sym (ap run_together (strings_none ds));
  start_is = refl;
}

pub seals_declarations : SealsDeclarations
seals_declarations text area after bytes ends count ds o (declared f h) rows s =
    written_is_declared text area ds o.number o.count after (declared f h) (s.is (text_of (rules_of_dtd ds)) (rules_of_dtd ds) (have_text text ds f h) (have_room ds h) (their_sections bytes ends count ds rows))

six_lengths : (a b c d e f : List ℕ) → length (a ++ (b ++ (c ++ (d ++ (e ++ f))))) ≡ length a + (length b + (length c + (length d + (length e + length f))))
six_lengths a b c d e f = simp length-append refl

pub largest_declared : LargestDeclared
unfolding sheet_bytes declared_productions declared_nodes
largest_declared text ds f h =
    let r : Rules = rules_of_dtd ds in
    let s = sections_long ds in
    let names : ShortNames (tags_stored r) = subst ShortNames (sym (tags_declared ds)) (all_short (distinct (declared_names ds)) (declared_sheets_keep text ds f h).names) in
    let programs : length (run_together (programs_stored r)) ≡ 0 = ap (λ (l : List (List ℕ)). length (run_together l)) (programs_none ds) in
    let strings : length (run_together (strings_stored r)) ≡ 0 = ap (λ (l : List (List ℕ)). length (run_together l)) (strings_none ds) in
    omega (
      arith,
      six_lengths (tags_section (tags_stored r)) (declared_productions ds) (declared_nodes ds) (run_together (programs_stored r)) (run_together (strings_stored r)) (trailer_of r),
      tags_length (tags_stored r) names,
      ap length (tags_declared ds),
      few_tags ds h,
      s.productions_long,
      s.nodes_long,
      programs,
      strings,
      h.few_declarations,
      h.few_nodes,
    )
