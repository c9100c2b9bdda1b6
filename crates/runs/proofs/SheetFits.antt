-- A well-formed sheet fits: its names are those of its tags, each production's tag is one of them, and a field names a program of the sheet's section,
-- which may stand in the field's visit.
-- Assumes nothing.
use mathlib.Core.Path.{◌≡◌, sym, subst}
use mathlib.Core.List.{List, [], ◌∷◌, ◌++◌}
use mathlib.Core.Option.{Option, none, some}
use Prim.Native.Nat.{ℕ, zero, suc, ◌+◌, ◌≤◌, ◌<◌}
use native.Mathlib.Omega.{arith}
use lib.ListN.{length}
use Rattle.expressions.specs.Grammar.{Production, Numbered}
use Rattle.programs.specs.Program.{Program}
use Rattle.programs.specs.Bounds.{Bounds, bounds}
use Rattle.programs.specs.Limits.{IsProgramIn, Visit, first, second}
use Rattle.programs.specs.Section.{AllProgramsIn, FillIn, FieldIs, names}
use Rattle.sheet.specs.Tags.{TagAt}
use Rattle.sheet.specs.Fields.{Visits, FieldsAre}
use Rattle.sheet.specs.Sheet.{Rule, Sheet, From, NodeIs, RuleAt, IsSheetIn, IsSheet}
use Rattle.sheet.proofs.SheetLaws.{from_counted, numbered_productions, sheet_grammar}
use Rattle.runs.specs.Lookup.{tag_of}
use Rattle.runs.specs.Visits.{grammar, of_node, of_rule, programs_of}
use Rattle.runs.specs.Fits.{NamesFit, ProgramFitsIn, ProgramFits, SheetFits}

-- the names are the tags'
named_tags : (s : List ℕ) (k : ℕ) (ns : List (List ℕ)) → From (TagAt s) 0 k ns → length ns ≡ k
named_tags s k ns f = omega (arith, from_counted (TagAt s) 0 k ns f)

named : (s : List ℕ) (i k : ℕ) (ns : List (List ℕ)) → From (TagAt s) i k ns → NamesFit ns
named s i k [] f = tt
named s i k (n ∷ ns) f = ((f.0.a_name, f.0.short), named s (suc i) k ns f.1)

tag_below : (n : ℕ) (g : List Production) → Numbered n g → 1 ≤ n → (q : ℕ) → tag_of g q < n
tag_below n [] h b q = b
tag_below n (d ∷ g) h b zero = h.1
tag_below n (d ∷ g) h b (suc q) = tag_below n g h.2 b q

-- a program of the section
pub one_of_all : {b : Bounds} (tags : ℕ) (strings : List ℕ) (before : List Program) (p : Program) (after : List Program) → AllProgramsIn b tags strings (before ++ p ∷ after) → IsProgramIn b tags strings p
one_of_all tags strings [] p after h = h.0
one_of_all tags strings (q ∷ before) p after h = one_of_all tags strings before p after h.1

refilled : {b : Bounds} {n m : ℕ} {t u section : List ℕ} {ps : List Program} → m ≡ n → u ≡ t → FillIn b n t section ps → AllProgramsIn b m u ps
refilled {b} {n} {m} {t} {u} {section} {ps} e f h = subst (λ (k : ℕ). AllProgramsIn b k u ps) (sym e) (subst (λ (w : List ℕ). AllProgramsIn b n w ps) (sym f) h.programs)

module _ (b : Bounds) (a : Sheet) (ps : List Program) (all : AllProgramsIn b (length a.names) a.strings ps) where
  field_fits : (v : Visit) (field : ℕ) (m : Option Program) → FieldIs ps v field m → ProgramFitsIn b a v m
  field_fits v field none f = tt
  field_fits v field (some p) (names n q S w) =
      (one_of_all (length a.names) a.strings S.before p S.after (subst (AllProgramsIn b (length a.names) a.strings) S.are all), w)

  -- both programs of a node or a production
  abbrev BothFit : Visits → Type 0
  BothFit v = ProgramFitsIn b a first v.first_visit × ProgramFitsIn b a second v.second_visit

  fields_fit : (one two : ℕ) (v : Visits) → FieldsAre ps one two v → BothFit v
  fields_fit one two v f = (field_fits first one v.first_visit f.first_is, field_fits second two v.second_visit f.second_is)

  module _ (s : List ℕ) where
    nodes_fit : (j k : ℕ) (vs : List Visits) → From (NodeIs s ps) j k vs → (i : ℕ) → BothFit (of_node vs i)
    nodes_fit j k [] f i = (tt, tt)
    nodes_fit j k (v ∷ vs) f zero = fields_fit _ _ v f.0
    nodes_fit j k (v ∷ vs) f (suc i) = nodes_fit (suc j) k vs f.1 i

    rule_fits : (q : ℕ) (r : Rule) → RuleAt s ps q r → (i : ℕ) → BothFit (of_rule r i)
    rule_fits q r h zero = fields_fit _ _ r.own h.own_are
    rule_fits q r h (suc i) = nodes_fit _ _ r.of_nodes h.nodes_are i

    rules_fit : (j k : ℕ) (rs : List Rule) → From (RuleAt s ps) j k rs → (q i : ℕ) → BothFit (programs_of rs q i)
    rules_fit j k [] f q i = (tt, tt)
    rules_fit j k (r ∷ rs) f zero i = rule_fits j r f.0 i
    rules_fit j k (r ∷ rs) f (suc q) i = rules_fit (suc j) k rs f.1 q i

-- the programs are those of the section
all_programs : {b : Bounds} {s : List ℕ} {a : Sheet} (z : IsSheetIn b s a) → AllProgramsIn b (length a.names) a.strings z.well_formed_lem.programs.programs
all_programs {b} {s} {a} z = refilled (named_tags s _ a.names z.names_are) z.strings_are z.well_formed_lem.programs.fill

-- what a field names fits
pub program_fits : {s : List ℕ} {a : Sheet} (z : IsSheet s a) (v : Visit) (field : ℕ) (m : Option Program) → FieldIs z.well_formed_lem.programs.programs v field m → ProgramFits a v m
program_fits {s} {a} z v field m f = field_fits bounds a z.well_formed_lem.programs.programs (all_programs z) v field m f

-- with whatever bounds
pub programs_fit_in : {b : Bounds} {s : List ℕ} {a : Sheet} → IsSheetIn b s a → (q i : ℕ) →
    ProgramFitsIn b a first (programs_of a.rules q i).first_visit × ProgramFitsIn b a second (programs_of a.rules q i).second_visit
programs_fit_in {b} {s} {a} z = rules_fit b a z.well_formed_lem.programs.programs (all_programs z) s 0 _ a.rules z.rules_are

pub sheet_fits : {s : List ℕ} {a : Sheet} → IsSheet s a → SheetFits a
sheet_fits {s} {a} z =
    let w = z.well_formed_lem in
    let fits = programs_fit_in z in
    record {
      names_fit = named s 0 _ a.names z.names_are;
      tags_named = λ q. subst (λ (k : ℕ). tag_of (grammar a) q < k) (sym (named_tags s _ a.names z.names_are)) (tag_below _ (grammar a) (numbered_productions w (grammar a) (sheet_grammar z)).numbered w.sections.some_tags q);
      first_fits = λ q i. (fits q i).0;
      second_fits = λ q i. (fits q i).1;
    }
