-- Bytes that are laid out as a sheet's are that sheet: what the definitions ask of each tag, production and node follows from one row of facts for each, which are computed.
-- Assumes nothing.
use mathlib.Core.Path.{◌≡◌, sym, ap, ◌∙◌, subst}
use mathlib.Core.Bool.{Bool, true, ◌&&◌, cond}
use mathlib.Core.List.{List, [], ◌∷◌}
use Prim.Native.Nat.{ℕ, suc, ◌+◌, ◌*◌, ◌≤◌, ◌<◌}
use native.Mathlib.Omega.{arith}
use native.Mathlib.Decide.{ℕ_discrete}
use lib.Dec.{eqb, leb, ltb}
use lib.ListN.{length}
use borrow.Author.Tests.{eqb-true, leb-true, ltb-true}
use Rattle.programs.specs.Program.{Program}
use Rattle.programs.specs.Section.{Fill}
use Rattle.layout.specs.Layout.{byte_at, sheet_mark, tag_offset, tag_count, production_offset, production_count, node_offset, node_count, program_offset, program_length, string_offset, string_length, programs_in, strings_in, start, Size, Sections}
use Rattle.layout.specs.Records.{production_at, nonterminal_of, tag_number_of, first_node_of, node_count_of, nodes_before, kind_of, argument_of, first_program_of_node, second_program_of_node}
use Rattle.sheet.specs.Tags.{tag_record, tag_bytes, TagAt}
use Rattle.sheet.specs.Productions.{ProductionFits}
use Rattle.sheet.specs.Fields.{Visits, FieldsAre, Programs}
use Rattle.sheet.specs.Grounded.{Produced}
use Rattle.sheet.specs.Sheet.{Rule, Sheet, From, RuleAt, IsSheet}
use Rattle.runs.proofs.Execute.{both_true}
use Rattle.calls.specs.Names.{same_name}

-- what holds of the numbers from i up to k, one after the other, holds of each
from_all : {A : Type 0} (P : ℕ → A → Type 0) (xs : List A) (i k : ℕ) → From P i k xs → (q : ℕ) → i ≤ q → q < k → (x : A) × P q x
from_all P [] i k e q l h = absurd (omega arith)
from_all {A} P (x ∷ xs) i k (p, r) q l h = by (λ m. from_all P xs (suc i) k r q m h) (ℕ_discrete i q)
  where
    by : (suc i ≤ q → (y : A) × P q y) → Dec (i ≡ q) → (y : A) × P q y
    by f (yes e) = (x, subst (λ (j : ℕ). P j x) e p)
    by f (no n) = f (omega arith)

from_map : {A : Type 0} (P Q : ℕ → A → Type 0) → ((i : ℕ) (x : A) → P i x → Q i x) → (xs : List A) (i k : ℕ) → From P i k xs → From Q i k xs
from_map P Q f [] i k e = e
from_map P Q f (x ∷ xs) i k (p, r) = (f i x p, from_map P Q f xs (suc i) k r)

-- tests that all pass, computed at once
abbrev all_true : List Bool → Bool
all_true [] = true
all_true (b ∷ bs) = b && all_true bs

abbrev EachTrue : List Bool → Type 0
EachTrue [] = Unit {0}
EachTrue (b ∷ bs) = (b ≡ true) × EachTrue bs

each_true : (bs : List Bool) → all_true bs ≡ true → EachTrue bs
each_true [] e = tt
each_true (b ∷ bs) e = let t = both_true b (all_true bs) e in (t.0, each_true bs t.1)

-- numbers 1 and 2
abbrev pub section_tests : List ℕ → List Bool
section_tests s =
    leb 24 (length s) ∷ leb (length s) 27928 ∷ eqb (sheet_mark s) 0x5358 ∷ eqb (tag_offset s) 0 ∷ leb 1 (tag_count s) ∷ leb (tag_count s) 64
    ∷ eqb (production_offset s) (tag_offset s + 16 * tag_count s) ∷ leb 1 (production_count s) ∷ leb (production_count s) 64
    ∷ eqb (node_offset s) (production_offset s + 12 * production_count s) ∷ leb (node_count s) 256 ∷ eqb (program_offset s) (node_offset s + 6 * node_count s)
    ∷ leb (program_length s) 16384 ∷ eqb (string_offset s) (program_offset s + program_length s) ∷ leb (string_length s) 8192
    ∷ eqb (length s) (string_offset s + string_length s + 24) ∷ []

module _ (s : List ℕ) (e : all_true (section_tests s) ≡ true) where
  tested : EachTrue (section_tests s)
  tested = each_true (section_tests s) e

  pub its_size : Size s
  its_size = record { least = leb-true _ _ tested.0; most = leb-true _ _ tested.1.0 }

  pub its_sections : Sections s
  its_sections =
      let t = tested.1.1 in
      let u = t.1.1.1.1 in
      let v = u.1.1.1.1 in
      record {
        marked = eqb-true _ _ t.0;
        tags_at_lem = eqb-true _ _ t.1.0;
        some_tags = leb-true _ _ t.1.1.0;
        few_tags = leb-true _ _ t.1.1.1.0;
        productions_at_lem = eqb-true _ _ u.0;
        some_productions = leb-true _ _ u.1.0;
        few_productions = leb-true _ _ u.1.1.0;
        nodes_at_lem = eqb-true _ _ u.1.1.1.0;
        few_nodes = leb-true _ _ v.0;
        programs_at_lem = eqb-true _ _ v.1.0;
        short_programs = leb-true _ _ v.1.1.0;
        strings_at_lem = eqb-true _ _ v.1.1.1.0;
        short_strings = leb-true _ _ v.1.1.1.1.0;
        trailer_at = eqb-true _ _ v.1.1.1.1.1.0;
      }

-- number 4, of one production
abbrev pub production_tests : List ℕ → ℕ → List Bool
production_tests s q =
    leb (nonterminal_of s q) 63 ∷ ltb (tag_number_of s q) (tag_count s) ∷ eqb (first_node_of s q) (nodes_before s q) ∷ leb (node_count_of s q) 32
    ∷ eqb (byte_at s (production_at s q + 5)) 0 ∷ eqb (byte_at s (production_at s q + 10)) 0 ∷ eqb (byte_at s (production_at s q + 11)) 0 ∷ []

its_production : (s : List ℕ) (q : ℕ) → all_true (production_tests s q) ≡ true → ProductionFits s q
its_production s q e =
    let t = each_true (production_tests s q) e in
    let u = t.1.1.1.1 in
    record {
      nonterminal = leb-true _ _ t.0;
      tag = ltb-true _ _ t.1.0;
      follows = eqb-true _ _ t.1.1.0;
      few_nodes = leb-true _ _ t.1.1.1.0;
      zero_5 = eqb-true _ _ u.0;
      zero_10 = eqb-true _ _ u.1.0;
      zero_11 = eqb-true _ _ u.1.1.0;
    }

-- the number of the first name whose record these bytes are
abbrev place_of : List (List ℕ) → List ℕ → ℕ
place_of [] b = 0
place_of (n ∷ ns) b = cond (same_name (tag_record n) b) 0 (suc (place_of ns b))

-- a tag that has its name, and has it alone
abbrev pub OwnTag : List ℕ → List (List ℕ) → ℕ → List ℕ → Type 0
OwnTag s ns t n = TagAt s t n × (place_of ns (tag_record n) ≡ t)

-- a production that fits, and is its rule
abbrev pub OwnRule : List ℕ → List Program → ℕ → Rule → Type 0
OwnRule s ps q r = (all_true (production_tests s q) ≡ true) × RuleAt s ps q r

-- a node's fields, and the production of an atom's nonterminal
abbrev pub OwnNode : List ℕ → List Program → ℕ → Visits → Type 0
OwnNode s ps i v = FieldsAre ps (first_program_of_node s i) (second_program_of_node s i) v × (kind_of s i ≡ 1 → Produced s (argument_of s i))

-- a node that is no nonterminal's
pub other : {X : Type 0} {k : ℕ} → 2 ≤ k → k ≡ 1 → X
other h e = absurd (omega arith)

pub record Laid (s : List ℕ) (a : Sheet) (ps : List Program) (of_nodes : List Visits) : Type 0 where
  pub sections : all_true (section_tests s) ≡ true
  pub tags : From (OwnTag s a.names) 0 (tag_count s) a.names
  pub rules : From (OwnRule s ps) 0 (production_count s) a.rules
  pub nodes : From (OwnNode s ps) 0 (node_count s) of_nodes
  pub every_node : nodes_before s (production_count s) ≡ node_count s
  pub fill : Fill (tag_count s) (strings_in s) (programs_in s) ps
  pub start_has : Produced s (start s)
  pub start_fits : start s ≤ 63
  pub strings_are : a.strings ≡ strings_in s
  pub start_is : a.start_nonterminal ≡ start s

module _ (s : List ℕ) (a : Sheet) (ps : List Program) (vs : List Visits) (l : Laid s a ps vs) where
  one_place : (t : ℕ) (n : List ℕ) → t < tag_count s → TagAt s t n → place_of a.names (tag_bytes s t) ≡ t
  one_place t n h k =
      let o = from_all (OwnTag s a.names) a.names 0 (tag_count s) l.tags t (omega arith) h in
      ap (place_of a.names) o.1.0.spelled ∙ o.1.1

  programs : Programs s
  programs =
      record {
        programs = ps;
        fill = l.fill;
        of_productions = λ q h. let o = from_all (OwnRule s ps) a.rules 0 (production_count s) l.rules q (omega arith) h in (o.0.own, o.1.1.own_are);
        of_nodes = λ i h. let o = from_all (OwnNode s ps) vs 0 (node_count s) l.nodes i (omega arith) h in (o.0, o.1.0);
      }

  pub laid_is_sheet : IsSheet s a
  unfolding programs
  laid_is_sheet =
      record {
        well_formed_lem =
            record {
              size = its_size s l.sections;
              sections = its_sections s l.sections;
              tags =
                  record {
                    named = λ t h. let o = from_all (OwnTag s a.names) a.names 0 (tag_count s) l.tags t (omega arith) h in (o.0, o.1.0);
                    different = λ t u n h k x y. sym (one_place t n h x) ∙ ap (place_of a.names) (x.spelled ∙ sym y.spelled) ∙ one_place u n k y;
                  };
              productions =
                  record {
                    each = λ q h. its_production s q (from_all (OwnRule s ps) a.rules 0 (production_count s) l.rules q (omega arith) h).1.0;
                    every_node = l.every_node;
                    start_fits = l.start_fits;
                  };
              trees =
                  record {
                    each = λ q h. let o = from_all (OwnRule s ps) a.rules 0 (production_count s) l.rules q (omega arith) h in (o.0.production.content, o.1.1.production_is.content_is);
                  };
              programs = programs;
              grounded =
                  record {
                    start_has = l.start_has;
                    atoms_have = λ i h k. (from_all (OwnNode s ps) vs 0 (node_count s) l.nodes i (omega arith) h).1.1 k;
                  };
            };
        names_are = from_map (OwnTag s a.names) (TagAt s) (λ t n p. p.0) a.names 0 (tag_count s) l.tags;
        rules_are = from_map (OwnRule s ps) (RuleAt s ps) (λ q r p. p.1) a.rules 0 (production_count s) l.rules;
        strings_are = l.strings_are;
        start_is = l.start_is;
      }
