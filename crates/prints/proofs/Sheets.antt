-- Bytes that keep numbers 1 to 6 are a sheet, whatever number 7 says of them. Assumes nothing.
use mathlib.Core.Path.{◌≡◌, refl}
use mathlib.Core.List.{List}
use Prim.Native.Nat.{ℕ, ◌+◌, ◌≤◌, ◌<◌}
use native.Mathlib.Omega.{arith}
use Rattle.layout.specs.Layout.{Size, Sections, tag_count, production_count, strings_in, start}
use Rattle.layout.specs.Records.{nonterminal_of, tag_number_of, first_node_of, node_count_of}
use Rattle.trees.specs.Trees.{Trees}
use Rattle.sheet.specs.Tags.{TagAt, Tags}
use Rattle.sheet.specs.Productions.{Productions}
use Rattle.sheet.specs.Fields.{Programs}
use Rattle.sheet.specs.Sheet.{Rule, NodeIs, RuleAt}
use Rattle.sheet.specs.Defect.{DefectIs, well_formed_lem, its_size, its_sections, a_tag, a_production, a_tree, a_program, not_grounded}
use Rattle.sheet.proofs.DefectLaws.{runs_inside}
use Rattle.sheet.proofs.SheetLaws.{from_there}
use Rattle.printing.specs.Printed.{PrintedAs, no_sheet}
use Rattle.prints.specs.KeepsSix.{KeepsSix}

module _ {s : List ℕ} (size : Size s) (sections : Sections s) (tags : Tags s) (productions : Productions s) (trees : Trees s) (programs : Programs s) where
  rule_there : (q : ℕ) → q < production_count s → (r : Rule) × RuleAt s programs.programs q r
  rule_there q h =
      let e = trees.each q h in
      let v = programs.of_productions q h in
      let inside = (runs_inside s productions).inside q h in
      let ns = from_there (NodeIs s programs.programs) (node_count_of s q) (first_node_of s q) (first_node_of s q + node_count_of s q) refl (λ j lo hi. programs.of_nodes j (omega (arith, hi, inside))) in (
        record { production = record { nonterm = nonterminal_of s q; tagno = tag_number_of s q; content = e.0 }; own = v.0; of_nodes = ns.0 },
        record { production_is = record { nonterminal_is = refl; tag_is = refl; content_is = e.1 }; own_are = v.1; nodes_are = ns.1 },
      )

  six : KeepsSix s
  six =
      let names = from_there (TagAt s) (tag_count s) 0 (tag_count s) (omega arith) (λ t lo hi. tags.named t hi) in
      let rules = from_there (RuleAt s programs.programs) (production_count s) 0 (production_count s) (omega arith) (λ q lo hi. rule_there q hi) in
      record {
        its_sheet = record { names = names.0; rules = rules.0; strings = strings_in s; start_nonterminal = start s };
        packed = record {
          size = size;
          sections = sections;
          tags = tags;
          productions = productions;
          trees = trees;
          programs = programs;
          names_are = names.1;
          rules_are = rules.1;
          strings_are = refl;
          start_is = refl;
        };
      }

-- by the checker's number
pub keeps_six : {s : List ℕ} {d : ℕ} → DefectIs s d → (1 ≤ d → d ≤ 6 → ⊥) → KeepsSix s
keeps_six (well_formed_lem w) f = six w.size w.sections w.tags w.productions w.trees w.programs
keeps_six (its_size n) f = absurd (f (omega arith) (omega arith))
keeps_six (its_sections a n) f = absurd (f (omega arith) (omega arith))
keeps_six (a_tag a b n) f = absurd (f (omega arith) (omega arith))
keeps_six (a_production a b c n) f = absurd (f (omega arith) (omega arith))
keeps_six (a_tree a b c d n) f = absurd (f (omega arith) (omega arith))
keeps_six (a_program a b c d e n) f = absurd (f (omega arith) (omega arith))
keeps_six (not_grounded a b c d e g n) f = six a b c d e g

pub refused : (s area : List ℕ) (d : ℕ) → DefectIs s d → (d ≡ 0 → ⊥) → (d ≡ 7 → ⊥) → PrintedAs s area d 0 area
refused s area d (well_formed_lem w) f g = absurd (f refl)
refused s area d (its_size n) f g = no_sheet (its_size n) (omega arith) (omega arith)
refused s area d (its_sections a n) f g = no_sheet (its_sections a n) (omega arith) (omega arith)
refused s area d (a_tag a b n) f g = no_sheet (a_tag a b n) (omega arith) (omega arith)
refused s area d (a_production a b c n) f g = no_sheet (a_production a b c n) (omega arith) (omega arith)
refused s area d (a_tree a b c x n) f g = no_sheet (a_tree a b c x n) (omega arith) (omega arith)
refused s area d (a_program a b c x e n) f g = no_sheet (a_program a b c x e n) (omega arith) (omega arith)
refused s area d (not_grounded a b c x e y n) f g = absurd (g refl)
