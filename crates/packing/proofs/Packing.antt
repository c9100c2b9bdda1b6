-- The bytes of a rule text's sheet are that sheet, and keep numbers 1 to 6. Assumes nothing.
use mathlib.Core.Path.{◌≡◌, refl, sym, ◌∙◌, ap, ap₂, subst}
use mathlib.Core.Logic.{◌⊎◌, inl, inr}
use mathlib.Core.Bool.{Bool, true, false}
use mathlib.Core.List.{List, [], ◌∷◌, ◌++◌, append-nil}
use mathlib.Core.Option.{Option, none, some}
use Prim.Native.Nat.{ℕ, zero, suc, ◌+◌, ◌-◌, ◌*◌, ◌≤◌, ◌<◌}
use native.Mathlib.Omega.{arith}
use native.Mathlib.Decide.{ℕ_discrete}
use lib.ListN.{length, take, drop, replicate, length-append, length-replicate}
use Rattle.programs.specs.Limits.{first, second}
use Rattle.programs.specs.Section.{AllPrograms, Fill}
use Rattle.layout.specs.Layout.{Size, Sections, tag_offset, tag_count, production_offset, production_count, node_offset, node_count, program_offset, program_length, string_offset, string_length, start, sheet_mark, trailer_word, programs_in, strings_in}
use Rattle.layout.specs.Records.{nodes_before}
use Rattle.trees.specs.Trees.{Trees}
use Rattle.sheet.specs.Tags.{tag_record, TagAt, Tags}
use Rattle.sheet.specs.Productions.{Productions}
use Rattle.sheet.specs.Fields.{Programs}
use Rattle.sheet.specs.Grounded.{Grounded}
use Rattle.sheet.specs.Defect.{DefectIs, well_formed_lem, its_size, its_sections, a_tag, a_production, a_tree, a_program, not_grounded}
use Rattle.sheet.specs.Sheet.{Rule, Sheet, From, NodeIs, RuleAt, IsSheet}
use Rattle.sheet.proofs.SheetLaws.{one_name}
use Rattle.notation.specs.Rules.{TextVisits, Tree, node, Form, atom, cat, alt, star, empty, visits, visits_of, visits_inside, TextRule, Rules}
use Rattle.notation.specs.Limits.{nodes_in_all}
use Rattle.notation.specs.Tokens.{TextToken, TagName}
use Rattle.notation.specs.Productions.{ProductionsAre, one, more, RulesAre, start_alone, start_first}
use Rattle.notation.specs.RuleText.{RuleText}
use Rattle.encoding.specs.Mentions.{in_braces, in_tree, in_form, in_content, in_rule, in_rules}
use Rattle.encoding.specs.Distinct.{equal, has, AllDifferent, run_together}
use Rattle.encoding.specs.Encoded.{tags_stored, strings_stored, programs_stored, Room, each, rules_of, sheet_of}
use Rattle.encoding.specs.Keeps.{AllNames, AllKeep, RuleKeeps, EachKeeps, SheetKeeps}
use Rattle.encoding.specs.Sound.{AllSound}
use Rattle.encoding.proofs.Sound.{rules_sound}
use Rattle.encoding.proofs.Stored.{equal_same, or_left, or_right}
use Rattle.encoding.proofs.Sheets.{sheets_keep}
use Rattle.packing.specs.Packed.{nodes_section, productions_section, tags_section, trailer_of, sheet_bytes}
use Rattle.packing.specs.Packs.{Packs}
use Rattle.packing.specs.Promises.{PacksSheets, NoneOfSix, IsItsSheet}
use Rattle.packing.proofs.Here.{Here, here_word, two_bytes, here_front, here_behind, here_cut, here_at}
use Rattle.packing.proofs.Store.{stored_programs, stored_fill, holds_all, Good, good_append, good_braces, good_stored}
use Rattle.packing.proofs.Nodes.{keep_front, keep_back, from_to}
use Rattle.packing.proofs.Productions.{productions_length, nodes_length, Laid, all_visits, ProductionsFrom, rules_at}

-- each program that is mentioned is one
module _ (r : Rules) where
  mutual
    good_tree : (e : Tree) → AllKeep (sheet_of r) (each r (visits e)) → Good r (in_tree e)
    good_tree (node f g k) h = good_append r (in_braces f) (in_form k ++ in_braces g) (good_braces r first f h.0.0) (good_append r (in_form k) (in_braces g) (good_form k h.1) (good_braces r second g h.0.1))

    good_form : (k : Form) → AllKeep (sheet_of r) (each r (visits_of k)) → Good r (in_form k)
    good_form (atom a) h = tt
    good_form (cat l m) h = good_append r (in_tree l) (in_tree m) (good_tree l (keep_front r (visits l) (visits m) h)) (good_tree m (keep_back r (visits l) (visits m) h))
    good_form (alt l m) h = good_append r (in_tree l) (in_tree m) (good_tree l (keep_front r (visits l) (visits m) h)) (good_tree m (keep_back r (visits l) (visits m) h))
    good_form (star e) h = good_tree e h
    good_form empty h = tt

  good_content : (o : Option Tree) → AllKeep (sheet_of r) (each r (visits_inside o)) → Good r (in_content o)
  good_content none h = tt
  good_content (some e) h = good_tree e h

  good_rules : (ds : List TextRule) → EachKeeps (sheet_of r) (rules_of r ds) → Good r (in_rules ds)
  good_rules [] h = tt
  good_rules (d ∷ ds) h =
      good_append r (in_rule d) (in_rules ds)
      (good_append r (in_braces d.own.first_visit) _ (good_braces r first d.own.first_visit h.0.own.0)
      (good_append r (in_content d.inside) (in_braces d.own.second_visit) (good_content d.inside h.0.nodes) (good_braces r second d.own.second_visit h.0.own.1)))
      (good_rules ds h.1)

-- one of the things that are said of numbers
from_get : {A : Type 0} (P : ℕ → A → Type 0) (i k : ℕ) (xs : List A) → From P i k xs → (q : ℕ) → i ≤ q → q < k → (x : A) × P q x
from_get P i k [] h q lo hi = absurd (omega arith)
from_get {A} P i k (x ∷ xs) h q lo hi = on (λ l. from_get P (suc i) k xs h.1 q l hi) (ℕ_discrete i q)
  where
    on : (suc i ≤ q → (x : A) × P q x) → Dec (i ≡ q) → (x : A) × P q x
    on ih (yes e) = (x, subst (λ n. P n x) e h.0)
    on ih (no n) = ih (omega arith)

from_map : {A : Type 0} (P Q : ℕ → A → Type 0) → ((q : ℕ) (x : A) → P q x → Q q x) → (i k : ℕ) (xs : List A) → From P i k xs → From Q i k xs
from_map P Q f i k [] h = h
from_map P Q f i k (x ∷ xs) h = (f i x h.0, from_map P Q f (suc i) k xs h.1)

-- tags
record_length : (n : List ℕ) → length n ≤ 15 → length (tag_record n) ≡ 16
record_length n h = simp (length-append, length-replicate) (omega arith)

tags_length : (ns : List (List ℕ)) → AllNames ns → length (tags_section ns) ≡ 16 * length ns
tags_length [] h = refl
tags_length (n ∷ ns) h = length-append (tag_record n) (tags_section ns) ∙ omega (arith, record_length n h.0.short, tags_length ns h.1)

from_zero : (o n : ℕ) → o ≡ 0 → o + n ≡ n
from_zero o n e = omega arith

sixteen_more : (t : ℕ) → 16 * t + 16 ≡ 16 * suc t
sixteen_more t = omega arith

tags_at_lem : (s : List ℕ) → tag_offset s ≡ 0 → (t : ℕ) (ns : List (List ℕ)) → AllNames ns → Here s (16 * t) (tags_section ns) → From (TagAt s) t (t + length ns) ns
tags_at_lem s z t [] h l = omega arith
tags_at_lem s z t (n ∷ ns) h l = (
  record {
    a_name = h.0.a_name;
    short = h.0.short;
    spelled = ap (λ k. take 16 (drop k s)) (from_zero (tag_offset s) (16 * t) z) ∙ here_cut s (16 * t) 16 (tag_record n) (record_length n h.0.short) (here_front s (16 * t) (tag_record n) (tags_section ns) l);
  },
  from_to (TagAt s) (suc t) (suc t + length ns) (t + suc (length ns)) ns (omega arith) (tags_at_lem s z (suc t) ns h.1
      (here_at s (16 * t + 16) (16 * suc t) (tags_section ns) (sixteen_more t) (here_behind s (16 * t) 16 (tag_record n) (tags_section ns) (record_length n h.0.short) l))),
)

from_has : (s : List ℕ) (i k : ℕ) (ns : List (List ℕ)) → From (TagAt s) i k ns → (u : ℕ) (n : List ℕ) → i ≤ u → u < k → TagAt s u n → has ns n ≡ true
from_has s i k [] h u n lo hi a = absurd (omega arith)
from_has s i k (x ∷ ns) h u n lo hi a = on (λ l. from_has s (suc i) k ns h.1 u n l hi a) (ℕ_discrete i u)
  where
    on : (suc i ≤ u → has ns n ≡ true) → Dec (i ≡ u) → has (x ∷ ns) n ≡ true
    on ih (yes e) = let same : x ≡ n = one_name s i x n h.0 (subst (λ j. TagAt s j n) (sym e) a) in or_left (equal n x) (has ns n) (subst (λ y. equal n y ≡ true) (sym same) (equal_same n))
    on ih (no e) = or_right (equal n x) (has ns n) (ih (omega arith))

all_different : (s : List ℕ) (i k : ℕ) (ns : List (List ℕ)) → From (TagAt s) i k ns → AllDifferent ns → (t u : ℕ) (n : List ℕ) → i ≤ t → t < u → u < k → TagAt s t n → TagAt s u n → ⊥
all_different s i k [] h d t u n lo lt hi a b = omega arith
all_different s i k (x ∷ ns) h d t u n lo lt hi a b = on (λ l. all_different s (suc i) k ns h.1 d.1 t u n l lt hi a b) (ℕ_discrete i t)
  where
    on : (suc i ≤ t → ⊥) → Dec (i ≡ t) → ⊥
    on ih (yes e) =
        let same : x ≡ n = one_name s i x n h.0 (subst (λ j. TagAt s j n) (sym e) a) in
        let f = from_has s (suc i) k ns h.1 u n (omega arith) hi b in
        let g = subst (λ y. has ns y ≡ false) same d.0 in
        let z : ◌≡◌ {A = ℕ} 0 1 = cc in omega arith
    on ih (no e) = ih (omega arith)

tags_are : (s : List ℕ) (ns : List (List ℕ)) → From (TagAt s) 0 (tag_count s) ns → AllDifferent ns → Tags s
tags_are s ns h d = record {
  named = λ t l. from_get (TagAt s) 0 (tag_count s) ns h t (omega arith) l;
  different = λ t u n lt lu a b.
      let below : t < u → ⊥ = λ l. all_different s 0 (tag_count s) ns h d t u n (omega arith) l lu a b in
      let above : u < t → ⊥ = λ l. all_different s 0 (tag_count s) ns h d u t n (omega arith) l lt b a in
      omega arith;
}

-- where each section lies
module _ (r : Rules) (room : Room r) (keeps : SheetKeeps (sheet_of r)) (sound : AllSound r.productions) (s : List ℕ)
    (is : s ≡ tags_section (tags_stored r) ++ (productions_section r 0 r.productions ++ (nodes_section r r.productions ++ (run_together (programs_stored r) ++ (run_together (strings_stored r) ++ trailer_of r))))) where
  tags_there : Here s 0 (tags_section (tags_stored r) ++ (productions_section r 0 r.productions ++ (nodes_section r r.productions ++ (run_together (programs_stored r) ++ (run_together (strings_stored r) ++ trailer_of r)))))
  tags_there = record { front = []; back = []; are = is ∙ sym (append-nil (tags_section (tags_stored r) ++ (productions_section r 0 r.productions ++ (nodes_section r r.productions ++ (run_together (programs_stored r) ++ (run_together (strings_stored r) ++ trailer_of r)))))); placed = refl }

  productions_there : Here s (16 * length (tags_stored r)) (productions_section r 0 r.productions ++ (nodes_section r r.productions ++ (run_together (programs_stored r) ++ (run_together (strings_stored r) ++ trailer_of r))))
  productions_there = here_at s (0 + 16 * length (tags_stored r)) (16 * length (tags_stored r)) (productions_section r 0 r.productions ++ (nodes_section r r.productions ++ (run_together (programs_stored r) ++ (run_together (strings_stored r) ++ trailer_of r)))) (from_zero 0 (16 * length (tags_stored r)) refl) (here_behind s 0 (16 * length (tags_stored r)) (tags_section (tags_stored r)) (productions_section r 0 r.productions ++ (nodes_section r r.productions ++ (run_together (programs_stored r) ++ (run_together (strings_stored r) ++ trailer_of r)))) (tags_length (tags_stored r) keeps.names) tags_there)

  nodes_there : Here s (16 * length (tags_stored r) + 12 * length r.productions) (nodes_section r r.productions ++ (run_together (programs_stored r) ++ (run_together (strings_stored r) ++ trailer_of r)))
  nodes_there = here_behind s (16 * length (tags_stored r)) (12 * length r.productions) (productions_section r 0 r.productions) (nodes_section r r.productions ++ (run_together (programs_stored r) ++ (run_together (strings_stored r) ++ trailer_of r))) (productions_length r 0 r.productions) productions_there

  programs_there : Here s (16 * length (tags_stored r) + 12 * length r.productions + 6 * nodes_in_all r.productions) (run_together (programs_stored r) ++ (run_together (strings_stored r) ++ trailer_of r))
  programs_there = here_behind s (16 * length (tags_stored r) + 12 * length r.productions) (6 * nodes_in_all r.productions) (nodes_section r r.productions) (run_together (programs_stored r) ++ (run_together (strings_stored r) ++ trailer_of r)) (nodes_length r r.productions) nodes_there

  strings_there : Here s (16 * length (tags_stored r) + 12 * length r.productions + 6 * nodes_in_all r.productions + length (run_together (programs_stored r))) (run_together (strings_stored r) ++ trailer_of r)
  strings_there = here_behind s (16 * length (tags_stored r) + 12 * length r.productions + 6 * nodes_in_all r.productions) (length (run_together (programs_stored r))) (run_together (programs_stored r)) (run_together (strings_stored r) ++ trailer_of r) refl programs_there

  trailer_there : Here s (16 * length (tags_stored r) + 12 * length r.productions + 6 * nodes_in_all r.productions + length (run_together (programs_stored r)) + length (run_together (strings_stored r))) (trailer_of r)
  trailer_there = here_behind s (16 * length (tags_stored r) + 12 * length r.productions + 6 * nodes_in_all r.productions + length (run_together (programs_stored r))) (length (run_together (strings_stored r))) (run_together (strings_stored r)) (trailer_of r) refl strings_there

  counted : length s ≡ 16 * length (tags_stored r) + 12 * length r.productions + 6 * nodes_in_all r.productions + length (run_together (programs_stored r)) + length (run_together (strings_stored r)) + 24
  counted = ap length is ∙ simp length-append (omega (arith, tags_length (tags_stored r) keeps.names, productions_length r 0 r.productions, nodes_length r r.productions))

  trailer_at : Here s (length s - 24) (trailer_of r)
  trailer_at = here_at s (16 * length (tags_stored r) + 12 * length r.productions + 6 * nodes_in_all r.productions + length (run_together (programs_stored r)) + length (run_together (strings_stored r))) (length s - 24) (trailer_of r) (omega (arith, counted)) trailer_there

  tag_offset_is : tag_offset s ≡ 0
  tag_offset_is = here_word s (length s - 24) (trailer_of r) trailer_at 0 (omega arith) ∙ two_bytes (0)

  tag_count_is : tag_count s ≡ length (tags_stored r)
  tag_count_is = here_word s (length s - 24) (trailer_of r) trailer_at 2 (omega arith) ∙ two_bytes (length (tags_stored r))

  production_offset_is : production_offset s ≡ 16 * length (tags_stored r)
  production_offset_is = here_word s (length s - 24) (trailer_of r) trailer_at 4 (omega arith) ∙ two_bytes (16 * length (tags_stored r))

  production_count_is : production_count s ≡ length r.productions
  production_count_is = here_word s (length s - 24) (trailer_of r) trailer_at 6 (omega arith) ∙ two_bytes (length r.productions)

  node_offset_is : node_offset s ≡ 16 * length (tags_stored r) + 12 * length r.productions
  node_offset_is = here_word s (length s - 24) (trailer_of r) trailer_at 8 (omega arith) ∙ two_bytes (16 * length (tags_stored r) + 12 * length r.productions)

  node_count_is : node_count s ≡ nodes_in_all r.productions
  node_count_is = here_word s (length s - 24) (trailer_of r) trailer_at 10 (omega arith) ∙ two_bytes (nodes_in_all r.productions)

  program_offset_is : program_offset s ≡ 16 * length (tags_stored r) + 12 * length r.productions + 6 * nodes_in_all r.productions
  program_offset_is = here_word s (length s - 24) (trailer_of r) trailer_at 12 (omega arith) ∙ two_bytes (16 * length (tags_stored r) + 12 * length r.productions + 6 * nodes_in_all r.productions)

  program_length_is : program_length s ≡ length (run_together (programs_stored r))
  program_length_is = here_word s (length s - 24) (trailer_of r) trailer_at 14 (omega arith) ∙ two_bytes (length (run_together (programs_stored r)))

  string_offset_is : string_offset s ≡ 16 * length (tags_stored r) + 12 * length r.productions + 6 * nodes_in_all r.productions + length (run_together (programs_stored r))
  string_offset_is = here_word s (length s - 24) (trailer_of r) trailer_at 16 (omega arith) ∙ two_bytes (16 * length (tags_stored r) + 12 * length r.productions + 6 * nodes_in_all r.productions + length (run_together (programs_stored r)))

  string_length_is : string_length s ≡ length (run_together (strings_stored r))
  string_length_is = here_word s (length s - 24) (trailer_of r) trailer_at 18 (omega arith) ∙ two_bytes (length (run_together (strings_stored r)))

  start_is : start s ≡ r.start
  start_is = here_word s (length s - 24) (trailer_of r) trailer_at 20 (omega arith) ∙ two_bytes r.start

  mark_is : sheet_mark s ≡ 0x5358
  mark_is = here_word s (length s - 24) (trailer_of r) trailer_at 22 (omega arith) ∙ two_bytes (0x5358)

  all_laid : From (Laid s r) 0 (0 + length r.productions) (rules_of r r.productions) × (nodes_before s (0 + length r.productions) ≡ 0 + nodes_in_all r.productions) × From (NodeIs s (stored_programs r)) 0 (0 + nodes_in_all r.productions) (all_visits r r.productions)
  all_laid =
      rules_at r room s tag_count_is 0 0 r.productions
      (here_at s (16 * length (tags_stored r)) (production_offset s + 12 * 0) (productions_section r 0 r.productions) (omega (arith, production_offset_is)) (here_front s (16 * length (tags_stored r)) (productions_section r 0 r.productions) _ productions_there))
      (here_at s (16 * length (tags_stored r) + 12 * length r.productions) (node_offset s + 6 * 0) (nodes_section r r.productions) (omega (arith, node_offset_is)) (here_front s (16 * length (tags_stored r) + 12 * length r.productions) (nodes_section r r.productions) _ nodes_there))
      refl sound keeps.rules (holds_all r)

  laid : From (Laid s r) 0 (production_count s) (rules_of r r.productions)
  laid = from_to (Laid s r) 0 (0 + length r.productions) (production_count s) (rules_of r r.productions) (omega (arith, production_count_is)) all_laid.0

  noded : From (NodeIs s (stored_programs r)) 0 (node_count s) (all_visits r r.productions)
  noded = from_to (NodeIs s (stored_programs r)) 0 (0 + nodes_in_all r.productions) (node_count s) (all_visits r r.productions) (omega (arith, node_count_is)) all_laid.2

  strings_are : run_together (strings_stored r) ≡ strings_in s
  strings_are =
      sym (ap₂ (λ n o. take n (drop o s)) string_length_is string_offset_is
      ∙ here_cut s (16 * length (tags_stored r) + 12 * length r.productions + 6 * nodes_in_all r.productions + length (run_together (programs_stored r))) (length (run_together (strings_stored r))) (run_together (strings_stored r)) refl (here_front s _ (run_together (strings_stored r)) (trailer_of r) strings_there))

  programs_fill : programs_in s ≡ run_together (programs_stored r)
  programs_fill =
      ap₂ (λ n o. take n (drop o s)) program_length_is program_offset_is
      ∙ here_cut s (16 * length (tags_stored r) + 12 * length r.productions + 6 * nodes_in_all r.productions) (length (run_together (programs_stored r))) (run_together (programs_stored r)) refl (here_front s _ (run_together (programs_stored r)) (run_together (strings_stored r) ++ trailer_of r) programs_there)

  named : From (TagAt s) 0 (tag_count s) (tags_stored r)
  named = from_to (TagAt s) 0 (0 + length (tags_stored r)) (tag_count s) (tags_stored r) (omega (arith, tag_count_is)) (tags_at_lem s tag_offset_is 0 (tags_stored r) keeps.names (here_front s 0 (tags_section (tags_stored r)) _ tags_there))

  its_programs : Programs s
  its_programs = record {
    programs = stored_programs r;
    fill = record { programs = rw (tag_count_is, sym strings_are) (good_stored r (good_rules r r.productions keeps.rules)); filled = programs_fill ∙ sym (stored_fill r) };
    of_productions = λ q l. let d = from_get (Laid s r) 0 (production_count s) (rules_of r r.productions) laid q (omega arith) l in (d.0.own, d.1.is.own_are);
    of_nodes = λ i l. from_get (NodeIs s (stored_programs r)) 0 (node_count s) (all_visits r r.productions) noded i (omega arith) l;
  }

  packs : 1 ≤ length r.productions → length r.productions ≤ 64 → nodes_in_all r.productions ≤ 256 → 1 ≤ length (tags_stored r) → r.start < 64 → Packs s (sheet_of r)
  unfolding its_programs
  packs some_rules few_rules few_nodes some_tags start_small = record {
    size = record { least = omega (arith, counted); most = omega (arith, counted, room.few_tags, room.short_programs, room.short_strings) };
    sections = record {
      marked = mark_is;
      tags_at_lem = tag_offset_is;
      some_tags = omega (arith, tag_count_is);
      few_tags = omega (arith, tag_count_is, room.few_tags);
      productions_at_lem = omega (arith, production_offset_is, tag_offset_is, tag_count_is);
      some_productions = omega (arith, production_count_is);
      few_productions = omega (arith, production_count_is);
      nodes_at_lem = omega (arith, node_offset_is, production_offset_is, production_count_is);
      few_nodes = omega (arith, node_count_is);
      programs_at_lem = omega (arith, program_offset_is, node_offset_is, node_count_is);
      short_programs = omega (arith, program_length_is, room.short_programs);
      strings_at_lem = omega (arith, string_offset_is, program_offset_is, program_length_is);
      short_strings = omega (arith, string_length_is, room.short_strings);
      trailer_at = omega (arith, counted, string_offset_is, string_length_is);
    };
    tags = tags_are s (tags_stored r) named keeps.different;
    productions = record {
      each = λ q l. (from_get (Laid s r) 0 (production_count s) (rules_of r r.productions) laid q (omega arith) l).1.fits;
      every_node = ap (nodes_before s) (production_count_is ∙ sym (from_zero 0 (length r.productions) refl)) ∙ all_laid.1 ∙ from_zero 0 (nodes_in_all r.productions) refl ∙ sym node_count_is;
      start_fits = omega (arith, start_is);
    };
    trees = record { each = λ q l. let d = from_get (Laid s r) 0 (production_count s) (rules_of r r.productions) laid q (omega arith) l in (d.0.production.content, d.1.is.production_is.content_is) };
    programs = its_programs;
    names_are = named;
    rules_are = from_map (Laid s r) (RuleAt s (stored_programs r)) (λ q x h. h.is) 0 (production_count s) (rules_of r r.productions) laid;
    strings_are = strings_are;
    start_is = sym start_is;
  }

-- a text has a production
some_productions : {ts : List TextToken} {rs : List TextRule} → ProductionsAre ts rs → 1 ≤ length rs
some_productions (one p) = omega arith
some_productions (more p ps) = omega arith

some_rules : {ts : List TextToken} {r : Rules} → RulesAre ts r → 1 ≤ length r.productions
some_rules (start_alone i ps) = some_productions ps
some_rules (start_first ps) = some_productions ps

-- so it has a tag
some_tags : (r : Rules) (ds : List TextRule) → 1 ≤ length ds → EachKeeps (sheet_of r) (rules_of r ds) → 1 ≤ length (tags_stored r)
some_tags r [] l h = absurd (omega arith)
some_tags r (d ∷ ds) l h = omega (arith, h.0.tag)

pub packs_sheets : PacksSheets
unfolding sheet_bytes
packs_sheets text r t room =
    let keeps = sheets_keep text r t in
    let sound = rules_sound t.grammatical in
    let l = some_rules t.grammatical in
    packs r room keeps sound.1 (sheet_bytes r) refl l t.within.few_productions t.within.few_nodes (some_tags r r.productions l keeps.rules) sound.0

pub none_of_six : NoneOfSix
none_of_six text r d t room h = on d (packs_sheets text r t room) h
  where
    on : (d : ℕ) → Packs (sheet_bytes r) (sheet_of r) → DefectIs (sheet_bytes r) d → (d ≡ 0) ⊎ (d ≡ 7)
    on d p (well_formed_lem w) = inl refl
    on d p (its_size n) = absurd (n p.size)
    on d p (its_sections a n) = absurd (n p.sections)
    on d p (a_tag a b n) = absurd (n p.tags)
    on d p (a_production a b c n) = absurd (n p.productions)
    on d p (a_tree a b c e n) = absurd (n p.trees)
    on d p (a_program a b c e f n) = absurd (n p.programs)
    on d p (not_grounded a b c e f g n) = inr refl

pub is_its_sheet : IsItsSheet
is_its_sheet text r t room g =
    let p = packs_sheets text r t room in
    record {
      well_formed_lem = record { size = p.size; sections = p.sections; tags = p.tags; productions = p.productions; trees = p.trees; programs = p.programs; grounded = g };
      names_are = p.names_are;
      rules_are = p.rules_are;
      strings_are = p.strings_are;
      start_is = p.start_is;
    }
