-- Numbers 4 to 7: sheets of one tag and one production, whose parts are the same but for what each number is about.
-- Assumes nothing.
use mathlib.Core.Path.{◌≡◌, refl, sym, ap, ◌∙◌, subst}
use mathlib.Core.Bool.{true, false}
use mathlib.Core.List.{List, [], ◌∷◌}
use Prim.Native.Nat.{ℕ, ◌+◌, ◌*◌, ◌≤◌, ◌<◌}
use native.Mathlib.Omega.{arith}
use lib.ListN.{get_or}
use Rattle.programs.specs.Program.{become, copy, recall, reject, print_start, print_end, print_text, echo, branch, Program, done, step}
use Rattle.programs.specs.Section.{back_to_back, AllPrograms, no_program, names}
use Rattle.expressions.specs.Expr.{nonterminal, anychar, Exp, atom, cat, alt, star, empty, Content, nothing, tree}
use Rattle.text.specs.Names.{name_first}
use Rattle.layout.specs.Layout.{tag_count, production_count, node_count, start}
use Rattle.layout.specs.Records.{nonterminal_of, nodes_before}
use Rattle.sheet.specs.Tags.{tag_record, tag_bytes, TagAt, Tags}
use Rattle.sheet.specs.Productions.{ProductionFits, Productions}
use Rattle.sheet.specs.Fields.{FieldsAre, Programs}
use Rattle.sheet.specs.Grounded.{Produced}
use Rattle.sheet.specs.Defect.{DefectIs, well_formed_lem, a_production, a_tree, a_program, not_grounded}
use Rattle.runs.specs.Visits.{no_programs_lem}
use Rattle.runs.specs.Examples.{program, first_only, child_of, name_A}
use Rattle.worked.proofs.Laid.{its_size, its_sections, other}
use Rattle.edges.specs.Edges.{starts_at, one_node, becomes}

-- tag t is the letter x
pub letter_at : (s : List ℕ) (t x : ℕ) → name_first x ≡ true → tag_bytes s t ≡ tag_record (x ∷ []) → TagAt s t (x ∷ [])
letter_at s t x h e = record { a_name = (h, tt); short = omega arith; spelled = e }

-- no programs
pub no_fields : FieldsAre [] 0xFFFF 0xFFFF no_programs_lem
no_fields = record { first_is = no_program refl; second_is = no_program refl }

-- what holds of 0 holds of each number below 1
pub only : (P : ℕ → Type 0) → P 0 → (q : ℕ) → q < 1 → P q
only P p q h = let e : 0 ≡ q = omega (arith, h) in subst P e p

module _ (s : List ℕ) where
  pub one_tag : tag_count s ≡ 1 → tag_bytes s 0 ≡ tag_record name_A → Tags s
  one_tag e b = record {
    named = λ t h. only (λ (u : ℕ). (n : List ℕ) × TagAt s u n) (name_A, letter_at s 0 97 refl b) t (omega (arith, e, h));
    different = λ t u n h k x y. omega (arith, e, h, k);
  }

  pub one_production : production_count s ≡ 1 → ProductionFits s 0 → nodes_before s (production_count s) ≡ node_count s → start s ≤ 63 → Productions s
  one_production e p n l = record { each = λ q h. only (ProductionFits s) p q (omega (arith, e, h)); every_node = n; start_fits = l }

  -- its nonterminal is the only one with a production
  one_produced : production_count s ≡ 1 → nonterminal_of s 0 ≡ 0 → (n : ℕ) → Produced s n → n ≡ 0
  one_produced e z n p = sym p.its ∙ only (λ (q : ℕ). nonterminal_of s q ≡ 0) z p.number (omega (arith, e, p.there))

-- the start is over the last nonterminal; and it is one without a production
pub start_over : (n : ℕ) → 63 < n → DefectIs (starts_at n) 4
start_over n l = let s : List ℕ = starts_at n in a_production (its_size s refl) (its_sections s refl) (one_tag s refl refl) (λ p. omega (arith, l, p.start_fits))

pub no_start : (n : ℕ) → 1 ≤ n → n ≤ 63 → DefectIs (starts_at n) 7
no_start n l m =
    let s : List ℕ = starts_at n in
    not_grounded (its_size s refl) (its_sections s refl) (one_tag s refl refl)
    (one_production s refl (record { nonterminal = omega arith; tag = omega arith; follows = refl; few_nodes = omega arith; zero_5 = refl; zero_10 = refl; zero_11 = refl }) refl (omega (arith, m)))
    (record { each = only _ (nothing, refl) })
    (record {
      programs = [];
      fill = record { programs = tt; filled = refl };
      of_productions = only _ (no_programs_lem, no_fields);
      of_nodes = λ i h. absurd (omega (arith, h));
    })
    (λ g. let e : n + 256 * 0 ≡ 0 = one_produced s refl refl (start s) g.start_has in omega (arith, e, l))

-- what is no content, case by case
no_content : {C : Content → Type 0} → (e : Content) × C e → (C nothing → ⊥) → ((n : ℕ) → C (tree (atom (nonterminal n))) → ⊥) → (C (tree (atom anychar)) → ⊥) →
    ((l r : Exp) → C (tree (cat l r)) → ⊥) → ((l r : Exp) → C (tree (alt l r)) → ⊥) → ((e : Exp) → C (tree (star e)) → ⊥) → (C (tree empty) → ⊥) → ⊥
no_content (nothing, h) f0 f1 f2 f3 f4 f5 f6 = f0 h
no_content (tree (atom (nonterminal n)), h) f0 f1 f2 f3 f4 f5 f6 = f1 n h
no_content (tree (atom anychar), h) f0 f1 f2 f3 f4 f5 f6 = f2 h
no_content (tree (cat l r), h) f0 f1 f2 f3 f4 f5 f6 = f3 l r h
no_content (tree (alt l r), h) f0 f1 f2 f3 f4 f5 f6 = f4 l r h
no_content (tree (star e), h) f0 f1 f2 f3 f4 f5 f6 = f5 e h
no_content (tree empty, h) f0 f1 f2 f3 f4 f5 f6 = f6 h

-- equal lists have the same byte at i
by_byte : {X : Type 0} (i : ℕ) {s t : List ℕ} → s ≡ t → (get_or s i 0 ≡ get_or t i 0 → X) → X
by_byte i e f = f (ap (λ (u : List ℕ). get_or u i 0) e)

-- one node, whatever its kind and its argument
module _ (k x : ℕ) where
  abbrev noded : List ℕ
  noded = one_node k x

  node_tags : Tags noded
  node_tags = one_tag noded refl refl

  node_production : Productions noded
  node_production =
      one_production noded refl (record { nonterminal = omega arith; tag = omega arith; follows = refl; few_nodes = omega arith; zero_5 = refl; zero_10 = refl; zero_11 = refl }) refl (omega arith)

  node_programs : Programs noded
  node_programs =
      record {
        programs = [];
        fill = record { programs = tt; filled = refl };
        of_productions = only _ (no_programs_lem, no_fields);
        of_nodes = only _ (no_programs_lem, no_fields);
      }

  -- a kind that is none, or a nonterminal that is none
  pub no_node : (k ≡ 1 → 63 < x) → ((c : ℕ) → 2 ≤ c → c ≤ 6 → k ≡ c → ⊥) → DefectIs noded 5
  no_node one others =
      a_tree (its_size noded refl) (its_sections noded refl) node_tags node_production
      (λ t. no_content (t.each 0 (omega arith)) (λ h. omega (arith, h)) (λ n h. omega (arith, one h.0.0, h.0.1, h.0.2)) (λ h. others 2 (omega arith) (omega arith) h.0.0)
      (λ l r h. others 3 (omega arith) (omega arith) h.0.0) (λ l r h. others 4 (omega arith) (omega arith) h.0.0) (λ e h. others 5 (omega arith) (omega arith) h.0.0) (λ h. others 6 (omega arith) (omega arith) h.0.0))

-- the node is empty; and it is the production's own nonterminal
pub empty_is : DefectIs (one_node 6 0) 0
empty_is =
    let s : List ℕ = one_node 6 0 in
    well_formed_lem (record {
      size = its_size s refl;
      sections = its_sections s refl;
      tags = node_tags 6 0;
      productions = node_production 6 0;
      trees = record { each = only _ (tree empty, ((refl, refl), refl, omega arith)) };
      programs = node_programs 6 0;
      grounded = record { start_has = record { number = 0; there = omega arith; its = refl }; atoms_have = only _ (λ e. other (omega arith) e) };
    })

pub atom_grounded : DefectIs (one_node 1 0) 0
atom_grounded =
    let s : List ℕ = one_node 1 0 in
    well_formed_lem (record {
      size = its_size s refl;
      sections = its_sections s refl;
      tags = node_tags 1 0;
      productions = node_production 1 0;
      trees = record { each = only _ (tree (child_of 0), ((refl, refl, omega arith), refl, omega arith)) };
      programs = node_programs 1 0;
      grounded =
          record {
            start_has = record { number = 0; there = omega arith; its = refl };
            atoms_have = only _ (λ e. record { number = 0; there = omega arith; its = refl });
          };
    })

-- it is another
pub atom_not_grounded : (n : ℕ) → 1 ≤ n → n ≤ 63 → DefectIs (one_node 1 n) 7
atom_not_grounded n l m =
    let s : List ℕ = one_node 1 n in
    not_grounded (its_size s refl) (its_sections s refl) (node_tags 1 n) (node_production 1 n) (record { each = only _ (tree (child_of n), ((refl, refl, m), refl, omega arith)) }) (node_programs 1 n)
    (λ g. let e : n ≡ 0 = one_produced s refl refl n (g.atoms_have 0 (omega arith) refl) in omega (arith, e, l))

-- one program, whatever its value
module _ (v : ℕ) where
  abbrev valued : List ℕ
  valued = becomes v

  abbrev its_program : Program
  its_program = program (become 0 v ∷ [])

  value_tags : Tags valued
  value_tags = one_tag valued refl refl

  value_production : Productions valued
  value_production =
      one_production valued refl (record { nonterminal = omega arith; tag = omega arith; follows = refl; few_nodes = omega arith; zero_5 = refl; zero_10 = refl; zero_11 = refl }) refl (omega arith)

  value_fields : FieldsAre (its_program ∷ []) 0 0xFFFF (first_only (become 0 v ∷ []))
  value_fields =
      record { first_is = names (λ e. omega (arith, e)) its_program (record { before = []; after = []; are = refl; offset = refl }) refl; second_is = no_program refl }

  pub value_is : v ≤ 63 → DefectIs valued 0
  value_is l =
      well_formed_lem (record {
        size = its_size valued refl;
        sections = its_sections valued refl;
        tags = value_tags;
        productions = value_production;
        trees = record { each = only _ (nothing, refl) };
        programs =
            record {
              programs = its_program ∷ [];
              fill = record { programs = (record { short = omega arith; shallow = omega arith; fits = ((omega arith, l), tt) }, tt); filled = refl };
              of_productions = only _ (first_only (become 0 v ∷ []), value_fields);
              of_nodes = λ i h. absurd (omega (arith, h));
            };
        grounded = record { start_has = record { number = 0; there = omega arith; its = refl }; atoms_have = λ i h e. absurd (omega (arith, h)) };
      })

  -- the section's first byte is 1, so its first statement gives a value, its third
  value_fits : (ps : List Program) → AllPrograms 1 [] ps → (1 ∷ 0 ∷ v ∷ 0 ∷ []) ≡ back_to_back ps → v ≤ 63
  value_fits [] h e = by_byte 0 e (λ q. omega (arith, q))
  value_fits (done ∷ ps) h e = by_byte 0 e (λ q. omega (arith, q))
  value_fits (step (become a w) p ∷ ps) h e = by_byte 2 e (λ q. omega (arith, q, h.0.fits.0.1))
  value_fits (step (copy a b) p ∷ ps) h e = by_byte 0 e (λ q. omega (arith, q))
  value_fits (step (recall a b) p ∷ ps) h e = by_byte 0 e (λ q. omega (arith, q))
  value_fits (step reject p ∷ ps) h e = by_byte 0 e (λ q. omega (arith, q))
  value_fits (step (print_start t) p ∷ ps) h e = by_byte 0 e (λ q. omega (arith, q))
  value_fits (step (print_end t) p ∷ ps) h e = by_byte 0 e (λ q. omega (arith, q))
  value_fits (step (print_text o n) p ∷ ps) h e = by_byte 0 e (λ q. omega (arith, q))
  value_fits (step (echo true) p ∷ ps) h e = by_byte 0 e (λ q. omega (arith, q))
  value_fits (step (echo false) p ∷ ps) h e = by_byte 0 e (λ q. omega (arith, q))
  value_fits (step (branch c l m) p ∷ ps) h e = by_byte 0 e (λ q. omega (arith, q))

  pub no_value : 63 < v → DefectIs valued 6
  no_value l =
      a_program (its_size valued refl) (its_sections valued refl) value_tags value_production (record { each = only _ (nothing, refl) })
      (λ p. omega (arith, l, value_fits p.programs p.fill.programs p.fill.filled))
