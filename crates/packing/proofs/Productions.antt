-- The productions of a sheet of rules, where their section lies. Assumes nothing.
use mathlib.Core.Path.{◌≡◌, refl, sym, ◌∙◌, ap, ap₂, subst}
use mathlib.Core.List.{List, [], ◌∷◌, ◌++◌}
use mathlib.Core.Option.{Option, none, some}
use Prim.Native.Nat.{ℕ, zero, suc, ◌+◌, ◌*◌, ◌≤◌, ◌<◌}
use native.Mathlib.Omega.{arith}
use lib.ListN.{length, length-append}
use Rattle.expressions.specs.Expr.{nodes, nodes_of}
use Rattle.expressions.specs.Grammar.{nonterminals}
use Rattle.programs.specs.Limits.{first, second}
use Rattle.programs.specs.Section.{FieldIs}
use Rattle.layout.specs.Layout.{tag_count, production_offset}
use Rattle.layout.specs.Records.{first_node_of, node_count_of, nodes_before, first_program_of, second_program_of}
use Rattle.trees.specs.Trees.{ContentAt}
use Rattle.sheet.specs.Fields.{Visits, FieldsAre}
use Rattle.sheet.specs.Productions.{ProductionFits}
use Rattle.sheet.specs.Sheet.{Rule, From, NodeIs, RuleAt}
use Rattle.notation.specs.Rules.{TextVisits, Tree, expression, content_inside, visits_inside, TextRule, Rules}
use Rattle.notation.specs.Limits.{content_depth, nodes_in_all}
use Rattle.encoding.specs.Mentions.{a_tag, in_braces, in_tree, in_content, in_rule, in_rules}
use Rattle.encoding.specs.Encoded.{tags_stored, Room, maybe, both_of, each, rule_of, rules_of, sheet_of}
use Rattle.encoding.specs.Keeps.{AllKeep, RuleKeeps, EachKeeps}
use Rattle.encoding.specs.Sound.{SoundContent, SoundRule, AllSound}
use Rattle.packing.specs.Packed.{field, content_bytes, nodes_section, nodes_of_rule, production_record, productions_section}
use Rattle.packing.proofs.Here.{Here, here_byte, here_word, two_bytes, here_front, here_behind, here_at}
use Rattle.packing.proofs.Store.{stored_programs, Holds, holds_front, holds_back, field_is}
use Rattle.packing.proofs.Nodes.{from_append, from_to, content_length, NodesFrom, nodes_behind, tree_at}

-- twelve bytes for each
pub productions_length : (r : Rules) (k : ℕ) (ds : List TextRule) → length (productions_section r k ds) ≡ 12 * length ds
productions_length r k [] = refl
productions_length r k (d ∷ ds) = omega (arith, productions_length r (k + nodes_of_rule d) ds)

pub nodes_length : (r : Rules) (ds : List TextRule) → length (nodes_section r ds) ≡ 6 * nodes_in_all ds
nodes_length r [] = refl
nodes_length r (d ∷ ds) = simp length-append (omega (arith, content_length r d.inside, nodes_length r ds))

-- a production, and what number 4 asks of it
pub record Laid (s : List ℕ) (r : Rules) (q : ℕ) (d : Rule) : Type 0 where
  pub is : RuleAt s (stored_programs r) q d
  pub fits : ProductionFits s q

-- the visits of all nodes
abbrev pub all_visits : Rules → List TextRule → List Visits
all_visits r [] = []
all_visits r (d ∷ ds) = each r (visits_inside d.inside) ++ all_visits r ds

none_more : (n : ℕ) → n + 0 ≡ n
none_more n = omega arith

twelve_more : (o q : ℕ) → o + 12 * q + 12 ≡ o + 12 * suc q
twelve_more o q = omega arith

module _ (r : Rules) (room : Room r) (s : List ℕ) (tags : tag_count s ≡ length (tags_stored r)) where
  abbrev pub ProductionsFrom : ℕ → List ℕ → Type 0
  ProductionsFrom q l = Here s (production_offset s + 12 * q) l

  -- the expression of a production and its nodes' programs
  content_at : (q k : ℕ) (o : Option Tree) → NodesFrom r room s k (content_bytes r o) → SoundContent o → AllKeep (sheet_of r) (each r (visits_inside o)) → Holds r (in_content o) → first_node_of s q ≡ k → node_count_of s q ≡ nodes_of (content_inside o)
      → content_depth (content_inside o) ≤ 12 → ContentAt s q (content_inside o) × From (NodeIs s (stored_programs r)) k (k + nodes_of (content_inside o)) (each r (visits_inside o))
  content_at q k none h c w m e n d = (n, omega arith)
  content_at q k (some t) h c w m e n d = let z = tree_at r room s t k h c w m in ((rw e z.0, sym n, d), z.1)

  record_at : (q k : ℕ) (d : TextRule) → ProductionsFrom q (production_record r k d) → NodesFrom r room s k (content_bytes r d.inside) → nodes_before s q ≡ k → SoundRule d → RuleKeeps (sheet_of r) (rule_of r d) → Holds r (in_rule d)
      → Laid s r q (rule_of r d) × From (NodeIs s (stored_programs r)) k (k + nodes_of_rule d) (each r (visits_inside d.inside))
  record_at q k d h n e z w m =
      let at = production_offset s + 12 * q in
      let l = production_record r k d in
      let tail = holds_back r (in_braces d.own.first_visit) (a_tag d.tag ∷ (in_content d.inside ++ in_braces d.own.second_visit)) m in
      let first_node : first_node_of s q ≡ k = here_word s at l h 2 (omega arith) ∙ two_bytes k in
      let node_count : node_count_of s q ≡ nodes_of_rule d = here_byte s at l h 4 (omega arith) in
      let c = content_at q k d.inside n z.content w.nodes (holds_front r (in_content d.inside) (in_braces d.own.second_visit) tail) first_node node_count w.shallow in (
        record {
          is = record {
            production_is = record { nonterminal_is = sym (here_byte s at l h 0 (omega arith)); tag_is = sym (here_byte s at l h 1 (omega arith)); content_is = c.0 };
            own_are = record {
              first_is = subst (λ i. FieldIs (stored_programs r) first i (maybe r d.own.first_visit)) (sym (here_word s at l h 6 (omega arith) ∙ two_bytes (field r d.own.first_visit)))
                  (field_is r room first d.own.first_visit w.own.0 (holds_front r (in_braces d.own.first_visit) (a_tag d.tag ∷ (in_content d.inside ++ in_braces d.own.second_visit)) m));
              second_is = subst (λ i. FieldIs (stored_programs r) second i (maybe r d.own.second_visit)) (sym (here_word s at l h 8 (omega arith) ∙ two_bytes (field r d.own.second_visit)))
                  (field_is r room second d.own.second_visit w.own.1 (holds_back r (in_content d.inside) (in_braces d.own.second_visit) tail));
            };
            nodes_are = rw (first_node, node_count) c.1;
          };
          fits = record {
            nonterminal = omega (arith, here_byte s at l h 0 (omega arith), z.numbered);
            tag = omega (arith, here_byte s at l h 1 (omega arith), w.tag, tags);
            follows = first_node ∙ sym e;
            few_nodes = omega (arith, node_count, w.few_nodes);
            zero_5 = here_byte s at l h 5 (omega arith);
            zero_10 = here_byte s at l h 10 (omega arith);
            zero_11 = here_byte s at l h 11 (omega arith);
          };
        },
        c.1,
      )

  pub rules_at : (q k : ℕ) (ds : List TextRule) → ProductionsFrom q (productions_section r k ds) → NodesFrom r room s k (nodes_section r ds) → nodes_before s q ≡ k → AllSound ds → EachKeeps (sheet_of r) (rules_of r ds) → Holds r (in_rules ds)
      → From (Laid s r) q (q + length ds) (rules_of r ds) × (nodes_before s (q + length ds) ≡ k + nodes_in_all ds) × From (NodeIs s (stored_programs r)) k (k + nodes_in_all ds) (all_visits r ds)
  rules_at q k [] h n e z w m = (omega arith, ap (nodes_before s) (none_more q) ∙ e ∙ sym (none_more k), omega arith)
  rules_at q k (d ∷ ds) h n e z w m =
      let at = production_offset s + 12 * q in
      let x = record_at q k d (here_front s at (production_record r k d) (productions_section r (k + nodes_of_rule d) ds) h) (here_front s _ (content_bytes r d.inside) (nodes_section r ds) n) e z.0 w.0 (holds_front r (in_rule d) (in_rules ds) m) in
      let count : node_count_of s q ≡ nodes_of_rule d = here_byte s at (production_record r k d) (here_front s at (production_record r k d) (productions_section r (k + nodes_of_rule d) ds) h) 4 (omega arith) in
      let y = rules_at (suc q) (k + nodes_of_rule d) ds
      (here_at s (at + 12) (production_offset s + 12 * suc q) (productions_section r (k + nodes_of_rule d) ds) (twelve_more (production_offset s) q) (here_behind s at 12 (production_record r k d) (productions_section r (k + nodes_of_rule d) ds) refl h))
      (nodes_behind r room s k (nodes_of_rule d) (content_bytes r d.inside) (nodes_section r ds) (content_length r d.inside) n)
      (ap₂ ◌+◌ e count) z.1 w.1 (holds_back r (in_rule d) (in_rules ds) m) in (
        (x.0, from_to (Laid s r) (suc q) (suc q + length ds) (q + suc (length ds)) (rules_of r ds) (omega arith) y.0),
        ap (nodes_before s) (shift q (length ds)) ∙ y.1 ∙ add k (nodes_of_rule d) (nodes_in_all ds),
        from_append (NodeIs s (stored_programs r)) k (k + nodes_of_rule d) (k + (nodes_of_rule d + nodes_in_all ds)) (each r (visits_inside d.inside)) (all_visits r ds) x.1
            (from_to (NodeIs s (stored_programs r)) (k + nodes_of_rule d) (k + nodes_of_rule d + nodes_in_all ds) (k + (nodes_of_rule d + nodes_in_all ds)) (all_visits r ds) (add k (nodes_of_rule d) (nodes_in_all ds)) y.2),
      )
    where
      shift : (a b : ℕ) → a + suc b ≡ suc a + b
      shift a b = omega arith

      add : (a b c : ℕ) → a + b + c ≡ a + (b + c)
      add a b c = omega arith
