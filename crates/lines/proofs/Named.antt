-- The rules that a sheet is by name are what its records are by name; so the text of all lines is that of the rules. Assumes nothing.
use mathlib.Core.Path.{◌≡◌, refl, sym, ap, ◌∙◌, subst}
use mathlib.Core.List.{List, [], ◌∷◌, ◌++◌}
use mathlib.Core.Option.{Option, none, some}
use Prim.Native.Nat.{ℕ, suc, ◌+◌, ◌≤◌, ◌<◌}
use native.Mathlib.Omega.{arith}
use lib.ListN.{length}
use Rattle.lent.specs.Put.{PutAs}
use Rattle.output.proofs.Writing.{put_then}
use Rattle.expressions.specs.Expr.{nodes, Content}
use Rattle.programs.specs.Program.{Program}
use Rattle.layout.specs.Layout.{tag_count, production_count, start}
use Rattle.layout.specs.Records.{tag_number_of, first_node_of, node_count_of, first_program_of, second_program_of, first_program_of_node, second_program_of_node}
use Rattle.trees.specs.Trees.{ContentAt}
use Rattle.sheet.specs.Tags.{TagAt}
use Rattle.sheet.specs.Fields.{Visits, FieldsAre}
use Rattle.sheet.specs.Sheet.{Rule, Sheet, From, NodeIs, RuleAt}
use Rattle.sheet.proofs.SheetLaws.{from_counted}
use Rattle.runs.specs.Execute.{name_of}
use Rattle.notation.specs.Rules.{TextVisits, Tree, visits, content_inside, visits_inside, TextRule, Rules}
use Rattle.notation.specs.Tokens.{nonterminal, token_bytes}
use Rattle.packing.specs.Packs.{Packs}
use Rattle.printed.specs.Text.{lines_of, text_of}
use Rattle.naming.specs.ByName.{visits_named, each_named, RuleByName, EachByName, ByName}
use Rattle.visits.specs.Written.{Pen, TagNameAt}
use Rattle.visits.proofs.Performing.{names_in}
use Rattle.clauses.proofs.Laws.{decimal_short}
use Rattle.asides.specs.Asides.{BothNamed}
use Rattle.boughs.specs.Boughs.{NodesNamed, TreeNamed}
use Rattle.lines.specs.Lines.{InsideNamed, RuleNamed, RulesNamed, most_of_a_text, LinesPut, TextPut}

module _ (s : List ℕ) (a : Sheet) (z : Packs s a) where
  abbrev ps : List Program
  ps = z.programs.programs

  both_named : (one two : ℕ) (v : Visits) (u : TextVisits) → FieldsAre ps one two v → u ≡ visits_named a v → BothNamed s a z one two u
  both_named one two v u h e =
      record {
        first_is = record { program = v.first_visit; is = h.first_is; named = ap (λ (w : TextVisits). w.first_visit) e };
        second_is = record { program = v.second_visit; is = h.second_is; named = ap (λ (w : TextVisits). w.second_visit) e };
      }

  nodes_named : (i k : ℕ) (vs : List Visits) → From (NodeIs s ps) i k vs → NodesNamed s a z i (each_named a vs)
  nodes_named i k [] h = tt
  nodes_named i k (v ∷ vs) h =
      (both_named (first_program_of_node s i) (second_program_of_node s i) v (visits_named a v) h.0 refl, nodes_named (suc i) k vs h.1)

  inside_named : (q : ℕ) (c : Content) (vs : List Visits) (o : Option Tree) → ContentAt s q c → From (NodeIs s ps) (first_node_of s q) (first_node_of s q + node_count_of s q) vs → content_inside o ≡ c
      → visits_inside o ≡ each_named a vs → InsideNamed s a z q o
  inside_named q c vs none h f e g = subst (ContentAt s q) (sym e) h
  inside_named q c vs (some t) h f e g =
      let at : ContentAt s q (content_inside (some t)) = subst (ContentAt s q) (sym e) h in
      (record { stands = at.0; programs = subst (λ (us : List TextVisits). NodesNamed s a z (first_node_of s q) us) (sym g) (nodes_named (first_node_of s q) (first_node_of s q + node_count_of s q) vs f) }, at.1)

  its_name : (t : ℕ) → t < tag_count s → TagNameAt s t (name_of a.names t)
  its_name t h =
      let n : tag_count s ≡ length a.names = omega (arith, from_counted (TagAt s) 0 (tag_count s) a.names z.names_are) in
      let e : 0 + t ≡ t = omega arith in
      subst (λ (m : ℕ). TagNameAt s m (name_of a.names t)) e (names_in s 0 (tag_count s) a.names z.sections.tags_at_lem z.names_are t (omega (arith, h, n)))

  rule_named : (q : ℕ) (x : Rule) (d : TextRule) → q < production_count s → RuleAt s ps q x → RuleByName a x d → RuleNamed s a z q d
  rule_named q x d low h n =
      let t : d.tag ≡ name_of a.names (tag_number_of s q) = n.tag_is ∙ ap (name_of a.names) h.production_is.tag_is in
      record {
        nonterminal_is = n.nonterminal_is ∙ h.production_is.nonterminal_is;
        tag_is = subst (λ (m : List ℕ). TagNameAt s (tag_number_of s q) m) (sym t) (its_name (tag_number_of s q) (z.productions.each q low).tag);
        own_are = both_named (first_program_of s q) (second_program_of s q) x.own d.own h.own_are n.own_are;
        inside_is = inside_named q x.production.content x.of_nodes d.inside h.production_is.content_is h.nodes_are n.nodes_are n.of_nodes_are;
      }

  pub rules_named : (q : ℕ) (xs : List Rule) (ds : List TextRule) → From (RuleAt s ps) q (production_count s) xs → EachByName a xs ds → RulesNamed s a z q ds
  rules_named q [] [] h n = h
  rules_named q [] (d ∷ ds) h n = absurd n
  rules_named q (x ∷ xs) [] h n = absurd n
  rules_named q (x ∷ xs) (d ∷ ds) h n =
      (rule_named q x d (omega (arith, from_counted (RuleAt s ps) (suc q) (production_count s) xs h.1)) h.0 n.0, rules_named (suc q) xs ds h.1 n.1)

-- the start on the first line, and all lines
pub text : (s : List ℕ) (p : Pen) (n : ℕ) → n ≡ start s → (d₁ d₂ d₃ : List ℕ) (n₁ n₂ n₃ : ℕ) → PutAs p.write p.lent p.at (token_bytes (nonterminal n)) d₁ n₁ → PutAs p.write d₁ n₁ (10 ∷ []) d₂ n₂
    → LinesPut s (record { write = p.write; lent = d₂; at = n₂ }) n₃ d₃ → TextPut s p n₃ d₃
unfolding text_of
text s p n e d₁ d₂ d₃ n₁ n₂ n₃ N P L = record { reach = omega (arith, N.next, decimal_short n, P.next, L.reach); right = go }
  where
    go : (a : Sheet) → Packs s a → (x : Rules) → ByName a x → PutAs p.write p.lent p.at (text_of x) d₃ n₃
    go a z x b =
        let K = subst (λ (m : ℕ). PutAs p.write p.lent p.at (token_bytes (nonterminal m)) d₁ n₁) (e ∙ sym (b.start_is ∙ z.start_is)) N in
        put_then _ _ _ _ _ _ _ _ _ K (put_then _ _ _ _ _ _ _ _ _ P (L.right a z x.productions (rules_named s a z 0 a.rules x.productions z.rules_are b.rules_are)))
