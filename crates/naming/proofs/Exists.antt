-- A sheet is rules: each tree is built from its expression and its nodes' programs. Assumes nothing.
use mathlib.Core.Path.{◌≡◌, refl, sym, ◌∙◌, ap, ap₂}
use mathlib.Core.List.{List, [], ◌∷◌, ◌++◌, append_assoc, append-nil}
use mathlib.Core.Option.{Option, none, some}
use Prim.Native.Nat.{ℕ, suc, ◌+◌, ◌≤◌}
use native.Mathlib.Omega.{arith}
use lib.ListN.{length, length-append}
use Rattle.expressions.specs.Expr.{Exp, nodes, Content, nothing, tree, nodes_of}
use Rattle.programs.specs.Program.{Program}
use Rattle.layout.specs.Layout.{production_count}
use Rattle.layout.specs.Records.{first_node_of, node_count_of}
use Rattle.trees.specs.Trees.{ContentAt}
use Rattle.sheet.specs.Fields.{Visits}
use Rattle.sheet.specs.Sheet.{Rule, Sheet, From, NodeIs, RuleAt}
use Rattle.sheet.proofs.SheetLaws.{from_counted}
use Rattle.runs.specs.Execute.{name_of}
use Rattle.notation.specs.Rules.{TextVisits, Tree, node, atom, cat, alt, star, empty, expression, visits, content_inside, visits_inside, TextRule, Rules}
use Rattle.encoding.proofs.Sheets.{tree_length}
use Rattle.packing.specs.Packs.{Packs}
use Rattle.naming.specs.ByName.{visits_named, each_named, RuleByName, EachByName, ByName}
use Rattle.naming.specs.Promises.{SheetsAreRules}

-- a tree of an expression, and the programs that are left
record Built (e : Exp) (vs : List TextVisits) : Type 0 where
  it : Tree
  rest : List TextVisits
  expressed : expression it ≡ e
  parts : vs ≡ visits it ++ rest

enough : (e : Exp) (v : TextVisits) (vs : List TextVisits) (n : ℕ) (b : Built e vs) → suc (nodes e + n) ≤ length (v ∷ vs) → n ≤ length b.rest
enough e v vs n b h = omega (arith, h, ap length b.parts, length-append (visits b.it) b.rest, tree_length b.it, ap nodes b.expressed)

build : (e : Exp) (vs : List TextVisits) → nodes e ≤ length vs → Built e vs
build (Exp.atom k) [] h = absurd (omega arith)
build (Exp.atom k) (v ∷ vs) h = record { it = node v.first_visit v.second_visit (atom k); rest = vs; expressed = refl; parts = refl }
build (Exp.cat l r) [] h = absurd (omega arith)
build (Exp.cat l r) (v ∷ vs) h =
    let x = build l vs (omega arith) in
    let y = build r x.rest (enough l v vs (nodes r) x h) in
    record {
      it = node v.first_visit v.second_visit (cat x.it y.it);
      rest = y.rest;
      expressed = ap₂ Exp.cat x.expressed y.expressed;
      parts = ap (λ z. v ∷ z) (x.parts ∙ ap (λ z. visits x.it ++ z) y.parts ∙ sym (append_assoc (visits x.it) (visits y.it) y.rest));
    }
build (Exp.alt l r) [] h = absurd (omega arith)
build (Exp.alt l r) (v ∷ vs) h =
    let x = build l vs (omega arith) in
    let y = build r x.rest (enough l v vs (nodes r) x h) in
    record {
      it = node v.first_visit v.second_visit (alt x.it y.it);
      rest = y.rest;
      expressed = ap₂ Exp.alt x.expressed y.expressed;
      parts = ap (λ z. v ∷ z) (x.parts ∙ ap (λ z. visits x.it ++ z) y.parts ∙ sym (append_assoc (visits x.it) (visits y.it) y.rest));
    }
build (Exp.star e) [] h = absurd (omega arith)
build (Exp.star e) (v ∷ vs) h =
    let x = build e vs (omega arith) in
    record { it = node v.first_visit v.second_visit (star x.it); rest = x.rest; expressed = ap Exp.star x.expressed; parts = ap (λ z. v ∷ z) x.parts }
build Exp.empty [] h = absurd (omega arith)
build Exp.empty (v ∷ vs) h = record { it = node v.first_visit v.second_visit empty; rest = vs; expressed = refl; parts = refl }

record Inside (c : Content) (vs : List TextVisits) : Type 0 where
  it : Option Tree
  content : content_inside it ≡ c
  all : visits_inside it ≡ vs

none_left : (l : List TextVisits) → length l ≡ 0 → l ≡ []
none_left [] h = refl
none_left (v ∷ l) h = absurd (omega arith)

inside : (c : Content) (vs : List TextVisits) → length vs ≡ nodes_of c → Inside c vs
inside nothing vs h = record { it = none; content = refl; all = sym (none_left vs h) }
inside (tree e) vs h =
    let b = build e vs (omega (arith, h)) in
    let left : b.rest ≡ [] = none_left b.rest (omega (arith, h, ap length b.parts, length-append (visits b.it) b.rest, tree_length b.it, ap nodes b.expressed)) in
    record { it = some b.it; content = ap tree b.expressed; all = sym (b.parts ∙ ap (λ z. visits b.it ++ z) left ∙ append-nil (visits b.it)) }

named_length : (a : Sheet) (vs : List Visits) → length (each_named a vs) ≡ length vs
named_length a [] = refl
named_length a (v ∷ vs) = ap suc (named_length a vs)

pub content_nodes : (s : List ℕ) (q : ℕ) (c : Content) → ContentAt s q c → nodes_of c ≡ node_count_of s q
content_nodes s q nothing h = sym h
content_nodes s q (tree e) h = h.1

module _ (s : List ℕ) (a : Sheet) (ps : List Program) where
  rule_there : (q : ℕ) (x : Rule) → RuleAt s ps q x → (d : TextRule) × RuleByName a x d
  rule_there q x h =
      let i = inside x.production.content (each_named a x.of_nodes)
      (omega (arith, named_length a x.of_nodes, from_counted (NodeIs s ps) (first_node_of s q) (first_node_of s q + node_count_of s q) x.of_nodes h.nodes_are, content_nodes s q x.production.content h.production_is.content_is)) in (
        record { nonterminal = x.production.nonterm; tag = name_of a.names x.production.tagno; own = visits_named a x.own; inside = i.it },
        record { nonterminal_is = refl; tag_is = refl; nodes_are = i.content; own_are = refl; of_nodes_are = i.all },
      )

  rules_there : (i k : ℕ) (xs : List Rule) → From (RuleAt s ps) i k xs → (ds : List TextRule) × EachByName a xs ds
  rules_there i k [] f = ([], tt)
  rules_there i k (x ∷ xs) f =
      let d = rule_there i x f.0 in
      let ds = rules_there (suc i) k xs f.1 in
      (d.0 ∷ ds.0, (d.1, ds.1))

pub sheets_are_rules : SheetsAreRules
sheets_are_rules s a p =
    let ds = rules_there s a p.programs.programs 0 (production_count s) a.rules p.rules_are in
    (record { start = a.start_nonterminal; productions = ds.0 }, record { start_is = refl; rules_are = ds.1 })
