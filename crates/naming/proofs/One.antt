-- A sheet is one rules at most: a tree is its expression and its nodes' programs in preorder. Assumes nothing.
use mathlib.Core.Path.{◌≡◌, refl, sym, ◌∙◌, ap, ap₂, subst}
use mathlib.Core.List.{List, [], ◌∷◌, ◌++◌, append_assoc, append-nil, head-eq_of_cons-eq, tail-eq_of_cons-eq}
use mathlib.Core.Option.{Option, none, some}
use Prim.Native.Nat.{ℕ}
use native.Mathlib.Omega.{arith}
use Rattle.expressions.specs.Expr.{Exp}
use Rattle.sheet.specs.Sheet.{Rule, Sheet}
use Rattle.notation.specs.Rules.{TextVisits, Tree, node, Form, atom, cat, alt, star, empty, expression, expression_of, visits, visits_of, content_inside, visits_inside, TextRule, Rules}
use Rattle.naming.specs.ByName.{RuleByName, EachByName, ByName}
use Rattle.naming.specs.Promises.{OneByName}

same_visits : (f g f' g' : Option Rattle.notation.specs.Program.TextProgram) → ◌≡◌ {A = TextVisits} (record { first_visit = f; second_visit = g }) (record { first_visit = f'; second_visit = g' }) → (f ≡ f') × (g ≡ g')
same_visits f g f' g' e = (ap (λ v. v.first_visit) e, ap (λ v. v.second_visit) e)

mutual
  tree_one : (t u : Tree) (x y : List TextVisits) → expression t ≡ expression u → visits t ++ x ≡ visits u ++ y → (t ≡ u) × (x ≡ y)
  tree_one (node f g k) (node f' g' k') x y e h =
      let v = same_visits f g f' g' (head-eq_of_cons-eq h) in
      let r = form_one k k' x y e (tail-eq_of_cons-eq h) in
      let a : f ≡ f' = v.0 in
      let b : g ≡ g' = v.1 in
      let c : k ≡ k' = r.0 in
      (cc, r.1)

  form_one : (k m : Form) (x y : List TextVisits) → expression_of k ≡ expression_of m → visits_of k ++ x ≡ visits_of m ++ y → (k ≡ m) × (x ≡ y)
  form_one (atom a) (atom b) x y e h = (let i : a ≡ b = cc in cc, h)
  form_one (cat l r) (cat l' r') x y e h =
      let i : expression l ≡ expression l' = cc in
      let j : expression r ≡ expression r' = cc in
      let p = tree_one l l' (visits r ++ x) (visits r' ++ y) i (sym (append_assoc (visits l) (visits r) x) ∙ h ∙ append_assoc (visits l') (visits r') y) in
      let q = tree_one r r' x y j p.1 in
      let a : l ≡ l' = p.0 in
      let b : r ≡ r' = q.0 in
      (cc, q.1)
  form_one (alt l r) (alt l' r') x y e h =
      let i : expression l ≡ expression l' = cc in
      let j : expression r ≡ expression r' = cc in
      let p = tree_one l l' (visits r ++ x) (visits r' ++ y) i (sym (append_assoc (visits l) (visits r) x) ∙ h ∙ append_assoc (visits l') (visits r') y) in
      let q = tree_one r r' x y j p.1 in
      let a : l ≡ l' = p.0 in
      let b : r ≡ r' = q.0 in
      (cc, q.1)
  form_one (star u) (star w) x y e h =
      let i : expression u ≡ expression w = cc in
      let p = tree_one u w x y i h in
      let a : u ≡ w = p.0 in
      (cc, p.1)
  form_one empty empty x y e h = (refl, h)
  form_one (atom a) (cat l r) x y e h = absurd (let z : ◌≡◌ {A = ℕ} 0 1 = cc in omega arith)
  form_one (atom a) (alt l r) x y e h = absurd (let z : ◌≡◌ {A = ℕ} 0 1 = cc in omega arith)
  form_one (atom a) (star u) x y e h = absurd (let z : ◌≡◌ {A = ℕ} 0 1 = cc in omega arith)
  form_one (cat l r) (atom a) x y e h = absurd (let z : ◌≡◌ {A = ℕ} 0 1 = cc in omega arith)
  form_one (cat l r) (alt l' r') x y e h = absurd (let z : ◌≡◌ {A = ℕ} 0 1 = cc in omega arith)
  form_one (cat l r) (star u) x y e h = absurd (let z : ◌≡◌ {A = ℕ} 0 1 = cc in omega arith)
  form_one (alt l r) (atom a) x y e h = absurd (let z : ◌≡◌ {A = ℕ} 0 1 = cc in omega arith)
  form_one (alt l r) (cat l' r') x y e h = absurd (let z : ◌≡◌ {A = ℕ} 0 1 = cc in omega arith)
  form_one (alt l r) (star u) x y e h = absurd (let z : ◌≡◌ {A = ℕ} 0 1 = cc in omega arith)
  form_one (star u) (atom a) x y e h = absurd (let z : ◌≡◌ {A = ℕ} 0 1 = cc in omega arith)
  form_one (star u) (cat l r) x y e h = absurd (let z : ◌≡◌ {A = ℕ} 0 1 = cc in omega arith)
  form_one (star u) (alt l r) x y e h = absurd (let z : ◌≡◌ {A = ℕ} 0 1 = cc in omega arith)
  form_one empty (atom a) x y e h = absurd (let z : ◌≡◌ {A = ℕ} 0 1 = cc in omega arith)
  form_one empty (cat l r) x y e h = absurd (let z : ◌≡◌ {A = ℕ} 0 1 = cc in omega arith)
  form_one empty (alt l r) x y e h = absurd (let z : ◌≡◌ {A = ℕ} 0 1 = cc in omega arith)
  form_one empty (star u) x y e h = absurd (let z : ◌≡◌ {A = ℕ} 0 1 = cc in omega arith)
  form_one (atom a) empty x y e h = absurd (let z : ◌≡◌ {A = ℕ} 0 1 = cc in omega arith)
  form_one (cat l r) empty x y e h = absurd (let z : ◌≡◌ {A = ℕ} 0 1 = cc in omega arith)
  form_one (alt l r) empty x y e h = absurd (let z : ◌≡◌ {A = ℕ} 0 1 = cc in omega arith)
  form_one (star u) empty x y e h = absurd (let z : ◌≡◌ {A = ℕ} 0 1 = cc in omega arith)

content_one : (o u : Option Tree) → content_inside o ≡ content_inside u → visits_inside o ≡ visits_inside u → o ≡ u
content_one none none e h = refl
content_one none (some t) e h = absurd (let z : ◌≡◌ {A = ℕ} 0 1 = cc in omega arith)
content_one (some t) none e h = absurd (let z : ◌≡◌ {A = ℕ} 0 1 = cc in omega arith)
content_one (some t) (some u) e h =
    let i : expression t ≡ expression u = cc in
    ap some (tree_one t u [] [] i (append-nil (visits t) ∙ h ∙ sym (append-nil (visits u)))).0

rule_one : (a : Sheet) (r : Rule) (d e : TextRule) → RuleByName a r d → RuleByName a r e → d ≡ e
rule_one a r d e h k =
    let n : d.nonterminal ≡ e.nonterminal = h.nonterminal_is ∙ sym k.nonterminal_is in
    let t : d.tag ≡ e.tag = h.tag_is ∙ sym k.tag_is in
    let o : d.own ≡ e.own = h.own_are ∙ sym k.own_are in
    let i : d.inside ≡ e.inside = content_one d.inside e.inside (h.nodes_are ∙ sym k.nodes_are) (h.of_nodes_are ∙ sym k.of_nodes_are) in
    λ x. record { nonterminal = n x; tag = t x; own = o x; inside = i x }

each_one : (a : Sheet) (rs : List Rule) (ds es : List TextRule) → EachByName a rs ds → EachByName a rs es → ds ≡ es
each_one a [] [] [] h k = refl
each_one a [] [] (e ∷ es) h k = absurd k
each_one a [] (d ∷ ds) es h k = absurd h
each_one a (r ∷ rs) [] es h k = absurd h
each_one a (r ∷ rs) (d ∷ ds) [] h k = absurd k
each_one a (r ∷ rs) (d ∷ ds) (e ∷ es) h k = ap₂ ◌∷◌ (rule_one a r d e h.0 k.0) (each_one a rs ds es h.1 k.1)

pub one_by_name : OneByName
one_by_name a r q h k =
    let s : r.start ≡ q.start = h.start_is ∙ sym k.start_is in
    let p : r.productions ≡ q.productions = each_one a a.rules r.productions q.productions h.rules_are k.rules_are in
    λ x. record { start = s x; productions = p x }
