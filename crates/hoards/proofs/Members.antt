-- The strings of rules are those of the productions' own programs and of the nodes' programs, and these are what the fields of the sheet's records name.
-- Assumes nothing.
use mathlib.Core.Path.{◌≡◌, refl, sym, ap, ◌∙◌, subst}
use mathlib.Core.List.{List, [], ◌∷◌, ◌++◌, append_assoc, append-nil}
use mathlib.Core.Option.{Option, none, some}
use Prim.Native.Nat.{ℕ, suc, ◌+◌, ◌≤◌}
use native.Mathlib.Omega.{arith}
use lib.ListN.{length}
use Rattle.layout.specs.Layout.{production_count, node_count}
use Rattle.layout.specs.Records.{first_node_of, nodes_before, first_program_of, second_program_of, first_program_of_node, second_program_of_node}
use Rattle.sheet.specs.Sheet.{Sheet}
use Rattle.notation.specs.Program.{TextProgram}
use Rattle.notation.specs.Rules.{TextVisits, Tree, node, Form, atom, cat, alt, star, empty, visits, visits_of, visits_inside, TextRule}
use Rattle.encoding.specs.Mentions.{Mention, a_tag, a_string, a_program, in_program, in_braces, in_tree, in_form, in_content, in_rule, in_rules, strings_mentioned}
use Rattle.encoding.proofs.Sheets.{tree_length}
use Rattle.packing.specs.Packs.{Packs}
use Rattle.boughs.specs.Boughs.{NodesNamed}
use Rattle.lines.specs.Lines.{InsideNamed, RulesNamed}
use Rattle.hoards.specs.Hoards.{strings_of_one, strings_of_both, strings_of_each, EachVisitNamed}
use Rattle.hoards.proofs.Same.{Same, same_as, then, both, swapped}

strings_append : (ms ns : List Mention) → strings_mentioned (ms ++ ns) ≡ strings_mentioned ms ++ strings_mentioned ns
strings_append [] ns = refl
strings_append (a_tag n ∷ ms) ns = strings_append ms ns
strings_append (a_string s ∷ ms) ns = ap (λ z. s ∷ z) (strings_append ms ns)
strings_append (a_program p ∷ ms) ns = strings_append ms ns

each_append : (us vs : List TextVisits) → strings_of_each (us ++ vs) ≡ strings_of_each us ++ strings_of_each vs
each_append [] vs = refl
each_append (u ∷ us) vs = ap (λ z. strings_of_both u ++ z) (each_append us vs) ∙ sym (append_assoc (strings_of_both u) (strings_of_each us) (strings_of_each vs))

braces : (o : Option TextProgram) → strings_mentioned (in_braces o) ≡ strings_of_one o
braces none = refl
braces (some p) = strings_append (in_program p) (a_program p ∷ []) ∙ append-nil (strings_mentioned (in_program p))

-- what stands around something stands before it as well
around : (f g : Option TextProgram) (ms : List Mention) (vs : List TextVisits) → Same (strings_mentioned ms) (strings_of_each vs)
    → Same (strings_mentioned (in_braces f ++ (ms ++ in_braces g))) (strings_of_both (record { first_visit = f; second_visit = g }) ++ strings_of_each vs)
around f g ms vs p =
    let x = strings_of_one f in
    let y = strings_of_one g in
    let e : strings_mentioned (in_braces f ++ (ms ++ in_braces g)) ≡ x ++ (strings_mentioned ms ++ y) = strings_append (in_braces f) (ms ++ in_braces g) ∙ ap (λ z. z ++ strings_mentioned (ms ++ in_braces g)) (braces f) ∙ ap (λ z. x ++ z) (strings_append ms (in_braces g) ∙ ap (λ z. strings_mentioned ms ++ z) (braces g)) in
    then (same_as e)
    (then (both x (strings_mentioned ms ++ y) x (y ++ strings_of_each vs) (same_as refl) (then (both (strings_mentioned ms) y (strings_of_each vs) y p (same_as refl)) (swapped (strings_of_each vs) y)))
    (same_as (sym (append_assoc x y (strings_of_each vs)))))

in_turn_lem : (ms ns : List Mention) (us vs : List TextVisits) → Same (strings_mentioned ms) (strings_of_each us) → Same (strings_mentioned ns) (strings_of_each vs) → Same (strings_mentioned (ms ++ ns)) (strings_of_each (us ++ vs))
in_turn_lem ms ns us vs p q = then (same_as (strings_append ms ns)) (then (both (strings_mentioned ms) (strings_mentioned ns) (strings_of_each us) (strings_of_each vs) p q) (same_as (sym (each_append us vs))))

mutual
  tree_strings : (t : Tree) → Same (strings_mentioned (in_tree t)) (strings_of_each (visits t))
  tree_strings (node f g k) = around f g (in_form k) (visits_of k) (form_strings k)

  form_strings : (k : Form) → Same (strings_mentioned (in_form k)) (strings_of_each (visits_of k))
  form_strings (atom k) = same_as refl
  form_strings (cat l r) = in_turn_lem (in_tree l) (in_tree r) (visits l) (visits r) (tree_strings l) (tree_strings r)
  form_strings (alt l r) = in_turn_lem (in_tree l) (in_tree r) (visits l) (visits r) (tree_strings l) (tree_strings r)
  form_strings (star e) = tree_strings e
  form_strings empty = same_as refl

content_strings : (o : Option Tree) → Same (strings_mentioned (in_content o)) (strings_of_each (visits_inside o))
content_strings none = same_as refl
content_strings (some t) = tree_strings t

-- the programs of all productions, and of all nodes
abbrev pub owns : List TextRule → List TextVisits
owns [] = []
owns (d ∷ ds) = d.own ∷ owns ds

abbrev pub inner : List TextRule → List TextVisits
inner [] = []
inner (d ∷ ds) = visits_inside d.inside ++ inner ds

-- the tag of a rule is no string
rule_strings : (d : TextRule) → Same (strings_mentioned (in_rule d)) (strings_of_both d.own ++ strings_of_each (visits_inside d.inside))
rule_strings d =
    let f = d.own.first_visit in
    let g = d.own.second_visit in
    let tagged : strings_mentioned (in_rule d) ≡ strings_mentioned (in_braces f ++ (in_content d.inside ++ in_braces g)) = strings_append (in_braces f) (a_tag d.tag ∷ (in_content d.inside ++ in_braces g)) ∙ sym (strings_append (in_braces f) (in_content d.inside ++ in_braces g)) in
    then (same_as tagged) (around f g (in_content d.inside) (visits_inside d.inside) (content_strings d.inside))

pub rules_strings : (ds : List TextRule) → Same (strings_mentioned (in_rules ds)) (strings_of_each (owns ds) ++ strings_of_each (inner ds))
rules_strings [] = same_as refl
rules_strings (d ∷ ds) =
    let a = strings_of_both d.own in
    let b = strings_of_each (visits_inside d.inside) in
    let c = strings_of_each (owns ds) in
    let e = strings_of_each (inner ds) in
    then (same_as (strings_append (in_rule d) (in_rules ds)))
    (then (both (strings_mentioned (in_rule d)) (strings_mentioned (in_rules ds)) (a ++ b) (c ++ e) (rule_strings d) (rules_strings ds))
    (then (same_as (append_assoc a b (c ++ e)))
    (then (both a (b ++ (c ++ e)) a (c ++ (b ++ e)) (same_as refl) (crossed b c e))
    (same_as (sym (append_assoc a c (b ++ e)) ∙ ap (λ z. (a ++ c) ++ z) (sym (each_append (visits_inside d.inside) (inner ds))))))))
  where
    crossed : (b c e : List (List ℕ)) → Same (b ++ (c ++ e)) (c ++ (b ++ e))
    crossed b c e = then (same_as (sym (append_assoc b c e))) (then (both (b ++ c) e (c ++ b) e (swapped b c) (same_as refl)) (same_as (append_assoc c b e)))

-- ---- as the records of the sheet name them
module _ (s : List ℕ) (a : Sheet) (z : Packs s a) where
  pub owns_named : (q : ℕ) (ds : List TextRule) → RulesNamed s a z q ds → EachVisitNamed s a z (first_program_of s) (second_program_of s) q (production_count s) (owns ds)
  owns_named q [] h = h
  owns_named q (d ∷ ds) h = (h.0.own_are, owns_named (suc q) ds h.1)

  abbrev Nodes : ℕ → List TextVisits → Type 0
  Nodes i vs = EachVisitNamed s a z (first_program_of_node s) (second_program_of_node s) i (node_count s) vs

  then_nodes : (i : ℕ) (us vs : List TextVisits) → NodesNamed s a z i us → Nodes (i + length us) vs → Nodes i (us ++ vs)
  then_nodes i [] vs h k = let e : i + 0 ≡ i = omega arith in subst (λ (n : ℕ). Nodes n vs) e k
  then_nodes i (u ∷ us) vs h k = let e : i + suc (length us) ≡ suc i + length us = omega arith in (h.0, then_nodes (suc i) us vs h.1 (subst (λ (n : ℕ). Nodes n vs) e k))

  pub inner_named : (q : ℕ) (ds : List TextRule) → RulesNamed s a z q ds → Nodes (nodes_before s q) (inner ds)
  inner_named q [] h = ap (nodes_before s) h ∙ z.productions.every_node
  inner_named q (d ∷ ds) h = on d.inside h.0.inside_is (inner_named (suc q) ds h.1)
    where
      low : (k : ℕ) (es : List TextRule) → RulesNamed s a z k es → k ≤ production_count s
      low k [] e = omega (arith, e)
      low k (x ∷ es) e = omega (arith, low (suc k) es e.1)

      on : (o : Option Tree) → InsideNamed s a z q o → Nodes (nodes_before s (suc q)) (inner ds) → Nodes (nodes_before s q) (visits_inside o ++ inner ds)
      on none i k = let e : nodes_before s (suc q) ≡ nodes_before s q = omega (arith, i) in subst (λ (n : ℕ). Nodes n (inner ds)) e k
      on (some t) i k =
          let at : first_node_of s q ≡ nodes_before s q = (z.productions.each q (omega (arith, low (suc q) ds h.1))).follows in
          let e : nodes_before s (suc q) ≡ nodes_before s q + length (visits t) = omega (arith, i.1, tree_length t) in
          then_nodes (nodes_before s q) (visits t) (inner ds) (subst (λ (n : ℕ). NodesNamed s a z n (visits t)) at i.0.programs) (subst (λ (n : ℕ). Nodes n (inner ds)) e k)
