-- Two sheets that are the same by name have the same nodes, so their nonterminals have productions in both or in neither. Assumes nothing.
use mathlib.Core.Path.{◌≡◌, refl, sym, ◌∙◌, ap, subst}
use mathlib.Core.Logic.{◌⊎◌, inl, inr}
use mathlib.Core.List.{List, [], ◌∷◌}
use Prim.Native.Nat.{ℕ, zero, suc, ◌+◌, ◌≤◌, ◌<◌}
use native.Mathlib.Omega.{arith}
use native.Mathlib.Decide.{ℕ_discrete, dec_lt}
use Rattle.expressions.specs.Expr.{Atom, nonterminal, anychar, Exp, atom, cat, alt, star, empty, nodes, Content, nothing, tree, nodes_of}
use Rattle.programs.specs.Program.{Program}
use Rattle.layout.specs.Layout.{production_count, node_count, start}
use Rattle.layout.specs.Records.{nonterminal_of, first_node_of, node_count_of, nodes_before, kind_of, argument_of}
use Rattle.trees.specs.Trees.{TreeAt, ContentAt}
use Rattle.sheet.specs.Grounded.{Produced, Grounded}
use Rattle.sheet.specs.Defect.{WellFormed, DefectIs, well_formed_lem, its_size, its_sections, a_tag, a_production, a_tree, a_program, not_grounded}
use Rattle.sheet.specs.Sheet.{Rule, Sheet, From, RuleAt}
use Rattle.sheet.proofs.SheetLaws.{from_counted}
use Rattle.notation.specs.Rules.{TextRule}
use Rattle.packing.specs.Packs.{Packs}
use Rattle.naming.specs.ByName.{EachByName, SameByName}
use Rattle.naming.proofs.Typing.{same_length}
use Rattle.naming.proofs.Exists.{content_nodes}
use Rattle.renaming.specs.SameGround.{SameDefect}
use Rattle.renaming.proofs.Calls.{turned_round}

module _ (s s' : List ℕ) where
  -- node j has one kind and one argument in both
  abbrev SameNode : ℕ → Type 0
  SameNode j = (kind_of s j ≡ kind_of s' j) × (argument_of s j ≡ argument_of s' j)

  root_same : (i j k m : ℕ) → j ≡ i → kind_of s i ≡ k → kind_of s' i ≡ k → argument_of s i ≡ m → argument_of s' i ≡ m → SameNode j
  root_same i j k m e p q u w = subst SameNode (sym e) (p ∙ sym q, u ∙ sym w)

  nodes_same : (e : Exp) (i : ℕ) → TreeAt s i e → TreeAt s' i e → (j : ℕ) → i ≤ j → j < i + nodes e → SameNode j
  nodes_same (atom (nonterminal n)) i h g j lo hi = root_same i j 1 n (omega arith) h.0 g.0 h.1 g.1
  nodes_same (atom anychar) i h g j lo hi = root_same i j 2 0 (omega arith) h.0 g.0 h.1 g.1
  nodes_same (cat l r) i h g j lo hi = on (ℕ_discrete j i) (dec_lt j (suc i + nodes l)) (λ a b. nodes_same l (suc i) h.2 g.2 j a b) (λ a b. nodes_same r (suc i + nodes l) h.3 g.3 j a b)
    where
      on : Dec (j ≡ i) → Dec (j < suc i + nodes l) → (suc i ≤ j → j < suc i + nodes l → SameNode j) → (suc i + nodes l ≤ j → j < suc i + nodes l + nodes r → SameNode j) → SameNode j
      on (yes e) d f k = root_same i j 3 0 e h.0 g.0 h.1 g.1
      on (no e) (yes d) f k = f (omega arith) d
      on (no e) (no d) f k = k (omega arith) (omega arith)
  nodes_same (alt l r) i h g j lo hi = on (ℕ_discrete j i) (dec_lt j (suc i + nodes l)) (λ a b. nodes_same l (suc i) h.2 g.2 j a b) (λ a b. nodes_same r (suc i + nodes l) h.3 g.3 j a b)
    where
      on : Dec (j ≡ i) → Dec (j < suc i + nodes l) → (suc i ≤ j → j < suc i + nodes l → SameNode j) → (suc i + nodes l ≤ j → j < suc i + nodes l + nodes r → SameNode j) → SameNode j
      on (yes e) d f k = root_same i j 4 0 e h.0 g.0 h.1 g.1
      on (no e) (yes d) f k = f (omega arith) d
      on (no e) (no d) f k = k (omega arith) (omega arith)
  nodes_same (star e) i h g j lo hi = on (ℕ_discrete j i) (λ a b. nodes_same e (suc i) h.2 g.2 j a b)
    where
      on : Dec (j ≡ i) → (suc i ≤ j → j < suc i + nodes e → SameNode j) → SameNode j
      on (yes q) f = root_same i j 5 0 q h.0 g.0 h.1 g.1
      on (no q) f = f (omega arith) (omega arith)
  nodes_same empty i h g j lo hi = root_same i j 6 0 (omega arith) h.0 g.0 h.1 g.1

  -- production q of both
  record Both (q : ℕ) : Type 0 where
    content : Content
    first_is : ContentAt s q content
    second_is : ContentAt s' q content
    nonterm_same : nonterminal_of s q ≡ nonterminal_of s' q

  both : (a b : Sheet) (ps qs : List Program) (k m i : ℕ) (xs ys : List Rule) (ds : List TextRule) → From (RuleAt s ps) i k xs → From (RuleAt s' qs) i m ys → EachByName a xs ds → EachByName b ys ds
      → (q : ℕ) → i ≤ q → q < k → Both q
  both a b ps qs k m i [] ys ds f g h n q lo hi = absurd (omega (arith, f))
  both a b ps qs k m i (x ∷ xs) ys [] f g h n q lo hi = absurd h
  both a b ps qs k m i (x ∷ xs) [] (d ∷ ds) f g h n q lo hi = absurd n
  both a b ps qs k m i (x ∷ xs) (y ∷ ys) (d ∷ ds) f g h n q lo hi = on (ℕ_discrete q i) (λ l. both a b ps qs k m (suc i) xs ys ds f.1 g.1 h.1 n.1 q l hi)
    where
      here : Both i
      here = record {
        content = x.production.content;
        first_is = f.0.production_is.content_is;
        second_is = subst (ContentAt s' i) (sym n.0.nodes_are ∙ h.0.nodes_are) g.0.production_is.content_is;
        nonterm_same = sym f.0.production_is.nonterminal_is ∙ sym h.0.nonterminal_is ∙ n.0.nonterminal_is ∙ g.0.production_is.nonterminal_is;
      }

      on : Dec (q ≡ i) → (suc i ≤ q → Both q) → Both q
      on (yes e) r = subst Both (sym e) here
      on (no e) r = r (omega arith)

-- the production whose run a node lies in
in_run : (s : List ℕ) (n j : ℕ) → j < nodes_before s n → (q : ℕ) × (q < n) × (nodes_before s q ≤ j) × (j < nodes_before s q + node_count_of s q)
in_run s zero j h = absurd (omega arith)
in_run s (suc n) j h = on (dec_lt j (nodes_before s n)) (λ l. in_run s n j l)
  where
    on : Dec (j < nodes_before s n) → (j < nodes_before s n → (q : ℕ) × (q < n) × (nodes_before s q ≤ j) × (j < nodes_before s q + node_count_of s q))
        → (q : ℕ) × (q < suc n) × (nodes_before s q ≤ j) × (j < nodes_before s q + node_count_of s q)
    on (yes l) r = let i = r l in (i.0, omega (arith, i.1), i.2, i.3)
    on (no l) r = (n, omega arith, omega arith, h)

module _ (s s' : List ℕ) (a b : Sheet) (p : Packs s a) (p' : Packs s' b) (m : SameByName a b) where
  pair : (q : ℕ) → q < production_count s → Both s s' q
  pair q l = both s s' a b p.programs.programs p'.programs.programs (production_count s) (production_count s') 0 a.rules b.rules m.rules.productions p.rules_are p'.rules_are m.first_is.rules_are m.second_is.rules_are q (omega arith) l

  same_count : (q : ℕ) → q < production_count s → node_count_of s q ≡ node_count_of s' q
  same_count q l = let x = pair q l in sym (content_nodes s q x.content x.first_is) ∙ content_nodes s' q x.content x.second_is

  same_before : (q : ℕ) → q ≤ production_count s → nodes_before s q ≡ nodes_before s' q
  same_before zero l = refl
  same_before (suc q) l = omega (arith, same_before q (omega arith), same_count q (omega arith))

  as_many : production_count s ≡ production_count s'
  as_many =
      omega (
        arith,
        from_counted (RuleAt s p.programs.programs) 0 (production_count s) a.rules p.rules_are,
        from_counted (RuleAt s' p'.programs.programs) 0 (production_count s') b.rules p'.rules_are,
        same_length a a.rules m.rules.productions m.first_is.rules_are,
        same_length b b.rules m.rules.productions m.second_is.rules_are,
      )

  all_nodes : node_count s ≡ node_count s'
  all_nodes = sym p.productions.every_node ∙ same_before (production_count s) (omega arith) ∙ ap (nodes_before s') as_many ∙ p'.productions.every_node

  node_same : (j : ℕ) → j < node_count s → SameNode s s' j
  node_same j l =
      let i = in_run s (production_count s) j (omega (arith, l, p.productions.every_node)) in
      let x = pair i.0 i.1 in
      on i.0 i.1 i.2 i.3 x.content x.first_is x.second_is
    where
      on : (q : ℕ) → q < production_count s → nodes_before s q ≤ j → j < nodes_before s q + node_count_of s q → (c : Content) → ContentAt s q c → ContentAt s' q c → SameNode s s' j
      on q l lo hi nothing h g = absurd (omega (arith, h))
      on q l lo hi (tree e) h g =
          let f = (p.productions.each q l).follows in
          let f' = (p'.productions.each q (omega (arith, as_many, l))).follows in
          let t : first_node_of s' q ≡ first_node_of s q = f' ∙ sym (same_before q (omega arith)) ∙ sym f in
          nodes_same s s' e (first_node_of s q) h.0 (subst (λ z. TreeAt s' z e) t g.0) j (omega (arith, f, lo)) (omega (arith, f, hi, h.1))

  produced_too : (n n' : ℕ) → n ≡ n' → Produced s n → Produced s' n'
  produced_too n n' e x = record { number = x.number; there = omega (arith, as_many, x.there); its = sym (pair x.number x.there).nonterm_same ∙ x.its ∙ e }

  grounded_too : Grounded s → Grounded s'
  grounded_too g = record {
    start_has = produced_too (start s) (start s') (sym p.start_is ∙ sym m.first_is.start_is ∙ m.second_is.start_is ∙ p'.start_is) g.start_has;
    atoms_have = λ i l e. let x = node_same i (omega (arith, all_nodes, l)) in produced_too (argument_of s i) (argument_of s' i) x.1 (g.atoms_have i (omega (arith, all_nodes, l)) (x.0 ∙ e));
  }

defect_too : (s s' : List ℕ) (a b : Sheet) → Packs s a → Packs s' b → SameByName a b → (d : ℕ) → DefectIs s d → DefectIs s' d
defect_too s s' a b p q m d (well_formed_lem w) =
    well_formed_lem (record { size = q.size; sections = q.sections; tags = q.tags; productions = q.productions; trees = q.trees; programs = q.programs; grounded = grounded_too s s' a b p q m w.grounded })
defect_too s s' a b p q m d (its_size n) = absurd (n p.size)
defect_too s s' a b p q m d (its_sections x n) = absurd (n p.sections)
defect_too s s' a b p q m d (a_tag x y n) = absurd (n p.tags)
defect_too s s' a b p q m d (a_production x y z n) = absurd (n p.productions)
defect_too s s' a b p q m d (a_tree x y z u n) = absurd (n p.trees)
defect_too s s' a b p q m d (a_program x y z u w n) = absurd (n p.programs)
defect_too s s' a b p q m d (not_grounded x y z u w v n) = not_grounded q.size q.sections q.tags q.productions q.trees q.programs (λ g. n (grounded_too s' s b a q p (turned_round a b m) g))

pub same_defect : SameDefect
same_defect s s' a b p q m d = (defect_too s s' a b p q m d, defect_too s' s b a q p (turned_round a b m) d)
