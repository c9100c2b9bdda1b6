-- From the counts of a production's tree to what is asked of the sheet's grammar: a production's content is what its record says,
-- so the walk's answer for every tree there is the answer for that one.
-- Assumes nothing.
use mathlib.Core.Path.{◌≡◌, refl, sym, ◌∙◌, ap, subst}
use mathlib.Core.Bool.{Bool}
use mathlib.Core.List.{List, []}
use Prim.Native.Nat.{ℕ, ◌+◌, ◌-◌, ◌≤◌, ◌<◌}
use native.Mathlib.Omega.{arith}
use lib.Dec.{ltb}
use lib.ListN.{get_or}
use Rattle.expressions.specs.Expr.{Exp, Content, nothing, tree, nonterminal, nodes, atoms_of}
use Rattle.limits.specs.Limits.{most_tags}
use Rattle.expressions.specs.Grammar.{Production, nonterminals, tags_of, can_be}
use Rattle.layout.specs.Layout.{production_count, node_count}
use Rattle.layout.specs.Records.{first_node_of, node_count_of}
use Rattle.trees.specs.declared.Number.{Number}
use Rattle.trees.specs.declared.Number.TheVariants.{None, One, Many}
use Rattle.trees.specs.declared.Symbol.{Symbol}
use Rattle.trees.specs.declared.Symbol.TheVariants.{Tag, Character, End}
use Rattle.trees.specs.declared.Tally.{Tally}
use Rattle.trees.specs.Trees.{TreeAt, ContentAt, Trees}
use Rattle.trees.specs.GrammarAt.{GrammarIs}
use Rattle.trees.specs.Parsed.{RunsInside}
use Rattle.trees.specs.Symbol.{next_of}
use Rattle.trees.specs.Tally.{count_of, TreeIn, Tallied}
use Rattle.trees.specs.Answers.{AlikeIs, can_be_in, CanBeIs, CharacterIs, AtomsIs}
use Rattle.trees.specs.Sums.{cell_of, AllAlike, sum_cells, CountedFrom}
use Rattle.trees.proofs.Grammars.{nth_is, nth_there, alike_there, member_alike}
use Rattle.trees.proofs.Tallies.{few_atoms}
use Rattle.trees.proofs.Unique.{nodes_pos}

-- the next symbol: what is told of the records holds of the grammar
pub can_be_of_grammar : (s : List ℕ) (n : ℕ) (x : Symbol) (g : List Production) → GrammarIs s g → can_be_in s n x ≡ can_be (tags_of g) (nonterminal n) (next_of x)
can_be_of_grammar s n (Tag t) g γ = ap (ltb 0) (alike_there s n t g γ) ∙ sym (member_alike t n g)
can_be_of_grammar s n Character g γ = refl
can_be_of_grammar s n End g γ = refl

module _ (s : List ℕ) (q n : ℕ) (nodes_are : n ≡ node_count_of s q) where
  no_tree_there : n ≡ 0 → (e : Exp) → ContentAt s q (tree e) → ⊥
  no_tree_there z e h = few_none e (omega (arith, h.1))
    where
      few_none : (e : Exp) → nodes e ≡ 0 → ⊥
      few_none e z = omega (arith, nodes_pos e)

  module _ (z : n ≡ 0) where
    atoms_of_none : (c : Content) → ContentAt s q c → 0 ≡ atoms_of c
    atoms_of_none nothing h = refl
    atoms_of_none (tree e) h = absurd (no_tree_there z e h)

    pub no_atoms : AtomsIs s q 0
    no_atoms = record { few = omega arith; is = λ g γ d m. atoms_of_none d.content (nth_is s g γ q d m).content_is }

  module _ (some : n ≡ 0 → ⊥) (i : ℕ) (first : i ≡ first_node_of s q) where
    here : (e : Exp) → ContentAt s q (tree e) → TreeAt s i e
    here e h = subst (λ (z : ℕ). TreeAt s z e) (sym first) h.0

    tree_of : (c : Content) → ContentAt s q c → i + n ≤ node_count s → TreeIn s i n 1
    tree_of nothing h b = absurd (some (nodes_are ∙ h))
    tree_of (tree e) h b = record { expression = e; stands = here e h; few = omega (arith, h.1); inside = omega (arith, h.1); number = omega arith }

    -- the production's nodes are a tree for the walk
    pub tree_there : Trees s → RunsInside s → q < production_count s → TreeIn s i n 1
    tree_there t r b = tree_of (t.each q b).0 (t.each q b).1 (omega (arith, r.inside q b))

    module _ (p : ℕ) (t : Tally) (tallied : Tallied s p i 1 t) where
      atoms_of_lem : (c : Content) → ContentAt s q c → t.atom - 1 ≡ atoms_of c
      atoms_of_lem nothing h = absurd (some (nodes_are ∙ h))
      atoms_of_lem (tree e) h = omega (arith, tallied.passes e (here e h))

      few_of : (c : Content) → ContentAt s q c → t.atom - 1 ≤ node_count_of s q
      few_of nothing h = absurd (some (nodes_are ∙ h))
      few_of (tree e) h = omega (arith, tallied.passes e (here e h), few_atoms e, h.1)

      pub atoms_are : Trees s → q < production_count s → AtomsIs s q (t.atom - 1)
      atoms_are w b = record { few = few_of (w.each q b).0 (w.each q b).1; is = λ g γ d m. atoms_of_lem d.content (nth_is s g γ q d m).content_is }

      -- the walk's last atom is no less than 1
      pub some_atom : TreeIn s i n 1 → 1 ≤ t.atom
      some_atom h = omega (arith, tallied.passes h.expression h.stands)

-- any two answers are equal; where they speak of the grammar, there is one (`grammar_is`)
same_number : (a b : Number) → count_of a ≡ count_of b → a ≡ b
same_number None None e = refl
same_number None One e = cc
same_number None Many e = cc
same_number One None e = cc
same_number One One e = refl
same_number One Many e = cc
same_number Many None e = cc
same_number Many One e = cc
same_number Many Many e = refl

tally_by : {t u : Tally} → t.null ≡ u.null → t.last ≡ u.last → t.next ≡ u.next → t.atom ≡ u.atom → t ≡ u
tally_by {t} {u} a b c d =
    let w : record { null = t.null; last = t.last; next = t.next; atom = t.atom } ≡ u = rw (a, b, c, d) refl in
    w

pub one_character_lem : (x : Symbol) (a b : Bool) → CharacterIs x a → CharacterIs x b → a ≡ b
one_character_lem x a b h k = h.is (tags_of []) ∙ sym (k.is (tags_of []))

module _ (s : List ℕ) where
  pub one_alike : (m t a b : ℕ) → AlikeIs s m t a → AlikeIs s m t b → a ≡ b
  one_alike m t a b h k = h.is ∙ sym k.is

  pub one_can_be : (n : ℕ) (x : Symbol) (a b : Bool) → CanBeIs s n x a → CanBeIs s n x b → a ≡ b
  one_can_be n x a b h k = h.is ∙ sym k.is

  pub one_tally : (p at left j : ℕ) → TreeIn s at left j → (t u : Tally) → Tallied s p at j t → Tallied s p at j u → t ≡ u
  one_tally p at left j i t u m n =
      let e = i.expression in
      let h = i.stands in
      let c = m.counts e h in
      let d = n.counts e h in
      tally_by (same_number t.null u.null (c.null_is ∙ sym d.null_is))
      (same_number t.last u.last (c.last_is ∙ sym d.last_is))
      ((m.passes e h).next_is ∙ sym (n.passes e h).next_is)
      ((m.passes e h).atom_is ∙ sym (n.passes e h).atom_is)

  module _ (g : List Production) (γ : GrammarIs s g) where
    pub one_number_of_atoms : (q : ℕ) → q < production_count s → (a b : ℕ) → AtomsIs s q a → AtomsIs s q b → a ≡ b
    one_number_of_atoms q l a b h k = let d = nth_there s g γ q l in h.is g γ d.0 d.1 ∙ sym (k.is g γ d.0 d.1)

  -- the productions alike, cell by cell; and from a place the number of strings to the end, with each of the sums
  pub one_all_alike : (x y : List ℕ) → AllAlike s x → AllAlike s y → (n u : ℕ) → n < nonterminals → u < most_tags → get_or x (cell_of n u) 0 ≡ get_or y (cell_of n u) 0
  one_all_alike x y h k n u a b = h.is n u a b ∙ sym (k.is n u a b)

  pub one_count : (q p : ℕ) (g : List Production) → GrammarIs s g → (before x y : List ℕ) (a b : Number) → CountedFrom s q p before x a → CountedFrom s q p before y b →
      (a ≡ b) × ((i : ℕ) → i < sum_cells → get_or x i 0 ≡ get_or y i 0)
  one_count q p g γ before x y a b h k =
      (same_number a b (h.end_is g γ ∙ sym (k.end_is g γ)), λ i l. (h.sums_are g γ).each i l ∙ sym ((k.sums_are g γ).each i l))
