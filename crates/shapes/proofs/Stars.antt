-- A tree of two nodes is a star over an atom or over the empty word: the second node's kind tells, and its argument is the nonterminal.
-- Assumes nothing.
use mathlib.Core.Path.{◌≡◌, sym, subst, ◌∙◌}
use mathlib.Core.List.{List}
use mathlib.Core.Option.{some}
use Prim.Native.Nat.{ℕ, suc, ◌+◌, ◌<◌}
use native.Mathlib.Omega.{arith}
use Rattle.std.specs.Prelude.{Some, None}
use Rattle.expressions.specs.Expr.{atom, cat, alt, star, empty, nonterminal, anychar, Content, nothing, tree}
use Rattle.expressions.specs.Grammar.{content_of}
use Rattle.layout.specs.Layout.{production_count}
use Rattle.layout.specs.Records.{kind_of, argument_of, first_node_of, node_count_of}
use Rattle.trees.specs.Trees.{ContentAt}
use Rattle.trees.proofs.Grammars.{content_at}
use Rattle.trees.proofs.Unique.{nodes_pos}
use Rattle.salvage.specs.Shaped.{star_over}
use Rattle.shapes.specs.Told.{NumberOr, there, missing, StarTold}

module _ (s : List ℕ) (q : ℕ) (b : q < production_count s) where
  -- not of two nodes
  not_two : (c : Content) → (node_count_of s q ≡ 2 → ⊥) → ContentAt s q c → NumberOr (star_over c) None
  not_two nothing e h = missing
  not_two (tree (atom k)) e h = missing
  not_two (tree (cat l r)) e h = missing
  not_two (tree (alt l r)) e h = missing
  not_two (tree empty) e h = missing
  not_two (tree (star (atom (nonterminal n)))) e h = absurd (e (sym h.1))
  not_two (tree (star (atom anychar))) e h = missing
  not_two (tree (star (cat l r))) e h = missing
  not_two (tree (star (alt l r))) e h = missing
  not_two (tree (star (star x))) e h = missing
  not_two (tree (star empty)) e h = missing

  -- of two nodes, and the second is no nonterminal
  not_named : (c : Content) (i : ℕ) → i ≡ suc (first_node_of s q) → (kind_of s i ≡ 1 → ⊥) → ContentAt s q c → NumberOr (star_over c) None
  not_named nothing i f e h = missing
  not_named (tree (atom k)) i f e h = missing
  not_named (tree (cat l r)) i f e h = missing
  not_named (tree (alt l r)) i f e h = missing
  not_named (tree empty) i f e h = missing
  not_named (tree (star (atom (nonterminal n)))) i f e h = absurd (e (subst (λ (k : ℕ). kind_of s k ≡ 1) (sym f) h.0.2.0))
  not_named (tree (star (atom anychar))) i f e h = missing
  not_named (tree (star (cat l r))) i f e h = missing
  not_named (tree (star (alt l r))) i f e h = missing
  not_named (tree (star (star x))) i f e h = missing
  not_named (tree (star empty)) i f e h = missing

  -- of two nodes, the second a nonterminal
  is_named : (c : Content) (i r : ℕ) → i ≡ suc (first_node_of s q) → node_count_of s q ≡ 2 → kind_of s i ≡ 1 → r ≡ argument_of s i → ContentAt s q c → NumberOr (star_over c) (Some r)
  is_named nothing i r f two e k h = absurd (omega arith)
  is_named (tree (atom x)) i r f two e k h = absurd (omega (arith, h.1))
  is_named (tree empty) i r f two e k h = absurd (omega (arith, h.1))
  is_named (tree (cat x y)) i r f two e k h = absurd (omega (arith, h.1, nodes_pos x, nodes_pos y))
  is_named (tree (alt x y)) i r f two e k h = absurd (omega (arith, h.1, nodes_pos x, nodes_pos y))
  is_named (tree (star (atom (nonterminal n)))) i r f two e k h =
      let j : argument_of s i ≡ n = subst (λ (z : ℕ). argument_of s z ≡ n) (sym f) h.0.2.1 in
      subst (λ (i : ℕ). NumberOr (some n) (Some i)) (sym (k ∙ j)) (there (omega (arith, h.0.2.2)))
  is_named (tree (star (atom anychar))) i r f two e k h = absurd (omega (arith, subst (λ (z : ℕ). kind_of s z ≡ 2) (sym f) h.0.2.0))
  is_named (tree (star (cat x y))) i r f two e k h = absurd (omega (arith, h.1, nodes_pos x, nodes_pos y))
  is_named (tree (star (alt x y))) i r f two e k h = absurd (omega (arith, h.1, nodes_pos x, nodes_pos y))
  is_named (tree (star (star x))) i r f two e k h = absurd (omega (arith, h.1, nodes_pos x))
  is_named (tree (star empty)) i r f two e k h = absurd (omega (arith, subst (λ (z : ℕ). kind_of s z ≡ 6) (sym f) h.0.2.0))

  pub other_count : (node_count_of s q ≡ 2 → ⊥) → StarTold s q None
  other_count e = record { few = tt; is = λ g h. not_two (content_of g q) e (content_at s g h q b) }

  pub other_kind : (i : ℕ) → i ≡ first_node_of s q → (kind_of s (i + 1) ≡ 1 → ⊥) → StarTold s q None
  other_kind i f e = record { few = tt; is = λ g h. not_named (content_of g q) (i + 1) (omega arith) e (content_at s g h q b) }

  pub star_told : (i r : ℕ) → i ≡ first_node_of s q → node_count_of s q ≡ 2 → kind_of s (i + 1) ≡ 1 → r ≡ argument_of s (i + 1) → r < 256 → StarTold s q (Some r)
  star_told i r f two e k few = record { few = few; is = λ g h. is_named (content_of g q) (i + 1) r (omega arith) two e k (content_at s g h q b) }
