-- From the walks over a production's tree to what is asked of the sheet's grammar.
-- Assumes nothing.
use mathlib.Core.Path.{◌≡◌, refl, sym, ◌∙◌, ap, subst}
use mathlib.Core.Bool.{false}
use mathlib.Core.List.{List}
use Prim.Native.Nat.{ℕ, zero, suc}
use native.Mathlib.Omega.{arith}
use lib.Dec.{eqb}
use borrow.Author.Tests.{ne_eqb}
use Rattle.expressions.specs.Expr.{Exp, Content, nothing, tree}
use Rattle.expressions.specs.Grammar.{Production, tags_of}
use Rattle.layout.specs.Records.{first_node_of, node_count_of}
use Rattle.parting.specs.Firsts.{no_string, firsts_to_end, firsts_to_atom}
use Rattle.trees.specs.declared.Symbol.{Symbol}
use Rattle.trees.specs.declared.Symbol.TheVariants.{Tag, Character, End}
use Rattle.trees.specs.Trees.{TreeAt, ContentAt}
use Rattle.trees.specs.GrammarAt.{GrammarIs}
use Rattle.trees.specs.Symbol.{next_of}
use Rattle.trees.proofs.Grammars.{nth_is}
use Rattle.trees.proofs.Unique.{nodes_pos}
use Rattle.ways.specs.declared.Spot.{Spot}
use Rattle.ways.specs.Spot.{At}
use Rattle.witness.specs.declared.Pair.{Pair}
use Rattle.witness.specs.Held.{AreHeld, HoldsWithin, WhenIs}
use Rattle.witness.specs.Walks.{FirstsThrough, FirstsInto, FirstsOutOf, FirstsAcross, ToEnd, ToAtom, FirstsAre}

module _ (s : List ℕ) (q n : ℕ) (nodes_are : n ≡ node_count_of s q) (p : ℕ) (r : Pair) where
  module _ (z : n ≡ 0) where
    no_tree : (e : Exp) → ContentAt s q (tree e) → ⊥
    no_tree e h = omega (arith, nodes_pos e, h.1)

    empty_end : WhenIs (eqb p 0) r → (p' : ℕ) → p ≡ p' → (c : Content) → ContentAt s q c → AreHeld (firsts_to_end c p') r
    empty_end w zero e nothing h = (w.is (eqb 0 0) (ap (λ (k : ℕ). eqb k 0) e)).held
    empty_end w (suc p') e nothing h = (w.is false (ap (λ (k : ℕ). eqb k 0) e ∙ ne_eqb (suc p') 0 (λ z. omega arith))).held
    empty_end w p' e (tree f) h = absurd (no_tree f h)

    pub end_empty : WhenIs (eqb p 0) r → ToEnd s q p r
    end_empty w = record { is = λ g γ d m. empty_end w p refl d.content (nth_is s g γ q d m).content_is }

    empty_atom : (x : Symbol) → HoldsWithin 0 0 no_string r → (g : List Production) (c : Content) → ContentAt s q c → AreHeld (firsts_to_atom (tags_of g) c p (next_of x)) r
    empty_atom x w g nothing h = w.held
    empty_atom x w g (tree f) h = absurd (no_tree f h)

    pub atom_empty : (x : Symbol) → HoldsWithin 0 0 no_string r → ToAtom s q p x r
    atom_empty x w = record { is = λ g γ d m. empty_atom x w g d.content (nth_is s g γ q d m).content_is }

  module _ (some : n ≡ 0 → ⊥) (t : Spot) (node_is : t.node ≡ first_node_of s q) (bracket_1 : t.bracket ≡ 1) (atom_1 : t.atom ≡ 1) where
    here : (e : Exp) → ContentAt s q (tree e) → At s t e 1 1
    here e h = record { stands = subst (λ (z : ℕ). TreeAt s z e) (sym node_is) h.0; bracket_is = bracket_1; atom_is = atom_1 }

    through_from : FirstsThrough s t r → (p' : ℕ) → p' ≡ 0 → (c : Content) → ContentAt s q c → AreHeld (firsts_to_end c p') r
    through_from w p' e nothing h = absurd (some (nodes_are ∙ h))
    through_from w zero e (tree f) h = (w.is f 1 1 (here f h)).held
    through_from w (suc p') e (tree f) h = absurd (omega arith)

    pub end_through : p ≡ 0 → FirstsThrough s t r → ToEnd s q p r
    end_through e w = record { is = λ g γ d m. through_from w p e d.content (nth_is s g γ q d m).content_is }

    out_from : (p' : ℕ) → FirstsOutOf s t p' r → (p' ≡ 0 → ⊥) → (c : Content) → ContentAt s q c → AreHeld (firsts_to_end c p') r
    out_from p' w e nothing h = absurd (some (nodes_are ∙ h))
    out_from zero w e (tree f) h = absurd (e refl)
    out_from (suc p') w e (tree f) h = (w.is f 1 1 (here f h)).held

    pub end_out : (p ≡ 0 → ⊥) → FirstsOutOf s t p r → ToEnd s q p r
    end_out e w = record { is = λ g γ d m. out_from p w e d.content (nth_is s g γ q d m).content_is }

    into_from : (x : Symbol) → FirstsInto s t x r → (g : List Production) → GrammarIs s g → (p' : ℕ) → p' ≡ 0 → (c : Content) → ContentAt s q c →
        AreHeld (firsts_to_atom (tags_of g) c p' (next_of x)) r
    into_from x w g γ p' e nothing h = absurd (some (nodes_are ∙ h))
    into_from x w g γ zero e (tree f) h = (w.is g γ f 1 1 (here f h)).held
    into_from x w g γ (suc p') e (tree f) h = absurd (omega arith)

    pub atom_into : (x : Symbol) → p ≡ 0 → FirstsInto s t x r → ToAtom s q p x r
    atom_into x e w = record { is = λ g γ d m. into_from x w g γ p e d.content (nth_is s g γ q d m).content_is }

    across_from : (x : Symbol) (p' : ℕ) → FirstsAcross s t p' x r → (g : List Production) → GrammarIs s g → (p' ≡ 0 → ⊥) → (c : Content) → ContentAt s q c →
        AreHeld (firsts_to_atom (tags_of g) c p' (next_of x)) r
    across_from x p' w g γ e nothing h = absurd (some (nodes_are ∙ h))
    across_from x zero w g γ e (tree f) h = absurd (e refl)
    across_from x (suc p') w g γ e (tree f) h = (w.is g γ f 1 1 (here f h)).held

    pub atom_across : (x : Symbol) → (p ≡ 0 → ⊥) → FirstsAcross s t p x r → ToAtom s q p x r
    atom_across x e w = record { is = λ g γ d m. across_from x p w g γ e d.content (nth_is s g γ q d m).content_is }

-- by the symbol
module _ (s : List ℕ) (q p : ℕ) (x : Symbol) (r : Pair) where
  pub to_tag : (t : ℕ) → x ≡ Tag t → ToAtom s q p x r → FirstsAre s q p x r
  to_tag t e h = subst (λ (y : Symbol). FirstsAre s q p y r) (sym e) (record { is = (subst (λ (y : Symbol). ToAtom s q p y r) e h).is })

  pub to_character : x ≡ Character → ToAtom s q p x r → FirstsAre s q p x r
  to_character e h = subst (λ (y : Symbol). FirstsAre s q p y r) (sym e) (record { is = (subst (λ (y : Symbol). ToAtom s q p y r) e h).is })

  pub to_the_end : x ≡ End → ToEnd s q p r → FirstsAre s q p x r
  to_the_end e h = subst (λ (y : Symbol). FirstsAre s q p y r) (sym e) (record { is = h.is })
