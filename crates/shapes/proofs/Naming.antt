-- An expression names a nonterminal where one of its nodes is of kind 1 with that argument: by induction on the tree, whose nodes follow one another.
-- Assumes nothing.
use mathlib.Core.Path.{◌≡◌, refl, sym, ap, ap₂, ◌∙◌}
use mathlib.Core.Bool.{Bool, true, false, ◌||◌, ◌&&◌, or-true}
use mathlib.Core.Logic.{◌⊎◌, inl, inr, ⊎_elim}
use mathlib.Core.List.{List}
use Prim.Native.Nat.{ℕ, suc, ◌+◌, ◌≤◌, ◌<◌}
use native.Mathlib.Omega.{arith}
use lib.Dec.{eqb, ltb}
use borrow.Author.Tests.{ltb-true, ltb-false, eq-eqb, ne_eqb, eqb-true}
use Rattle.expressions.specs.Expr.{Exp, atom, cat, alt, star, empty, nonterminal, anychar, nodes, Content, nothing, tree}
use Rattle.expressions.specs.Grammar.{content_of}
use Rattle.layout.specs.Layout.{production_count}
use Rattle.layout.specs.Records.{kind_of, argument_of, first_node_of, node_count_of}
use Rattle.trees.specs.Trees.{TreeAt, ContentAt}
use Rattle.trees.proofs.Grammars.{content_at}
use Rattle.salvage.specs.Shape.{names_it, content_names}
use Rattle.shapes.specs.Told.{NamesTold}

false_true : ◌≡◌ {A = Bool} false true → ⊥
false_true e = let z : ◌≡◌ {A = ℕ} 0 1 = cc in omega arith

module _ (s : List ℕ) (n : ℕ) where
  -- node i names it
  abbrev pub NodeNames : ℕ → Type 0
  NodeNames i = (kind_of s i ≡ 1) × (n ≡ argument_of s i)

  -- none of the nodes from i up to k does
  abbrev pub NoneNames : ℕ → ℕ → Type 0
  NoneNames i k = (j : ℕ) → j < k → i ≤ j → NodeNames j → ⊥

  -- the test of a node, of what is read of it
  pub tests_true : (i k m : ℕ) → k ≡ kind_of s i → m ≡ argument_of s i → (eqb k 1 && eqb n m) ≡ true → NodeNames i
  tests_true i k m e f h = by (eqb k 1) refl (eqb n m) refl h
    where
      by : (b : Bool) → eqb k 1 ≡ b → (c : Bool) → eqb n m ≡ c → (b && c) ≡ true → NodeNames i
      by true u true v w = (sym e ∙ eqb-true k 1 u, eqb-true n m v ∙ f)
      by true u false v w = absurd (false_true w)
      by false u c v w = absurd (false_true w)

  pub tests_false : (i k m : ℕ) → k ≡ kind_of s i → m ≡ argument_of s i → (eqb k 1 && eqb n m) ≡ false → NodeNames i → ⊥
  tests_false i k m e f h w = false_true (sym h ∙ ap₂ (λ (b c : Bool). b && c) (eq-eqb k 1 (e ∙ w.0)) (eq-eqb n m (w.1 ∙ sym f)))

  none_in : (i : ℕ) (e : Exp) → TreeAt s i e → NoneNames i (i + nodes e) → false ≡ names_it n e
  none_in i (atom (nonterminal m)) h f = sym (ne_eqb n m (λ z. f i (omega arith) (omega arith) (h.0, z ∙ sym h.1)))
  none_in i (atom anychar) h f = refl
  none_in i (cat l r) h f =
      ap₂ (λ (b c : Bool). b || c) (none_in (suc i) l h.2 (λ j u v. f j (omega arith) (omega arith))) (none_in (suc i + nodes l) r h.3 (λ j u v. f j (omega arith) (omega arith)))
  none_in i (alt l r) h f =
      ap₂ (λ (b c : Bool). b || c) (none_in (suc i) l h.2 (λ j u v. f j (omega arith) (omega arith))) (none_in (suc i + nodes l) r h.3 (λ j u v. f j (omega arith) (omega arith)))
  none_in i (star e) h f = none_in (suc i) e h.2 (λ j u v. f j (omega arith) (omega arith))
  none_in i empty h f = refl

  either : (b c : Bool) → (true ≡ b) ⊎ (true ≡ c) → true ≡ (b || c)
  either b c (inl e) = ap (λ (x : Bool). x || c) e
  either b c (inr e) = sym (or-true b) ∙ ap (λ (x : Bool). b || x) e

  -- a node of two parts behind their first node is of the one or of the other
  part_of : (i m k j : ℕ) → i ≤ j → j < i + suc (m + k) → (j ≡ i) ⊎ (((suc i ≤ j) × (j < suc i + m)) ⊎ ((suc i + m ≤ j) × (j < suc i + m + k)))
  part_of i m k j u v = by (ltb i j) refl (ltb j (suc i + m)) refl
    where
      by : (b : Bool) → ltb i j ≡ b → (c : Bool) → ltb j (suc i + m) ≡ c → (j ≡ i) ⊎ (((suc i ≤ j) × (j < suc i + m)) ⊎ ((suc i + m ≤ j) × (j < suc i + m + k)))
      by false e c f = inl (omega (arith, ltb-false i j e))
      by true e true f = inr (inl (ltb-true i j e, ltb-true j (suc i + m) f))
      by true e false f = inr (inr (ltb-false j (suc i + m) f, omega arith))

  other_kind : (i j : ℕ) → j ≡ i → kind_of s j ≡ 1 → (kind_of s i ≡ 1 → ⊥) → ⊥
  other_kind i j e k f = f (sym (ap (kind_of s) e) ∙ k)

  one_in : (i : ℕ) (e : Exp) → TreeAt s i e → (j : ℕ) → i ≤ j → j < i + nodes e → NodeNames j → true ≡ names_it n e
  one_in i (atom (nonterminal m)) h j u v k =
      let z : j ≡ i = omega arith in
      sym (eq-eqb n m (k.1 ∙ ap (argument_of s) z ∙ h.1))
  one_in i (atom anychar) h j u v k = absurd (other_kind i j (omega arith) k.0 (λ z. omega (arith, h.0)))
  one_in i (cat l r) h j u v k =
      ⊎_elim (λ z. absurd (other_kind i j z k.0 (λ y. omega (arith, h.0))))
      (λ w. either (names_it n l) (names_it n r) (⊎_elim (λ z. inl (one_in (suc i) l h.2 j z.0 z.1 k)) (λ z. inr (one_in (suc i + nodes l) r h.3 j z.0 z.1 k)) w))
      (part_of i (nodes l) (nodes r) j u v)
  one_in i (alt l r) h j u v k =
      ⊎_elim (λ z. absurd (other_kind i j z k.0 (λ y. omega (arith, h.0))))
      (λ w. either (names_it n l) (names_it n r) (⊎_elim (λ z. inl (one_in (suc i) l h.2 j z.0 z.1 k)) (λ z. inr (one_in (suc i + nodes l) r h.3 j z.0 z.1 k)) w))
      (part_of i (nodes l) (nodes r) j u v)
  one_in i (star e) h j u v k =
      ⊎_elim (λ z. absurd (other_kind i j z k.0 (λ y. omega (arith, h.0))))
      (⊎_elim (λ z. one_in (suc i) e h.2 j z.0 z.1 k) (λ z. absurd (omega (arith, z))))
      (part_of i (nodes e) 0 j u (omega arith))
  one_in i empty h j u v k = absurd (other_kind i j (omega arith) k.0 (λ z. omega (arith, h.0)))

  module _ (q : ℕ) (b : q < production_count s) (i k : ℕ) (first : i ≡ first_node_of s q) (past : k ≡ i + node_count_of s q) where
    none_of : (m : ℕ) → k ≤ m → NoneNames i m → (c : Content) → ContentAt s q c → false ≡ content_names n c
    none_of m u f nothing h = refl
    none_of m u f (tree e) h = none_in (first_node_of s q) e h.0 (λ j y z. f j (omega (arith, h.1)) (omega arith))

    one_of_lem : (c : Content) → ContentAt s q c → (j : ℕ) → i ≤ j → j < k → NodeNames j → true ≡ content_names n c
    one_of_lem nothing h j u v e = absurd (omega arith)
    one_of_lem (tree e) h j u v z = one_in (first_node_of s q) e h.0 j (omega arith) (omega (arith, h.1)) z

    pub none_names : (m : ℕ) → k ≤ m → NoneNames i m → NamesTold s q n false
    none_names m u f = record { is = λ g h. none_of m u f (content_of g q) (content_at s g h q b) }

    pub one_names : (j : ℕ) → i ≤ j → j < k → NodeNames j → NamesTold s q n true
    one_names j u v e = record { is = λ g h. one_of_lem (content_of g q) (content_at s g h q b) j u v e }
