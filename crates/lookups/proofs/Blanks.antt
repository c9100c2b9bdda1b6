-- A tree has a character atom where one of its nodes is of kind 2: by induction on the tree, whose nodes follow one another.
-- Assumes nothing.
use mathlib.Core.Path.{◌≡◌, refl, sym, ap, ap₂, ◌∙◌}
use mathlib.Core.Bool.{Bool, true, false, ◌&&◌, and-false}
use mathlib.Core.Logic.{◌⊎◌, inl, inr, ⊎_elim}
use mathlib.Core.List.{List}
use Prim.Native.Nat.{ℕ, suc, ◌+◌, ◌≤◌, ◌<◌}
use native.Mathlib.Omega.{arith}
use lib.Dec.{ltb}
use borrow.Author.Tests.{ltb-true, ltb-false}
use Rattle.expressions.specs.Expr.{Exp, atom, cat, alt, star, empty, nonterminal, anychar, nodes, Content, nothing, tree}
use Rattle.expressions.specs.Grammar.{content_of}
use Rattle.layout.specs.Layout.{production_count}
use Rattle.layout.specs.Records.{kind_of, first_node_of, node_count_of}
use Rattle.trees.specs.Trees.{TreeAt, ContentAt}
use Rattle.trees.proofs.Grammars.{content_at}
use Rattle.trees.proofs.Unique.{nodes_pos}
use Rattle.sheet.proofs.SheetLaws.{sheet_grammar}
use Rattle.runs.specs.Visits.{grammar}
use Rattle.runs.specs.Spells.{no_character, blanks_pass}
use Rattle.lookups.specs.Found.{BlanksTold}

module _ (s : List ℕ) where
  -- none of the nodes from i up to k is of kind 2
  abbrev pub NoneOfKind2 : ℕ → ℕ → Type 0
  NoneOfKind2 i k = (j : ℕ) → j < k → i ≤ j → kind_of s j ≡ 2 → ⊥

  none_in : (i : ℕ) (e : Exp) → TreeAt s i e → NoneOfKind2 i (i + nodes e) → true ≡ no_character e
  none_in i (atom (nonterminal n)) h f = refl
  none_in i (atom anychar) h f = absurd (f i (omega arith) (omega arith) h.0)
  none_in i (cat l r) h f =
      ap₂ (λ (b c : Bool). b && c) (none_in (suc i) l h.2 (λ j u v. f j (omega arith) (omega arith))) (none_in (suc i + nodes l) r h.3 (λ j u v. f j (omega arith) (omega arith)))
  none_in i (alt l r) h f =
      ap₂ (λ (b c : Bool). b && c) (none_in (suc i) l h.2 (λ j u v. f j (omega arith) (omega arith))) (none_in (suc i + nodes l) r h.3 (λ j u v. f j (omega arith) (omega arith)))
  none_in i (star e) h f = none_in (suc i) e h.2 (λ j u v. f j (omega arith) (omega arith))
  none_in i empty h f = refl

  both : (b c : Bool) → (false ≡ b) ⊎ (false ≡ c) → false ≡ (b && c)
  both b c (inl e) = ap (λ (x : Bool). x && c) e
  both b c (inr e) = sym (and-false b) ∙ ap (λ (x : Bool). b && x) e

  -- a node behind the first of two parts is of the one or of the other
  part_of : (i m n j : ℕ) → i ≤ j → j < i + suc (m + n) → (j ≡ i) ⊎ (((suc i ≤ j) × (j < suc i + m)) ⊎ ((suc i + m ≤ j) × (j < suc i + m + n)))
  part_of i m n j u v = by (ltb i j) refl (ltb j (suc i + m)) refl
    where
      by : (b : Bool) → ltb i j ≡ b → (c : Bool) → ltb j (suc i + m) ≡ c → (j ≡ i) ⊎ (((suc i ≤ j) × (j < suc i + m)) ⊎ ((suc i + m ≤ j) × (j < suc i + m + n)))
      by false e c f = inl (omega (arith, ltb-false i j e))
      by true e true f = inr (inl (ltb-true i j e, ltb-true j (suc i + m) f))
      by true e false f = inr (inr (ltb-false j (suc i + m) f, omega arith))

  one_in : (i : ℕ) (e : Exp) → TreeAt s i e → (j : ℕ) → i ≤ j → j < i + nodes e → kind_of s j ≡ 2 → false ≡ no_character e
  one_in i (atom (nonterminal n)) h j u v k =
      let z : j ≡ i = omega arith in
      absurd (omega (arith, h.0, ap (kind_of s) z))
  one_in i (atom anychar) h j u v k = refl
  one_in i (cat l r) h j u v k =
      ⊎_elim (λ z. absurd (omega (arith, h.0, ap (kind_of s) z)))
      (λ w. both (no_character l) (no_character r) (⊎_elim (λ z. inl (one_in (suc i) l h.2 j z.0 z.1 k)) (λ z. inr (one_in (suc i + nodes l) r h.3 j z.0 z.1 k)) w))
      (part_of i (nodes l) (nodes r) j u v)
  one_in i (alt l r) h j u v k =
      ⊎_elim (λ z. absurd (omega (arith, h.0, ap (kind_of s) z)))
      (λ w. both (no_character l) (no_character r) (⊎_elim (λ z. inl (one_in (suc i) l h.2 j z.0 z.1 k)) (λ z. inr (one_in (suc i + nodes l) r h.3 j z.0 z.1 k)) w))
      (part_of i (nodes l) (nodes r) j u v)
  one_in i (star e) h j u v k =
      ⊎_elim (λ z. absurd (omega (arith, h.0, ap (kind_of s) z)))
      (⊎_elim (λ z. one_in (suc i) e h.2 j z.0 z.1 k) (λ z. absurd (omega (arith, z))))
      (part_of i (nodes e) 0 j u (omega arith))
  one_in i empty h j u v k =
      let z : j ≡ i = omega arith in
      absurd (omega (arith, h.0, ap (kind_of s) z))

  -- in a production with no nodes none passes
  pub blanks_nowhere : (q : ℕ) → q < production_count s → node_count_of s q ≡ 0 → BlanksTold s q false
  blanks_nowhere q there z = record { is = λ a i. by (content_of (grammar a) q) (content_at s (grammar a) (sheet_grammar i) q there) }
    where
      by : (c : Content) → ContentAt s q c → false ≡ blanks_pass c
      by nothing h = refl
      by (tree e) h = absurd (omega (arith, nodes_pos e, h.1))

  module _ (q : ℕ) (there : q < production_count s) (i k : ℕ) (first : i ≡ first_node_of s q) (past : k ≡ i + node_count_of s q) where
    none_of : (n : ℕ) → k ≤ n → (node_count_of s q ≡ 0 → ⊥) → NoneOfKind2 i n → (c : Content) → ContentAt s q c → true ≡ blanks_pass c
    none_of n b some f nothing h = absurd (some h)
    none_of n b some f (tree e) h = none_in (first_node_of s q) e h.0 (λ j u v. f j (omega (arith, h.1)) (omega arith))

    one_of_lem : (c : Content) → ContentAt s q c → (j : ℕ) → i ≤ j → j < k → kind_of s j ≡ 2 → false ≡ blanks_pass c
    one_of_lem nothing h j u v e = absurd (omega arith)
    one_of_lem (tree e) h j u v z = one_in (first_node_of s q) e h.0 j (omega arith) (omega (arith, h.1)) z

    pub blanks_pass_lem : (n : ℕ) → k ≤ n → (node_count_of s q ≡ 0 → ⊥) → NoneOfKind2 i n → BlanksTold s q true
    blanks_pass_lem n b some f = record { is = λ a z. none_of n b some f (content_of (grammar a) q) (content_at s (grammar a) (sheet_grammar z) q there) }

    pub blanks_count : (j : ℕ) → i ≤ j → j < k → kind_of s j ≡ 2 → BlanksTold s q false
    blanks_count j u v e = record { is = λ a z. one_of_lem (content_of (grammar a) q) (content_at s (grammar a) (sheet_grammar z) q there) j u v e }
