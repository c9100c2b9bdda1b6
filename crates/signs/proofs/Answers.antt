-- From the walk over a production's tree to what is asked of the sheet. Assumes nothing.
use mathlib.Core.Path.{◌≡◌, refl, sym, ◌∙◌, ap, subst}
use mathlib.Core.List.{List}
use Prim.Native.Nat.{ℕ, suc, ◌+◌, ◌≤◌}
use native.Mathlib.Omega.{arith}
use Rattle.expressions.specs.Expr.{Exp, nodes, Content, tree}
use Rattle.expressions.specs.Grammar.{Production, Nth}
use Rattle.layout.specs.Layout.{production_count}
use Rattle.layout.specs.Records.{first_node_of, node_count_of}
use Rattle.sheet.specs.Defect.{DefectIs, well_formed_lem}
use Rattle.sheet.specs.Sheet.{Sheet, grammar_of, IsSheet}
use Rattle.sheet.proofs.DefectLaws.{one_defect}
use Rattle.sheet.proofs.SheetLaws.{sheet_grammar}
use Rattle.trees.specs.Trees.{TreeAt, ContentAt}
use Rattle.trees.specs.GrammarAt.{GrammarIs}
use Rattle.trees.proofs.Grammars.{nth_is, nth_below}
use Rattle.trees.proofs.Unique.{nodes_pos}
use Rattle.ways.specs.declared.Spot.{Spot}
use Rattle.ways.specs.Spot.{At}
use Rattle.signs.specs.Order.{rank, WrittenBefore, PostIn, PostIs}

content_tree : (s : List ℕ) (q : ℕ) (g : List Production) → GrammarIs s g → (d : Production) → Nth g q d → (e : Exp) → d.content ≡ tree e → ContentAt s q (tree e)
content_tree s q g γ d m e c = subst (ContentAt s q) c (nth_is s g γ q d m).content_is

module _ (s : List ℕ) (q n : ℕ) where
  pub post_of_none : (k : ℕ) → k ≡ node_count_of s q → k ≡ 0 → PostIn s q n 0
  post_of_none k h z = record { is = λ g γ d m e c. let x = content_tree s q g γ d m e c in absurd (omega (arith, h, z, nodes_pos e, x.1)) }

  pub post_of_tree : (t : Spot) → t.node ≡ first_node_of s q → t.bracket ≡ 1 → t.atom ≡ 1 → (r : ℕ) → WrittenBefore s t n r → PostIn s q n (1 + r)
  post_of_tree t a b j r w = record {
    is = λ g γ d m e c.
        let x = content_tree s q g γ d m e c in
        let at : At s t e 1 1 = record { stands = subst (λ (z : ℕ). TreeAt s z e) (sym a) x.0; bracket_is = b; atom_is = j } in
        let y : 1 + r ≡ suc r = omega arith in
        y ∙ ap suc (w.is e 1 1 at);
  }

  pub no_sheet : (k r : ℕ) → DefectIs s k → 1 ≤ k → PostIs s q n r
  no_sheet k r h z = record { is = λ a i d m e c. absurd (omega (arith, z, one_defect h (well_formed_lem i.well_formed_lem))) }

  pub no_production : (r : ℕ) → production_count s ≤ q → PostIs s q n r
  no_production r z = record { is = λ a i d m e c. let b = nth_below s (grammar_of a.rules) (sheet_grammar i) q d m in absurd (omega (arith, z, b)) }

  pub as_asked : (r : ℕ) → PostIn s q n r → PostIs s q n r
  as_asked r h = record { is = λ a i d m e c. h.is (grammar_of a.rules) (sheet_grammar i) d m e c }
