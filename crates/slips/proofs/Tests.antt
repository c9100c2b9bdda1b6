-- What a slip is turned to, by what its tests say. Assumes nothing.
use mathlib.Core.Path.{◌≡◌, refl, sym, ◌∙◌, ap}
use mathlib.Core.Bool.{Bool, true, false, cond}
use Prim.Native.Nat.{ℕ}
use lib.Dec.{eqb}
use borrow.Author.Tests.{eq-eqb, ne_eqb}
use Rattle.slips.specs.declared.Slip.{Slip}
use Rattle.slips.specs.Slips.{begun, tagging, fronting, backing, slip_turned}

so : (a b : ℕ) (x y : Slip) → a ≡ b → cond (eqb a b) x y ≡ x
so a b x y e = ap (λ (t : Bool). cond t x y) (eq-eqb a b e)

not_so : (a b : ℕ) (x y : Slip) → (a ≡ b → ⊥) → cond (eqb a b) x y ≡ y
not_so a b x y e = ap (λ (t : Bool). cond t x y) (ne_eqb a b e)

module _ (o : Slip) (here kind number place : ℕ) where
  pub turned_inside : kind ≡ 0 → here ≡ 7 → o ≡ slip_turned o here kind number place
  turned_inside a b = sym (so kind 0 _ _ a ∙ so here 7 _ _ b)

  pub turned_first : kind ≡ 0 → (here ≡ 7 → ⊥) → here ≡ 0 → begun number number o ≡ slip_turned o here kind number place
  turned_first a b c = sym (so kind 0 _ _ a ∙ not_so here 7 _ _ b ∙ so here 0 _ _ c)

  pub turned_next : kind ≡ 0 → (here ≡ 7 → ⊥) → (here ≡ 0 → ⊥) → begun o.start number o ≡ slip_turned o here kind number place
  turned_next a b c = sym (so kind 0 _ _ a ∙ not_so here 7 _ _ b ∙ not_so here 0 _ _ c)

  pub turned_name : (kind ≡ 0 → ⊥) → kind ≡ 5 → tagging o place ≡ slip_turned o here kind number place
  turned_name a b = sym (not_so kind 0 _ _ a ∙ so kind 5 _ _ b)

  pub turned_other : (kind ≡ 0 → ⊥) → (kind ≡ 5 → ⊥) → (kind ≡ 28 → ⊥) → o ≡ slip_turned o here kind number place
  turned_other a b c = sym (not_so kind 0 _ _ a ∙ not_so kind 5 _ _ b ∙ not_so kind 28 _ _ c)

  pub turned_front : (kind ≡ 0 → ⊥) → (kind ≡ 5 → ⊥) → kind ≡ 28 → here ≡ 4 → fronting o place ≡ slip_turned o here kind number place
  turned_front a b c d = sym (not_so kind 0 _ _ a ∙ not_so kind 5 _ _ b ∙ so kind 28 _ _ c ∙ so here 4 _ _ d)

  pub turned_back : (kind ≡ 0 → ⊥) → (kind ≡ 5 → ⊥) → kind ≡ 28 → (here ≡ 4 → ⊥) → here ≡ 9 → backing o place ≡ slip_turned o here kind number place
  turned_back a b c d e = sym (not_so kind 0 _ _ a ∙ not_so kind 5 _ _ b ∙ so kind 28 _ _ c ∙ not_so here 4 _ _ d ∙ so here 9 _ _ e)

  pub turned_nowhere : (kind ≡ 0 → ⊥) → (kind ≡ 5 → ⊥) → kind ≡ 28 → (here ≡ 4 → ⊥) → (here ≡ 9 → ⊥) → o ≡ slip_turned o here kind number place
  turned_nowhere a b c d e = sym (not_so kind 0 _ _ a ∙ not_so kind 5 _ _ b ∙ so kind 28 _ _ c ∙ not_so here 4 _ _ d ∙ not_so here 9 _ _ e)
