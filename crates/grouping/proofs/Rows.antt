-- The order of the atoms and the number of nodes stay; and a row may be cut in two anywhere.
-- Assumes nothing.
use mathlib.Core.Path.{◌≡◌, refl, sym, ◌∙◌, ap, ap₂}
use mathlib.Core.List.{List, [], ◌∷◌, ◌++◌, append_assoc}
use Prim.Native.Nat.{ℕ, suc}
use native.Mathlib.Omega.{arith}
use Rattle.expressions.specs.Expr.{Exp, atom, nonterminal, cat, nodes}
use Rattle.grouping.specs.Regrouped.{concatenations, concatenations_and_unions, RegroupedOnce, concatenation, left_of_cat, Regrouped, as_it_is, step, then}
use Rattle.grouping.specs.Laws.{atoms_in_order, AtomsStay}
use Rattle.grouping.specs.Thirteen.{row, ThirteenInARow}
use Rattle.grouping.proofs.Kept.{kept}

pub atoms_stay : AtomsStay
atoms_stay e e' r =
    kept (λ e e'. (atoms_in_order e ≡ atoms_in_order e') × (nodes e ≡ nodes e')) concatenations_and_unions
    (record {
      still = λ e. (refl, refl);
      turned = λ e e' h. (sym h.0, sym h.1);
      joined = λ e e' e'' h k. (h.0 ∙ k.0, h.1 ∙ k.1);
      in_cat = λ l l' r r' h k. (ap₂ ◌++◌ h.0 k.0, omega (arith, h.1, k.1));
      in_alt = λ l l' r r' h k. (ap₂ ◌++◌ h.0 k.0, omega (arith, h.1, k.1));
      in_star = λ e e' h. (h.0, ap suc h.1);
      of_cat = λ a b c. (append_assoc (atoms_in_order a) (atoms_in_order b) (atoms_in_order c), omega arith);
      of_alt = λ u a b c. (append_assoc (atoms_in_order a) (atoms_in_order b) (atoms_in_order c), omega arith);
    })
    e e' r

row_step : {e e' : Exp} → RegroupedOnce concatenations e e' → (ns : List ℕ) → RegroupedOnce concatenations (row e ns) (row e' ns)
row_step s [] = s
row_step s (n ∷ ns) = row_step (left_of_cat (atom (nonterminal n)) s) ns

pub cut_in_two : (a e : Exp) (ns : List ℕ) → Regrouped concatenations (row (cat a e) ns) (cat a (row e ns))
cut_in_two a e [] = as_it_is
cut_in_two a e (n ∷ ns) = then (step (row_step (concatenation a e (atom (nonterminal n))) ns)) (cut_in_two a (cat e (atom (nonterminal n))) ns)

pub thirteen_in_a_row : ThirteenInARow
thirteen_in_a_row = record {
  too_deep = refl;
  not_too_deep = refl;
  regrouped = cut_in_two (row (atom (nonterminal 1)) (2 ∷ 3 ∷ 4 ∷ 5 ∷ 6 ∷ 7 ∷ [])) (atom (nonterminal 8)) (9 ∷ 10 ∷ 11 ∷ 12 ∷ 13 ∷ []);
}
