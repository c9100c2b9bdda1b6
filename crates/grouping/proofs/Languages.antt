-- Regrouping changes no language: rows may be regrouped as the expressions are.
-- Assumes nothing.
use mathlib.Core.Path.{refl, sym, ◌∙◌, ap}
use mathlib.Core.List.{List, ◌++◌, append_assoc}
use mathlib.Core.Logic.{inl, inr, ⊎_elim}
use Rattle.expressions.specs.Expr.{Atom, Exp, cat, alt, star}
use Rattle.language.specs.Language.{no_more, one_more, Language}
use Rattle.grouping.specs.Regrouped.{concatenations_and_unions}
use Rattle.grouping.specs.Laws.{LanguageStays}
use Rattle.grouping.proofs.Kept.{kept}

abbrev Row : Type 0
Row = List Atom

-- every row of e is one of e'
abbrev Within : Exp → Exp → Type 0
Within e e' = (w : Row) → Language e w → Language e' w

within_cat : (l l' r r' : Exp) → Within l l' → Within r r' → Within (cat l r) (cat l' r')
within_cat l l' r r' f g w (u, v, a, b, e) = (u, v, f u a, g v b, e)

within_alt : (l l' r r' : Exp) → Within l l' → Within r r' → Within (alt l r) (alt l' r')
within_alt l l' r r' f g w h = ⊎_elim (λ a. inl (f w a)) (λ b. inr (g w b)) h

within_star : (e e' : Exp) → Within e e' → Within (star e) (star e')
within_star e e' f w no_more = no_more
within_star e e' f w (one_more u v a s i) = one_more u v (f u a) (within_star e e' f v s) i

same : (e : Exp) → Within e e
same e w a = a

-- both ways
abbrev Same : Exp → Exp → Type 0
Same e e' = Within e e' × Within e' e

module _ (a b c : Exp) where
  to_right : Within (cat (cat a b) c) (cat a (cat b c))
  to_right w (uv, z, (u, v, x, y, i), h, j) =
      (u, v ++ z, x, (v, z, y, h, refl), j ∙ ap (λ (l : Row). l ++ z) i ∙ append_assoc u v z)

  to_left : Within (cat a (cat b c)) (cat (cat a b) c)
  to_left w (u, vz, x, (v, z, y, h, i), j) =
      (u ++ v, z, (u, v, x, y, refl), h, j ∙ ap (λ (l : Row). u ++ l) i ∙ sym (append_assoc u v z))

  union_right : Within (alt (alt a b) c) (alt a (alt b c))
  union_right w h = ⊎_elim (λ k. ⊎_elim (λ x. inl x) (λ y. inr (inl y)) k) (λ z. inr (inr z)) h

  union_left : Within (alt a (alt b c)) (alt (alt a b) c)
  union_left w h = ⊎_elim (λ x. inl (inl x)) (λ k. ⊎_elim (λ y. inl (inr y)) (λ z. inr z) k) h

pub language_stays : LanguageStays
language_stays e e' r w =
    let same_rows = kept Same concatenations_and_unions
    (record {
      still = λ e. (same e, same e);
      turned = λ e e' h. (h.1, h.0);
      joined = λ e e' e'' h k. ((λ w a. k.0 w (h.0 w a)), λ w a. h.1 w (k.1 w a));
      in_cat = λ l l' r r' h k. (within_cat l l' r r' h.0 k.0, within_cat l' l r' r h.1 k.1);
      in_alt = λ l l' r r' h k. (within_alt l l' r r' h.0 k.0, within_alt l' l r' r h.1 k.1);
      in_star = λ e e' h. (within_star e e' h.0, within_star e' e h.1);
      of_cat = λ a b c. (to_right a b c, to_left a b c);
      of_alt = λ u a b c. (union_right a b c, union_left a b c);
    })
    e e' r in
    (same_rows.0 w, same_rows.1 w)
