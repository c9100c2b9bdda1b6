-- What a count says of a set of bracket strings, and that sums and products of counts say it of disjoint unions and products of sets.
-- By cases of the counts: one and many hand out their strings, so every law builds the new ones from the old.
-- Assumes nothing.
use mathlib.Core.Path.{◌≡◌, ◌∙◌, ap, subst}
use mathlib.Core.List.{List, ◌++◌}
use mathlib.Core.Logic.{◌⊎◌, ⊎_elim}
use Rattle.expressions.specs.Count.{Count, none, one, many, add, mul}
use Rattle.expressions.specs.Words.{Bracket}

abbrev pub Strings : Type 1
Strings = List Bracket → Type 0

-- none: it is empty; one: it has this one and no other; many: it has these two, which differ
abbrev pub Classed : Count → Strings → Type 0
Classed none P = (α : List Bracket) → P α → ⊥
Classed one P = (α : List Bracket) × P α × ((β : List Bracket) → P β → β ≡ α)
Classed many P = (α : List Bracket) × (β : List Bracket) × P α × P β × (α ≡ β → ⊥)

module _ (P Q : Strings) (to : (α : List Bracket) → P α → Q α) (back : (α : List Bracket) → Q α → P α) where
  pub classed_iff : (n : Count) → Classed n P → Classed n Q
  classed_iff none c = λ α q. c α (back α q)
  classed_iff one c = (c.0, to c.0 c.1, λ β q. c.2 β (back β q))
  classed_iff many c = (c.0, c.1, to c.0 c.2, to c.1 c.3, c.4)

-- Q is the image of P under h, which sends different strings to different strings
module _ (P Q : Strings) (h : List Bracket → List Bracket) (inj : (α β : List Bracket) → h α ≡ h β → α ≡ β)
    (to : (α : List Bracket) → P α → Q (h α)) (back : (γ : List Bracket) → Q γ → (α : List Bracket) × P α × (γ ≡ h α)) where
  pub classed_map : (n : Count) → Classed n P → Classed n Q
  classed_map none c = λ γ q. c (back γ q).0 (back γ q).1
  classed_map one c = (h c.0, to c.0 c.1, λ γ q. (back γ q).2 ∙ ap h (c.2 (back γ q).0 (back γ q).1))
  classed_map many c = (h c.0, h c.1, to c.0 c.2, to c.1 c.3, λ e. c.4 (inj _ _ e))

-- R is the disjoint union of P and Q
module _ (P Q R : Strings) (apart : (α : List Bracket) → P α → Q α → ⊥)
    (from_P : (α : List Bracket) → P α → R α) (from_Q : (α : List Bracket) → Q α → R α)
    (cases : (α : List Bracket) → R α → P α ⊎ Q α) where
  pub classed_add : (m n : Count) → Classed m P → Classed n Q → Classed (add m n) R
  classed_add none n p q = classed_iff Q R from_Q (λ α r. ⊎_elim (λ a. absurd (p α a)) (λ b. b) (cases α r)) n q
  classed_add one none p q = classed_iff P R from_P (λ α r. ⊎_elim (λ a. a) (λ b. absurd (q α b)) (cases α r)) one p
  classed_add one one p q =
      (p.0, q.0, from_P p.0 p.1, from_Q q.0 q.1, λ e. apart q.0 (subst P e p.1) q.1)
  classed_add one many p q = (q.0, q.1, from_Q q.0 q.2, from_Q q.1 q.3, q.4)
  classed_add many n p q = (p.0, p.1, from_P p.0 p.2, from_P p.1 p.3, p.4)

-- R is the product of P and Q, and a string of R comes apart in one way
module _ (P Q R : Strings)
    (unique : (α α' β β' : List Bracket) → P α → P α' → α ++ β ≡ α' ++ β' → (α ≡ α') × (β ≡ β'))
    (make : (α β : List Bracket) → P α → Q β → R (α ++ β))
    (apart : (γ : List Bracket) → R γ → (α : List Bracket) × (β : List Bracket) × P α × Q β × (γ ≡ α ++ β)) where
  pub classed_mul : (m n : Count) → Classed m P → Classed n Q → Classed (mul m n) R
  classed_mul none n p q = λ γ r. p (apart γ r).0 (apart γ r).2
  classed_mul one none p q = λ γ r. q (apart γ r).1 (apart γ r).3
  classed_mul one one p q = (
    p.0 ++ q.0,
    make p.0 q.0 p.1 q.1,
    λ γ r. let t = apart γ r in
        let a : t.0 ≡ p.0 = p.2 t.0 t.2 in
        let b : t.1 ≡ q.0 = q.2 t.1 t.3 in
        let g : γ ≡ t.0 ++ t.1 = t.4 in
        cc,
  )
  classed_mul one many p q = (
    p.0 ++ q.0,
    p.0 ++ q.1,
    make _ _ p.1 q.2,
    make _ _ p.1 q.3,
    λ e. q.4 (unique _ _ _ _ p.1 p.1 e).1,
  )
  classed_mul many none p q = λ γ r. q (apart γ r).1 (apart γ r).3
  classed_mul many one p q = (
    p.0 ++ q.0,
    p.1 ++ q.0,
    make _ _ p.2 q.1,
    make _ _ p.3 q.1,
    λ e. p.4 (unique _ _ _ _ p.2 p.3 e).0,
  )
  classed_mul many many p q = (
    p.0 ++ q.0,
    p.1 ++ q.0,
    make _ _ p.2 q.2,
    make _ _ p.3 q.2,
    λ e. p.4 (unique _ _ _ _ p.2 p.3 e).0,
  )
