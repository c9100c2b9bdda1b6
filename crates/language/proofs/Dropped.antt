-- The language is what the bracketed words are without their brackets: by the expression's tree, both ways at once.
-- Assumes nothing.
use mathlib.Core.Path.{◌≡◌, refl, sym, ◌∙◌, ap, ap₂, subst}
use mathlib.Core.List.{List, [], ◌∷◌, ◌++◌, append-nil}
use mathlib.Core.Logic.{inl, inr, ⊎_elim}
use Prim.Native.Nat.{ℕ, suc, ◌+◌}
use Rattle.expressions.specs.Expr.{Atom, Exp, atom, cat, alt, star, empty, nodes, atoms, nothing, tree}
use Rattle.expressions.specs.Words.{Sym, br, at, opening, closing, Lang, Only, only, Cat, both, Either, left, right, Star, stop, more, Within, within, Word}
use Rattle.language.specs.Language.{Repeated, no_more, one_more, Language}
use Rattle.language.specs.Laws.{atoms_in, WithoutBrackets}

abbrev Row : Type 0
Row = List Atom

in_append : (u v : List Sym) → atoms_in (u ++ v) ≡ atoms_in u ++ atoms_in v
in_append [] v = refl
in_append (br c ∷ u) v = in_append u v
in_append (at j k ∷ u) v = ap (λ (w : Row). k ∷ w) (in_append u v)

in_within : (i : ℕ) (m : List Sym) → atoms_in (br (opening i) ∷ (m ++ br (closing i) ∷ [])) ≡ atoms_in m
in_within i m = in_append m (br (closing i) ∷ []) ∙ append-nil (atoms_in m)

-- A has the rows of the words of W, and W has words for the rows of A
abbrev To : Lang → (Row → Type 0) → Type 0
To W A = (u : List Sym) → W u → A (atoms_in u)

abbrev From : Lang → (Row → Type 0) → Type 0
From W A = (w : Row) → A w → (u : List Sym) × W u × (w ≡ atoms_in u)

to_within : (i : ℕ) (W : Lang) (A : Row → Type 0) → To W A → To (Within i W) A
to_within i W A f u (within m h) = subst A (sym (in_within i m)) (f m h)

from_within : (i : ℕ) (W : Lang) (A : Row → Type 0) → From W A → From (Within i W) A
from_within i W A f w a =
    let t = f w a in
    (br (opening i) ∷ (t.0 ++ br (closing i) ∷ []), within t.0 t.1, t.2 ∙ sym (in_within i t.0))

to_star : (W : Lang) (A : Row → Type 0) → To W A → To (Star W) (Repeated A)
to_star W A f u stop = no_more
to_star W A f u (more x y h s) = one_more (atoms_in x) (atoms_in y) (f x h) (to_star W A f y s) (in_append x y)

from_star : (W : Lang) (A : Row → Type 0) → From W A → From (Star W) (Repeated A)
from_star W A f w no_more = ([], stop, refl)
from_star W A f w (one_more x y a s e) =
    let t = f x a in
    let r = from_star W A f y s in
    (t.0 ++ r.0, more t.0 r.0 t.1 r.1, e ∙ ap₂ (λ (p q : Row). p ++ q) t.2 r.2 ∙ sym (in_append t.0 r.0))

to_cat : (L R : Lang) (A B : Row → Type 0) → To L A → To R B → To (Cat L R) (λ w. (u : Row) × (v : Row) × A u × B v × (w ≡ u ++ v))
to_cat L R A B f g w (both u v a b) = (atoms_in u, atoms_in v, f u a, g v b, in_append u v)

from_cat : (L R : Lang) (A B : Row → Type 0) → From L A → From R B → From (Cat L R) (λ w. (u : Row) × (v : Row) × A u × B v × (w ≡ u ++ v))
from_cat L R A B f g w (u, v, a, b, e) =
    let s = f u a in
    let t = g v b in
    (s.0 ++ t.0, both s.0 t.0 s.1 t.1, e ∙ ap₂ (λ (p q : Row). p ++ q) s.2 t.2 ∙ sym (in_append s.0 t.0))

to_word : (e : Exp) (i j : ℕ) → To (Word e i j) (Language e)
to_word (atom k) i j = to_within i (Only (at j k ∷ [])) (Language (atom k)) (λ u h. only_is u h)
  where
    only_is : (u : List Sym) → Only (at j k ∷ []) u → atoms_in u ≡ k ∷ []
    only_is u only = refl
to_word (cat l r) i j =
    to_within i (Cat (Word l (suc i) j) (Word r (suc i + nodes l) (j + atoms l))) (Language (cat l r))
    (to_cat (Word l (suc i) j) (Word r (suc i + nodes l) (j + atoms l)) (Language l) (Language r) (to_word l (suc i) j) (to_word r (suc i + nodes l) (j + atoms l)))
to_word (alt l r) i j = to_within i (Either (Word l (suc i) j) (Word r (suc i + nodes l) (j + atoms l))) (Language (alt l r)) (one_side (to_word l (suc i) j) (to_word r (suc i + nodes l) (j + atoms l)))
  where
    one_side : To (Word l (suc i) j) (Language l) → To (Word r (suc i + nodes l) (j + atoms l)) (Language r) →
        To (Either (Word l (suc i) j) (Word r (suc i + nodes l) (j + atoms l))) (Language (alt l r))
    one_side f g u (left h) = inl (f u h)
    one_side f g u (right h) = inr (g u h)
to_word (star e) i j = to_within i (Star (Word e (suc i) j)) (Language (star e)) (to_star (Word e (suc i) j) (Language e) (to_word e (suc i) j))
to_word empty i j = to_within i (Only []) (Language empty) (λ u h. only_is u h)
  where
    only_is : (u : List Sym) → Only [] u → atoms_in u ≡ []
    only_is u only = refl

from_word : (e : Exp) (i j : ℕ) → From (Word e i j) (Language e)
from_word (atom k) i j = from_within i (Only (at j k ∷ [])) (Language (atom k)) (λ w e. (at j k ∷ [], only, e))
from_word (cat l r) i j =
    from_within i (Cat (Word l (suc i) j) (Word r (suc i + nodes l) (j + atoms l))) (Language (cat l r))
    (from_cat (Word l (suc i) j) (Word r (suc i + nodes l) (j + atoms l)) (Language l) (Language r) (from_word l (suc i) j) (from_word r (suc i + nodes l) (j + atoms l)))
from_word (alt l r) i j =
    let L : Lang = Word l (suc i) j in
    let R : Lang = Word r (suc i + nodes l) (j + atoms l) in
    from_within i (Either L R) (Language (alt l r))
    (λ w h. ⊎_elim
    (λ a. let t = from_word l (suc i) j w a in (t.0, left t.1, t.2))
    (λ b. let t = from_word r (suc i + nodes l) (j + atoms l) w b in (t.0, right t.1, t.2)) h)
from_word (star e) i j = from_within i (Star (Word e (suc i) j)) (Language (star e)) (from_star (Word e (suc i) j) (Language e) (from_word e (suc i) j))
from_word empty i j = from_within i (Only []) (Language empty) (λ w e. ([], only, e))

pub without_brackets : WithoutBrackets
without_brackets nothing w = ((λ e. ([], only, e)), λ h. h.2 ∙ nothing_in h.0 h.1)
  where
    nothing_in : (u : List Sym) → Only [] u → atoms_in u ≡ []
    nothing_in u only = refl
without_brackets (tree e) w = (from_word e 1 1 w, λ h. subst (Language e) (sym h.2) (to_word e 1 1 h.0 h.1))
