-- The language of the expression of a content model is that of the model: by the model's tree, each way. Assumes nothing.
use mathlib.Core.Path.{◌≡◌, refl, sym, ◌∙◌, ap, ap₂, subst}
use mathlib.Core.List.Memᴰ
use mathlib.Core.List.{List, [], ◌∷◌, ◌++◌, append-nil, Memᴰ}
use mathlib.Core.Logic.{◌⊎◌, inl, inr, ⊎_elim}
use Prim.Native.Nat.{ℕ}
use Rattle.expressions.specs.Expr.{Atom, nonterminal, anychar, Exp, atom, alt, star, nothing, tree}
use Rattle.language.specs.Language.{Repeated, no_more, one_more, Language}
use Rattle.models.specs.Models.{Model, called, sequence, choice, optional, any_number, at_least_one, nothing_inside, mixed, children}
use Rattle.models.specs.Valid.{Child, element, character, Matches, its_element, in_order, the_first, the_second, left_out, not_left_out, none, just_one, one_and_more, Mixture}
use Rattle.models.specs.Expressions.{model_expression, or_names}
use Rattle.models.specs.Promises.{as_atoms, SameLanguage}

abbrev Row : Type 0
Row = List Child

module _ (number : List ℕ → ℕ) where
  atoms_append : (u v : Row) → as_atoms number (u ++ v) ≡ as_atoms number u ++ as_atoms number v
  atoms_append [] v = refl
  atoms_append (element n ∷ u) v = ap (λ (l : List Atom). nonterminal (number n) ∷ l) (atoms_append u v)
  atoms_append (character ∷ u) v = ap (λ (l : List Atom). anychar ∷ l) (atoms_append u v)

  split : {w : Row} (u v : Row) → w ≡ u ++ v → as_atoms number w ≡ as_atoms number u ++ as_atoms number v
  split u v e = ap (as_atoms number) e ∙ atoms_append u v

  -- what a model matches is in the language of its expression
  pub there : {x : Model} {w : Row} → Matches x w → Language (model_expression number x) (as_atoms number w)
  there its_element = refl
  there (in_order u v a b e) = (as_atoms number u, as_atoms number v, there a, there b, split u v e)
  there (the_first a) = inl (there a)
  there (the_second a) = inr (there a)
  there left_out = inr refl
  there (not_left_out a) = inl (there a)
  there none = no_more
  there (Matches.one_more u v a b e) = one_more (as_atoms number u) (as_atoms number v) (there a) (there b) (split u v e)
  there {w = w} (just_one a) = (as_atoms number w, [], there a, no_more, sym (append-nil (as_atoms number w)))
  there (one_and_more u v a b e) =
      let t = there b in
      (as_atoms number u, as_atoms number v, there a, one_more t.0 t.1 t.2 t.3 t.4, split u v e)

  -- a row that a model matches, with these atoms
  abbrev Back : (Row → Type 0) → List Atom → Type 0
  Back P w = (u : Row) × P u × (w ≡ as_atoms number u)

  joined : {w a b : List Atom} (u v : Row) → w ≡ a ++ b → a ≡ as_atoms number u → b ≡ as_atoms number v → w ≡ as_atoms number (u ++ v)
  joined u v e f g = e ∙ ap₂ (λ (p q : List Atom). p ++ q) f g ∙ sym (atoms_append u v)

  repeats : (x : Model) → ((w : List Atom) → Language (model_expression number x) w → Back (Matches x) w)
      → (w : List Atom) → Repeated (Language (model_expression number x)) w → Back (Matches (any_number x)) w
  repeats x f w no_more = ([], none, refl)
  repeats x f w (one_more a b h s e) =
      let t = f a h in
      let r = repeats x f b s in
      (t.0 ++ r.0, Matches.one_more t.0 r.0 t.1 r.1 refl, joined t.0 r.0 e t.2 r.2)

  -- one, and then any number, are at least one
  at_least : (x : Model) (u v w : Row) → Matches x u → Matches (any_number x) v → w ≡ u ++ v → Matches (at_least_one x) w
  at_least x u v w a none e = subst (Matches (at_least_one x)) (sym (append-nil u) ∙ sym e) (just_one a)
  at_least x u v w a (Matches.one_more u' v' b c e') e = one_and_more u v a (at_least x u' v' v b c e') e

  -- and what is in the language of its expression, a model matches
  pub back : (x : Model) (w : List Atom) → Language (model_expression number x) w → Back (Matches x) w
  back (called n) w e = (element n ∷ [], its_element, e)
  back (sequence x y) w (a, b, h, k, e) =
      let s = back x a h in
      let t = back y b k in
      (s.0 ++ t.0, in_order s.0 t.0 s.1 t.1 refl, joined s.0 t.0 e s.2 t.2)
  back (choice x y) w h = ⊎_elim (λ a. let t = back x w a in (t.0, the_first t.1, t.2)) (λ b. let t = back y w b in (t.0, the_second t.1, t.2)) h
  back (optional x) w h = ⊎_elim (λ a. let t = back x w a in (t.0, not_left_out t.1, t.2)) (λ e. ([], left_out, e)) h
  back (any_number x) w h = repeats x (back x) w h
  back (at_least_one x) w (a, b, h, k, e) =
      let s = back x a h in
      let t = repeats x (back x) b k in
      (s.0 ++ t.0, at_least x s.0 t.0 (s.0 ++ t.0) s.1 t.1 refl, joined s.0 t.0 e s.2 t.2)

  -- one child of mixed content: in the language of e, or of one of the names
  one_there : (e : Exp) (names : List (List ℕ)) (w : List Atom) → Language e w → Language (or_names number e names) w
  one_there e [] w h = h
  one_there e (n ∷ names) w h = one_there (alt e (atom (nonterminal (number n)))) names w (inl h)

  named_there : (e : Exp) (names : List (List ℕ)) (m : List ℕ) → Memᴰ m names → Language (or_names number e names) (nonterminal (number m) ∷ [])
  named_there e [] m h = absurd (Memᴰ.not-nil h)
  named_there e (n ∷ names) m h =
      ⊎_elim
      (λ (q : m ≡ n). one_there (alt e (atom (nonterminal (number n)))) names (nonterminal (number m) ∷ []) (inr (ap (λ (k : List ℕ). nonterminal (number k) ∷ []) q)))
      (λ k. named_there (alt e (atom (nonterminal (number n)))) names m k)
      (Memᴰ.cases_cons h)

  one_back : (e : Exp) (names : List (List ℕ)) (w : List Atom) → Language (or_names number e names) w
      → Language e w ⊎ ((n : List ℕ) × Memᴰ n names × (w ≡ nonterminal (number n) ∷ []))
  one_back e [] w h = inl h
  one_back e (n ∷ names) w h =
      ⊎_elim
      (λ k. ⊎_elim (λ a. inl a) (λ q. inr (n, Memᴰ.head refl, q)) k)
      (λ t. inr (t.0, Memᴰ.tail t.1, t.2))
      (one_back (alt e (atom (nonterminal (number n)))) names w h)

  mixed_there : (names : List (List ℕ)) (u : Row) → Mixture names u → Repeated (Language (or_names number (atom anychar) names)) (as_atoms number u)
  mixed_there names [] h = no_more
  mixed_there names (character ∷ u) h = one_more (anychar ∷ []) (as_atoms number u) (one_there (atom anychar) names (anychar ∷ []) refl) (mixed_there names u h) refl
  mixed_there names (element n ∷ u) (h, k) = one_more (nonterminal (number n) ∷ []) (as_atoms number u) (named_there (atom anychar) names n h) (mixed_there names u k) refl

  mixed_back : (names : List (List ℕ)) (w : List Atom) → Repeated (Language (or_names number (atom anychar) names)) w → Back (Mixture names) w
  mixed_back names w no_more = ([], tt, refl)
  mixed_back names w (one_more a b h s e) =
      let r = mixed_back names b s in
      ⊎_elim
      (λ (q : a ≡ anychar ∷ []). (character ∷ r.0, r.1, joined (character ∷ []) r.0 e q r.2))
      (λ t. (element t.0 ∷ r.0, (t.1, r.1), joined (element t.0 ∷ []) r.0 e t.2 r.2))
      (one_back (atom anychar) names a h)

pub same_language : SameLanguage
same_language number nothing_inside w = ((λ e. ([], refl, e)), λ h. h.2 ∙ ap (as_atoms number) h.1)
same_language number (mixed names) w = (mixed_back number names w, λ h. subst (Repeated (Language (or_names number (atom anychar) names))) (sym h.2) (mixed_there number names h.0 h.1))
same_language number (children x) w = (back number x w, λ h. subst (Language (model_expression number x)) (sym h.2) (there number h.1))
