-- Words cut behind an atom: what stands up to it, by numbers.
-- A bracket changes nothing here, so that a word is cut where its parts are.
-- Assumes nothing.
use mathlib.Core.Path.{◌≡◌, refl, sym, ◌∙◌, ap}
use mathlib.Core.List.{List, [], ◌∷◌, ◌++◌}
use mathlib.Core.Logic.{◌⊎◌, inl, inr, ⊎_elim}
use Prim.Native.Nat.{ℕ}
use Rattle.expressions.specs.Expr.{Atom}
use Rattle.expressions.specs.Words.{Sym, br, at}
use Rattle.shortest.specs.Leads.{numbers_in}

abbrev Text : Type 0
Text = List Sym

-- the row is what the word has up to and including an atom p
abbrev pub Cut : ℕ → Text → List ℕ → Type 0
Cut p [] row = ⊥
Cut p (br c ∷ w) row = Cut p w row
Cut p (at j k ∷ w) row = ((p ≡ j) × (row ≡ j ∷ [])) ⊎ ((rest : List ℕ) × (row ≡ j ∷ rest) × Cut p w rest)

pub numbers_append : (u v : Text) → numbers_in (u ++ v) ≡ numbers_in u ++ numbers_in v
numbers_append [] v = refl
numbers_append (br c ∷ u) v = numbers_append u v
numbers_append (at j k ∷ u) v = ap (λ (l : List ℕ). j ∷ l) (numbers_append u v)

module _ (p : ℕ) where
  -- in the first of two words, or in the second behind all of the first
  pub cut_first : (u v : Text) (row : List ℕ) → Cut p u row → Cut p (u ++ v) row
  cut_first [] v row c = absurd c
  cut_first (br b ∷ u) v row c = cut_first u v row c
  cut_first (at j k ∷ u) v row (inl h) = inl h
  cut_first (at j k ∷ u) v row (inr h) = inr (h.0, h.1, cut_first u v h.0 h.2)

  pub cut_second : (u v : Text) (row : List ℕ) → Cut p v row → Cut p (u ++ v) (numbers_in u ++ row)
  cut_second [] v row c = c
  cut_second (br b ∷ u) v row c = cut_second u v row c
  cut_second (at j k ∷ u) v row c = inr (numbers_in u ++ row, refl, cut_second u v row c)

  pub cut_parts : (u v : Text) (row : List ℕ) → Cut p (u ++ v) row → Cut p u row ⊎ ((rest : List ℕ) × (row ≡ numbers_in u ++ rest) × Cut p v rest)
  cut_parts [] v row c = inr (row, refl, c)
  cut_parts (br b ∷ u) v row c = cut_parts u v row c
  cut_parts (at j k ∷ u) v row (inl h) = inl (inl h)
  cut_parts (at j k ∷ u) v row (inr h) =
      ⊎_elim (λ c. inl (inr (h.0, h.1, c))) (λ c. inr (c.0, h.1 ∙ ap (λ (l : List ℕ). j ∷ l) c.1, c.2)) (cut_parts u v h.0 h.2)

  -- a word that is cut is what stands before the atom, the atom, and the rest
  pub cut_word : (w : Text) (row : List ℕ) → Cut p w row →
      (v : Text) × (k : Atom) × (s : Text) × (w ≡ v ++ at p k ∷ s) × (row ≡ numbers_in (v ++ at p k ∷ []))
  cut_word [] row c = absurd c
  cut_word (br b ∷ w) row c = let t = cut_word w row c in (br b ∷ t.0, t.1, t.2, ap (λ (l : Text). br b ∷ l) t.3, t.4)
  cut_word (at j k ∷ w) row (inl h) =
      ([], k, w, ap (λ (n : ℕ). at n k ∷ w) (sym h.0), h.1 ∙ ap (λ (n : ℕ). n ∷ []) (sym h.0))
  cut_word (at j k ∷ w) row (inr h) =
      let t = cut_word w h.0 h.2 in
      (at j k ∷ t.0, t.1, t.2, ap (λ (l : Text). at j k ∷ l) t.3, h.1 ∙ ap (λ (l : List ℕ). j ∷ l) t.4)

  pub cut_there : (v : Text) (k : Atom) (s : Text) → Cut p ((v ++ at p k ∷ []) ++ s) (numbers_in (v ++ at p k ∷ []))
  cut_there [] k s = inl (refl, refl)
  cut_there (br b ∷ v) k s = cut_there v k s
  cut_there (at j i ∷ v) k s = inr (_, refl, cut_there v k s)
