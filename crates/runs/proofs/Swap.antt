-- Whatever a word has before an atom goes with whatever may come after that atom: by the tree, the part with the atom is changed and the rest kept.
-- Assumes nothing.
use mathlib.Core.Path.{◌≡◌, refl, sym, subst}
use mathlib.Core.List.{List, [], ◌∷◌, ◌++◌, append_assoc}
use mathlib.Core.Logic.{◌⊎◌, inl, inr, ⊎_elim}
use Prim.Native.Nat.{ℕ, suc, ◌+◌}
use native.Mathlib.Omega.{arith}
use Rattle.expressions.specs.Expr.{Atom, Exp, atom, cat, alt, star, empty, nodes, atoms}
use Rattle.expressions.specs.Words.{opening, closing, Sym, br, at, Lang, Only, only, Cat, both, Either, left, right, Star, stop, more, Within, within, Word}
use Rattle.expressions.proofs.Counted.{Upto, upto}
use Rattle.expressions.proofs.Tree.{After, word_after, no_both, append_nonempty}
use Rattle.expressions.proofs.Tree.{no_atom}

abbrev Text : Type 0
Text = List Sym

cut : (u₁ u₂ u : Text) (q : Sym) (s : Text) → u₁ ++ u₂ ≡ u ++ q ∷ s →
    ((s₁ : Text) × (u₁ ≡ u ++ q ∷ s₁) × (s ≡ s₁ ++ u₂)) ⊎ ((u' : Text) × (u ≡ u₁ ++ u') × (u₂ ≡ u' ++ q ∷ s))
cut [] u₂ u q s e = inr (u, refl, e)
cut (a ∷ u₁) u₂ [] q s e = inl (u₁, (cc), (cc))
cut (a ∷ u₁) u₂ (b ∷ u) q s e =
    let t : u₁ ++ u₂ ≡ u ++ q ∷ s = cc in
    let h : a ≡ b = cc in
    ⊎_elim (λ i. inl (i.0, (cc (h, i.1)), i.2)) (λ i. inr (i.0, (cc (h, i.1)), i.2)) (cut u₁ u₂ u q s t)

-- A's words keep their beginning up to atom p when what comes after changes within X
abbrev Keeps : Lang → Lang → ℕ → Atom → Text → Type 0
Keeps A X p k m = (u s : Text) → m ≡ u ++ at p k ∷ s → (s' : Text) → X s' → A (u ++ at p k ∷ s')

keeps_within : (i : ℕ) (A X : Lang) (p : ℕ) (k : Atom) (m : Text) → Keeps A X p k m →
    Keeps (Within i A) (Upto (closing i) X) p k (br (opening i) ∷ (m ++ br (closing i) ∷ []))
keeps_within i A X p k m f [] s e s' x = absurd (let z : ◌≡◌ {A = ℕ} 0 1 = cc in omega arith)
keeps_within i A X p k m f (a ∷ u) s e s' (upto m' x) =
    let t : m ++ br (closing i) ∷ [] ≡ u ++ at p k ∷ s = cc in
    let h : a ≡ br (opening i) = cc in
    ⊎_elim
    (λ c. subst (λ (z : Sym). Within i A (z ∷ (u ++ at p k ∷ (m' ++ br (closing i) ∷ [])))) (sym h)
    (subst (λ (z : Text). Within i A (br (opening i) ∷ z)) (append_assoc u (at p k ∷ m') (br (closing i) ∷ []))
    (within (u ++ at p k ∷ m') (f u c.0 c.1 m' x))))
    (λ c. absurd (no_atom (closing i) c.0 p k s c.2))
    (cut m (br (closing i) ∷ []) u (at p k) s t)

keeps_atom : (j : ℕ) (k₀ : Atom) (p : ℕ) (k : Atom) → Keeps (Only (at j k₀ ∷ [])) (λ w. (p ≡ j) × Only [] w) p k (at j k₀ ∷ [])
keeps_atom j k₀ p k [] s e s' (q, only) =
    let h : at j k₀ ≡ at p k = cc in
    subst (λ (z : Sym). Only (at j k₀ ∷ []) (z ∷ [])) h only
keeps_atom j k₀ p k (a ∷ u) s e s' x = let t : [] ≡ u ++ at p k ∷ s = cc in absurd (append_nonempty u _ s t)

module _ (L R L' R' : Lang) (p : ℕ) (k : Atom) where
  keeps_cat : (u₁ v₁ : Text) → L u₁ → R v₁ → Keeps L L' p k u₁ → Keeps R R' p k v₁ →
      ((s s' : Text) (u : Text) → u₁ ≡ u ++ at p k ∷ s → R' s' → ⊥) → ((s s' : Text) (u : Text) → v₁ ≡ u ++ at p k ∷ s → L' s' → ⊥) →
      Keeps (Cat L R) (Either (Cat L' R) R') p k (u₁ ++ v₁)
  keeps_cat u₁ v₁ a b f g no_right no_left u s e s' x =
      ⊎_elim (λ c. in_left c.0 c.1 s' x) (λ c. in_right c.0 c.1 c.2 s' x) (cut u₁ v₁ u (at p k) s e)
    where
      in_left : (s₁ : Text) → u₁ ≡ u ++ at p k ∷ s₁ → (s' : Text) → Either (Cat L' R) R' s' → Cat L R (u ++ at p k ∷ s')
      in_left s₁ q s' (left (both s₃ v a' b')) =
          subst (Cat L R) (append_assoc u (at p k ∷ s₃) v) (both (u ++ at p k ∷ s₃) v (f u s₁ q s₃ a') b')
      in_left s₁ q s' (right r') = absurd (no_right s₁ s' u q r')

      in_right : (u' : Text) → u ≡ u₁ ++ u' → v₁ ≡ u' ++ at p k ∷ s → (s' : Text) → Either (Cat L' R) R' s' → Cat L R (u ++ at p k ∷ s')
      in_right u' q q' s' (left (both s₃ v a' b')) = absurd (no_left s s₃ u' q' a')
      in_right u' q q' s' (right r') =
          subst (λ (z : Text). Cat L R (z ++ at p k ∷ s')) (sym q)
          (subst (Cat L R) (sym (append_assoc u₁ u' (at p k ∷ s'))) (both u₁ (u' ++ at p k ∷ s') a (g u' s q' s' r')))

  keeps_left : (m : Text) → Keeps L L' p k m → ((s s' : Text) (u : Text) → m ≡ u ++ at p k ∷ s → R' s' → ⊥) → Keeps (Either L R) (Either L' R') p k m
  keeps_left m f no_right u s e s' (left a) = left (f u s e s' a)
  keeps_left m f no_right u s e s' (right b) = absurd (no_right s s' u e b)

  keeps_right : (m : Text) → Keeps R R' p k m → ((s s' : Text) (u : Text) → m ≡ u ++ at p k ∷ s → L' s' → ⊥) → Keeps (Either L R) (Either L' R') p k m
  keeps_right m f no_left u s e s' (left a) = absurd (no_left s s' u e a)
  keeps_right m f no_left u s e s' (right b) = right (f u s e s' b)

keeps_star : (A X : Lang) (p : ℕ) (k : Atom) → ((m : Text) → A m → Keeps A X p k m) → (m : Text) → Star A m → Keeps (Star A) (Cat X (Star A)) p k m
keeps_star A X p k f m stop u s e s' x = absurd (append_nonempty u _ s e)
keeps_star A X p k f m (more u₁ v₁ a r) u s e s' x =
    ⊎_elim (λ c. in_left c.0 c.1 s' x) (λ c. in_right c.0 c.1 (keeps_star A X p k f v₁ r c.0 s c.2 s' x)) (cut u₁ v₁ u (at p k) s e)
  where
    in_left : (s₁ : Text) → u₁ ≡ u ++ at p k ∷ s₁ → (s' : Text) → Cat X (Star A) s' → Star A (u ++ at p k ∷ s')
    in_left s₁ q s' (both s₃ v a' b') =
        subst (Star A) (append_assoc u (at p k ∷ s₃) v) (more (u ++ at p k ∷ s₃) v (f u₁ a u s₁ q s₃ a') b')

    in_right : (u' : Text) → u ≡ u₁ ++ u' → Star A (u' ++ at p k ∷ s') → Star A (u ++ at p k ∷ s')
    in_right u' q r' =
        subst (λ (z : Text). Star A (z ++ at p k ∷ s')) (sym q)
        (subst (Star A) (sym (append_assoc u₁ u' (at p k ∷ s'))) (more u₁ (u' ++ at p k ∷ s') a r'))

pub swap : (e : Exp) (i j p : ℕ) (k : Atom) (w : Text) → Word e i j w → Keeps (Word e i j) (After e i j p) p k w
swap (atom k₀) i j p k w (within m only) = keeps_within i (Only (at j k₀ ∷ [])) (λ w. (p ≡ j) × Only [] w) p k (at j k₀ ∷ []) (keeps_atom j k₀ p k)
swap (cat l r) i j p k w (within m (both u v a b)) =
    let L : Lang = Word l (suc i) j in
    let R : Lang = Word r (suc i + nodes l) (j + atoms l) in
    let L' : Lang = After l (suc i) j p in
    let R' : Lang = After r (suc i + nodes l) (j + atoms l) p in
    keeps_within i (Cat L R) (Either (Cat L' R) R') p k (u ++ v)
    (keeps_cat L R L' R' p k u v a b (swap l (suc i) j p k u a) (swap r (suc i + nodes l) (j + atoms l) p k v b)
    (λ s s' u' q h. no_both l r (suc i) (suc i + nodes l) j p s s' (word_after l (suc i) j p k u u' s a q) h)
    (λ s s' u' q h. no_both l r (suc i) (suc i + nodes l) j p s' s h (word_after r (suc i + nodes l) (j + atoms l) p k v u' s b q)))
swap (alt l r) i j p k w (within m (left a)) =
    let L : Lang = Word l (suc i) j in
    let R : Lang = Word r (suc i + nodes l) (j + atoms l) in
    let L' : Lang = After l (suc i) j p in
    let R' : Lang = After r (suc i + nodes l) (j + atoms l) p in
    keeps_within i (Either L R) (Either L' R') p k m
    (keeps_left L R L' R' p k m (swap l (suc i) j p k m a)
    (λ s s' u' q h. no_both l r (suc i) (suc i + nodes l) j p s s' (word_after l (suc i) j p k m u' s a q) h))
swap (alt l r) i j p k w (within m (right b)) =
    let L : Lang = Word l (suc i) j in
    let R : Lang = Word r (suc i + nodes l) (j + atoms l) in
    let L' : Lang = After l (suc i) j p in
    let R' : Lang = After r (suc i + nodes l) (j + atoms l) p in
    keeps_within i (Either L R) (Either L' R') p k m
    (keeps_right L R L' R' p k m (swap r (suc i + nodes l) (j + atoms l) p k m b)
    (λ s s' u' q h. no_both l r (suc i) (suc i + nodes l) j p s' s h (word_after r (suc i + nodes l) (j + atoms l) p k m u' s b q)))
swap (star e) i j p k w (within m s) =
    let A : Lang = Word e (suc i) j in
    let X : Lang = After e (suc i) j p in
    keeps_within i (Star A) (Cat X (Star A)) p k m (keeps_star A X p k (λ m' a. swap e (suc i) j p k m' a) m s)
swap empty i j p k w (within m only) = keeps_within i (Only []) (λ w. ⊥) p k [] (λ u s e s' x. absurd x)
