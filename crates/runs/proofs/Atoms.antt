-- A bracket string leads to one atom at most: each atom comes just after its own opening bracket, so the string's last bracket tells which.
-- Assumes nothing.
use mathlib.Core.Path.{◌≡◌, refl, sym, ◌∙◌, subst}
use mathlib.Core.List.{List, [], ◌∷◌, ◌++◌}
use mathlib.Core.Logic.{◌⊎◌, inl, inr}
use Prim.Native.Nat.{ℕ, zero, suc, ◌+◌, ◌≤◌, ◌<◌}
use native.Mathlib.Omega.{arith}
use Rattle.expressions.specs.Expr.{Atom, Exp, atom, cat, alt, star, empty, nodes, atoms, Content, nothing, tree}
use Rattle.expressions.specs.Words.{Bracket, opening, closing, Sym, br, at, ◌▷◌, Lang, Only, only, both, left, right, Star, stop, more, within, Word}
use Rattle.expressions.proofs.Tree.{reach, word_starts}
use Rattle.expressions.proofs.Rule.{Rest}

abbrev Str : Type 0
Str = List Bracket

abbrev Text : Type 0
Text = List Sym

-- the node with bracket b is atom j', of kind k'
abbrev IsAt : Exp → ℕ → ℕ → ℕ → ℕ → Atom → Type 0
IsAt (atom k) i j b j' k' = (b ≡ i) × (j' ≡ j) × (k' ≡ k)
IsAt (cat l r) i j b j' k' = IsAt l (suc i) j b j' k' ⊎ IsAt r (suc i + nodes l) (j + atoms l) b j' k'
IsAt (alt l r) i j b j' k' = IsAt l (suc i) j b j' k' ⊎ IsAt r (suc i + nodes l) (j + atoms l) b j' k'
IsAt (star e) i j b j' k' = IsAt e (suc i) j b j' k'
IsAt empty i j b j' k' = ⊥

is_at_range : (e : Exp) (i j b j' : ℕ) (k' : Atom) → IsAt e i j b j' k' → (i ≤ b) × (b < i + nodes e)
is_at_range (atom k) i j b j' k' h = let q : b ≡ i = h.0 in omega arith
is_at_range (cat l r) i j b j' k' (inl h) = let t = is_at_range l _ _ b j' k' h in omega arith
is_at_range (cat l r) i j b j' k' (inr h) = let t = is_at_range r _ _ b j' k' h in omega arith
is_at_range (alt l r) i j b j' k' (inl h) = let t = is_at_range l _ _ b j' k' h in omega arith
is_at_range (alt l r) i j b j' k' (inr h) = let t = is_at_range r _ _ b j' k' h in omega arith
is_at_range (star e) i j b j' k' h = let t = is_at_range e _ _ b j' k' h in omega arith
is_at_range empty i j b j' k' h = absurd h

is_at_after : (e : Exp) (i j b j' : ℕ) (k' : Atom) → IsAt e i j b j' k' → j ≤ j'
is_at_after (atom k) i j b j' k' h = let q : j' ≡ j = h.1 in omega arith
is_at_after (cat l r) i j b j' k' (inl h) = is_at_after l _ _ b j' k' h
is_at_after (cat l r) i j b j' k' (inr h) = let t = is_at_after r _ _ b j' k' h in omega arith
is_at_after (alt l r) i j b j' k' (inl h) = is_at_after l _ _ b j' k' h
is_at_after (alt l r) i j b j' k' (inr h) = let t = is_at_after r _ _ b j' k' h in omega arith
is_at_after (star e) i j b j' k' h = is_at_after e _ _ b j' k' h
is_at_after empty i j b j' k' h = absurd h

apart : (l r : Exp) (i j j₀ b j₁ j₂ : ℕ) (k₁ k₂ : Atom) → IsAt l i j b j₁ k₁ → IsAt r (i + nodes l) j₀ b j₂ k₂ → ⊥
apart l r i j j₀ b j₁ j₂ k₁ k₂ h h' =
    let t = is_at_range l i j b j₁ k₁ h in
    let t' = is_at_range r (i + nodes l) j₀ b j₂ k₂ h' in
    omega arith

is_at_one : (e : Exp) (i j b j₁ j₂ : ℕ) (k₁ k₂ : Atom) → IsAt e i j b j₁ k₁ → IsAt e i j b j₂ k₂ → (j₁ ≡ j₂) × (k₁ ≡ k₂)
is_at_one (atom k) i j b j₁ j₂ k₁ k₂ h h' = (h.1 ∙ sym h'.1, h.2 ∙ sym h'.2)
is_at_one (cat l r) i j b j₁ j₂ k₁ k₂ (inl h) (inl h') = is_at_one l _ _ b j₁ j₂ k₁ k₂ h h'
is_at_one (cat l r) i j b j₁ j₂ k₁ k₂ (inl h) (inr h') = absurd (apart l r (suc i) j (j + atoms l) b j₁ j₂ k₁ k₂ h h')
is_at_one (cat l r) i j b j₁ j₂ k₁ k₂ (inr h) (inl h') = absurd (apart l r (suc i) j (j + atoms l) b j₂ j₁ k₂ k₁ h' h)
is_at_one (cat l r) i j b j₁ j₂ k₁ k₂ (inr h) (inr h') = is_at_one r _ _ b j₁ j₂ k₁ k₂ h h'
is_at_one (alt l r) i j b j₁ j₂ k₁ k₂ (inl h) (inl h') = is_at_one l _ _ b j₁ j₂ k₁ k₂ h h'
is_at_one (alt l r) i j b j₁ j₂ k₁ k₂ (inl h) (inr h') = absurd (apart l r (suc i) j (j + atoms l) b j₁ j₂ k₁ k₂ h h')
is_at_one (alt l r) i j b j₁ j₂ k₁ k₂ (inr h) (inl h') = absurd (apart l r (suc i) j (j + atoms l) b j₂ j₁ k₂ k₁ h' h)
is_at_one (alt l r) i j b j₁ j₂ k₁ k₂ (inr h) (inr h') = is_at_one r _ _ b j₁ j₂ k₁ k₂ h h'
is_at_one (star e) i j b j₁ j₂ k₁ k₂ h h' = is_at_one e _ _ b j₁ j₂ k₁ k₂ h h'
is_at_one empty i j b j₁ j₂ k₁ k₂ h h' = absurd h

abbrev Rel : Type 1
Rel = ℕ → ℕ → Atom → Type 0

-- a word that does not start with an atom
abbrev NoAtom : Text → Type 0
NoAtom [] = Unit {0}
NoAtom (br c ∷ w) = Unit {0}
NoAtom (at j k ∷ w) = ⊥

abbrev Preceded : Rel → Bracket → Text → Type 0
Preceded R c [] = Unit {0}
Preceded R c (br d ∷ w) = Unit {0}
Preceded R (opening b) (at j k ∷ w) = R b j k
Preceded R (closing b) (at j k ∷ w) = ⊥

-- every atom comes just after its opening bracket, but for one at the front
abbrev Tagged : Rel → Text → Type 0
Tagged R [] = Unit {0}
Tagged R (br c ∷ w) = Preceded R c w × Tagged R w
Tagged R (at j k ∷ w) = NoAtom w × Tagged R w

no_atom_append : (u v : Text) → NoAtom u → NoAtom v → NoAtom (u ++ v)
no_atom_append [] v h h' = h'
no_atom_append (br c ∷ u) v h h' = tt
no_atom_append (at j k ∷ u) v h h' = h

preceded_none : (R : Rel) (c : Bracket) (w : Text) → NoAtom w → Preceded R c w
preceded_none R c [] h = tt
preceded_none R c (br d ∷ w) h = tt
preceded_none R c (at j k ∷ w) h = absurd h

preceded_append : (R : Rel) (c : Bracket) (u v : Text) → Preceded R c u → NoAtom v → Preceded R c (u ++ v)
preceded_append R c [] v h h' = preceded_none R c v h'
preceded_append R c (br d ∷ u) v h h' = tt
preceded_append R (opening b) (at j k ∷ u) v h h' = h
preceded_append R (closing b) (at j k ∷ u) v h h' = h

tagged_append : (R : Rel) (u v : Text) → Tagged R u → Tagged R v → NoAtom v → Tagged R (u ++ v)
tagged_append R [] v h h' a = h'
tagged_append R (br c ∷ u) v h h' a = (preceded_append R c u v h.0 a, tagged_append R u v h.1 h' a)
tagged_append R (at j k ∷ u) v h h' a = (no_atom_append u v h.0 a, tagged_append R u v h.1 h' a)

preceded_weak : (R R' : Rel) → ((b j : ℕ) (k : Atom) → R b j k → R' b j k) → (c : Bracket) (w : Text) → Preceded R c w → Preceded R' c w
preceded_weak R R' f c [] h = tt
preceded_weak R R' f c (br d ∷ w) h = tt
preceded_weak R R' f (opening b) (at j k ∷ w) h = f b j k h
preceded_weak R R' f (closing b) (at j k ∷ w) h = h

tagged_weak : (R R' : Rel) → ((b j : ℕ) (k : Atom) → R b j k → R' b j k) → (w : Text) → Tagged R w → Tagged R' w
tagged_weak R R' f [] h = tt
tagged_weak R R' f (br c ∷ w) h = (preceded_weak R R' f c w h.0, tagged_weak R R' f w h.1)
tagged_weak R R' f (at j k ∷ w) h = (h.0, tagged_weak R R' f w h.1)

tagged_within : (R : Rel) (i : ℕ) (m : Text) → Tagged R m → NoAtom m → Tagged R (br (opening i) ∷ (m ++ br (closing i) ∷ []))
tagged_within R i m h a = (
  preceded_none R (opening i) (m ++ br (closing i) ∷ []) (no_atom_append m (br (closing i) ∷ []) a tt),
  tagged_append R m (br (closing i) ∷ []) h (tt, tt) tt,
)

word_no_atom : (e : Exp) (i j : ℕ) (w : Text) → Word e i j w → NoAtom w
word_no_atom e i j w a = let t = word_starts e i j w a in subst NoAtom (sym t.1) tt

star_tagged : (R : Rel) (A : Lang) → ((w : Text) → A w → Tagged R w × NoAtom w) → (w : Text) → Star A w → Tagged R w × NoAtom w
star_tagged R A f w stop = (tt, tt)
star_tagged R A f w (more u v a s) =
    let x = f u a in
    let y = star_tagged R A f v s in
    (tagged_append R u v x.0 y.0 y.1, no_atom_append u v x.1 y.1)

word_tagged : (e : Exp) (i j : ℕ) (w : Text) → Word e i j w → Tagged (IsAt e i j) w
word_tagged (atom k) i j w (within m only) = ((refl, refl, refl), (tt, (tt, tt)))
word_tagged (cat l r) i j w (within m (both u v a b)) =
    let R : Rel = IsAt (cat l r) i j in
    tagged_within R i (u ++ v)
    (tagged_append R u v (tagged_weak (IsAt l (suc i) j) R (λ b j k h. inl h) u (word_tagged l _ _ u a))
    (tagged_weak (IsAt r (suc i + nodes l) (j + atoms l)) R (λ b j k h. inr h) v (word_tagged r _ _ v b)) (word_no_atom r _ _ v b))
    (no_atom_append u v (word_no_atom l _ _ u a) (word_no_atom r _ _ v b))
word_tagged (alt l r) i j w (within m (left a)) =
    let R : Rel = IsAt (alt l r) i j in
    tagged_within R i m (tagged_weak (IsAt l (suc i) j) R (λ b j k h. inl h) m (word_tagged l _ _ m a)) (word_no_atom l _ _ m a)
word_tagged (alt l r) i j w (within m (right b)) =
    let R : Rel = IsAt (alt l r) i j in
    tagged_within R i m (tagged_weak (IsAt r (suc i + nodes l) (j + atoms l)) R (λ b j k h. inr h) m (word_tagged r _ _ m b)) (word_no_atom r _ _ m b)
word_tagged (star e) i j w (within m s) =
    let t = star_tagged (IsAt e (suc i) j) (Word e (suc i) j) (λ w a. (word_tagged e (suc i) j w a, word_no_atom e (suc i) j w a)) m s in
    tagged_within (IsAt e (suc i) j) i m t.0 t.1
word_tagged empty i j w (within m only) = (tt, (tt, tt))

tagged_tail : (R : Rel) (u : Text) (j : ℕ) (k : Atom) (s : Text) → Tagged R (u ++ at j k ∷ s) → Tagged R s × NoAtom s
tagged_tail R [] j k s h = (h.1, h.0)
tagged_tail R (br c ∷ u) j k s h = tagged_tail R u j k s h.1
tagged_tail R (at j' k' ∷ u) j k s h = tagged_tail R u j k s h.1

abbrev RestRel : Content → Rel
RestRel nothing b j k = ⊥
RestRel (tree e) b j k = IsAt e 1 1 b j k

nil_tagged : (R : Rel) (w : Text) → Only [] w → Tagged R w × NoAtom w
nil_tagged R w only = (tt, tt)

rest_tagged : (e : Content) (p : ℕ) (w : Text) → Rest e p w → Tagged (RestRel e) w × NoAtom w
rest_tagged nothing zero w h = nil_tagged (RestRel nothing) w h
rest_tagged nothing (suc p) w h = absurd h
rest_tagged (tree e) zero w h = (word_tagged e 1 1 w h, word_no_atom e 1 1 w h)
rest_tagged (tree e) (suc p) w h =
    let t = reach e 1 1 (suc p) w h in
    tagged_tail (IsAt e 1 1) t.0 (suc p) t.1 w (word_tagged e 1 1 _ (t.2 w h))

rel_one : (e : Content) (b j₁ j₂ : ℕ) (k₁ k₂ : Atom) → RestRel e b j₁ k₁ → RestRel e b j₂ k₂ → (j₁ ≡ j₂) × (k₁ ≡ k₂)
rel_one nothing b j₁ j₂ k₁ k₂ h h' = absurd h
rel_one (tree e) b j₁ j₂ k₁ k₂ h h' = is_at_one e 1 1 b j₁ j₂ k₁ k₂ h h'

rel_pos : (e : Content) (b j : ℕ) (k : Atom) → RestRel e b j k → 1 ≤ j
rel_pos nothing b j k h = absurd h
rel_pos (tree e) b j k h = is_at_after e 1 1 b j k h

one_from : (e : Content) (α : Str) (j₁ j₂ : ℕ) (k₁ k₂ : Atom) (s₁ s₂ : Text) → NoAtom (α ▷ at j₁ k₁ ∷ s₁) →
    Tagged (RestRel e) (α ▷ at j₁ k₁ ∷ s₁) → Tagged (RestRel e) (α ▷ at j₂ k₂ ∷ s₂) → (j₁ ≡ j₂) × (k₁ ≡ k₂)
one_from e [] j₁ j₂ k₁ k₂ s₁ s₂ n h h' = absurd n
one_from e (opening b ∷ []) j₁ j₂ k₁ k₂ s₁ s₂ n h h' = rel_one e b j₁ j₂ k₁ k₂ h.0 h'.0
one_from e (closing b ∷ []) j₁ j₂ k₁ k₂ s₁ s₂ n h h' = absurd h.0
one_from e (c ∷ d ∷ α) j₁ j₂ k₁ k₂ s₁ s₂ n h h' = one_from e (d ∷ α) j₁ j₂ k₁ k₂ s₁ s₂ tt h.1 h'.1

pos_from : (e : Content) (α : Str) (j : ℕ) (k : Atom) (s : Text) → NoAtom (α ▷ at j k ∷ s) → Tagged (RestRel e) (α ▷ at j k ∷ s) → 1 ≤ j
pos_from e [] j k s n h = absurd n
pos_from e (opening b ∷ []) j k s n h = rel_pos e b j k h.0
pos_from e (closing b ∷ []) j k s n h = absurd h.0
pos_from e (c ∷ d ∷ α) j k s n h = pos_from e (d ∷ α) j k s tt h.1

-- one bracket string, one atom
pub one_atom_each : (e : Content) (p : ℕ) (α : Str) (j₁ j₂ : ℕ) (k₁ k₂ : Atom) (s₁ s₂ : Text) →
    Rest e p (α ▷ at j₁ k₁ ∷ s₁) → Rest e p (α ▷ at j₂ k₂ ∷ s₂) → (j₁ ≡ j₂) × (k₁ ≡ k₂)
one_atom_each e p α j₁ j₂ k₁ k₂ s₁ s₂ a b =
    let x = rest_tagged e p _ a in
    let y = rest_tagged e p _ b in
    one_from e α j₁ j₂ k₁ k₂ s₁ s₂ x.1 x.0 y.0

-- atoms are numbered from 1
pub atom_pos : (e : Content) (p : ℕ) (α : Str) (j : ℕ) (k : Atom) (s : Text) → Rest e p (α ▷ at j k ∷ s) → 1 ≤ j
atom_pos e p α j k s a = let x = rest_tagged e p _ a in pos_from e α j k s x.1 x.0
