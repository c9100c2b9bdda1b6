-- The words of an expression and what they have after an atom, counted over the tree by the laws of the operations.
-- Then the two sides of a place: what stands after atom p in a word is in `After p`, and one beginning goes with all of `After p` (`reach`).
-- Assumes nothing.
use mathlib.Core.Path.{◌≡◌, refl, sym, ◌∙◌, ap, subst}
use mathlib.Core.Bool.{Bool, true, false}
use mathlib.Core.List.{List, [], ◌∷◌, ◌++◌, append_assoc}
use mathlib.Core.Logic.{◌⊎◌, inl, inr, ⊎_elim}
use Prim.Native.Nat.{ℕ, suc, ◌+◌, ◌≤◌, ◌<◌}
use native.Mathlib.Omega.{arith}
use lib.Dec.{eqb}
use borrow.Author.Tests.{eqb-true, eqb-false}
use Rattle.expressions.specs.Count.{none, one, bit}
use Rattle.expressions.specs.Expr.{Atom, Exp, atom, cat, alt, star, empty, nodes, atoms}
use Rattle.expressions.specs.Words.{Bracket, opening, closing, Sym, br, at, Lang, Only, only, Cat, both, Either, left, right, Star, stop, more, Within, within, Word}
use Rattle.expressions.specs.Grammar.{Next}
use Rattle.expressions.specs.Decide.{null, first, last, follow}
use Rattle.expressions.proofs.Strings.{Str, Text, Ends, no_nil, start_end, start_go}
use Rattle.expressions.proofs.Counted.{End, Go, Counted, Upto, upto, counted_iff, counted_cat, counted_upto, counted_within, counted_either, counted_nil, counted_void, counted_atom, counted_star}

abbrev label : Bracket → ℕ
label (opening i) = i
label (closing i) = i

-- every bracket of the word has at least the number i
abbrev Above : ℕ → Lang
Above i [] = Unit {0}
Above i (br c ∷ w) = (i ≤ label c) × Above i w
Above i (at j k ∷ w) = Above i w

above_append : (i : ℕ) (u v : Text) → Above i u → Above i v → Above i (u ++ v)
above_append i [] v a b = b
above_append i (br c ∷ u) v a b = (a.0, above_append i u v a.1 b)
above_append i (at j k ∷ u) v a b = above_append i u v a b

above_weak : (i i' : ℕ) → i ≤ i' → (w : Text) → Above i' w → Above i w
above_weak i i' h [] a = tt
above_weak i i' h (br c ∷ w) a = let l : i' ≤ label c = a.0 in (omega arith, above_weak i i' h w a.1)
above_weak i i' h (at j k ∷ w) a = above_weak i i' h w a

star_above : (i : ℕ) (A : Lang) → ((w : Text) → A w → Above i w) → (w : Text) → Star A w → Above i w
star_above i A f w stop = tt
star_above i A f w (more u v a r) = above_append i u v (f u a) (star_above i A f v r)

-- a word is the brackets i around a word of higher brackets
abbrev Shape : ℕ → Lang
Shape i = Within i (Above (suc i))

shape_above : (i : ℕ) (w : Text) → Shape i w → Above i w
shape_above i w (within m a) =
    (omega arith, above_append i m (br (closing i) ∷ []) (above_weak i (suc i) (omega arith) m a) (omega arith, tt))

upto_ends : (i : ℕ) (m : Text) → Above (suc i) m → Ends (closing i) (m ++ br (closing i) ∷ [])
upto_ends i [] a = inl (refl, refl)
upto_ends i (br c ∷ m) a =
    inr (
      (λ e. let l : label c ≡ i = let h : c ≡ closing i = cc in ap label h in let h : suc i ≤ label c = a.0 in omega arith),
      upto_ends i m a.1,
    )
upto_ends i (at j k ∷ m) a = inr ((λ e. let z : ◌≡◌ {A = ℕ} 0 1 = cc in omega arith), upto_ends i m a)

shape_ends : (i : ℕ) (w : Text) → Shape i w → Ends (closing i) w
shape_ends i w (within m a) = inr ((λ e. let z : ◌≡◌ {A = ℕ} 0 1 = cc in omega arith), upto_ends i m a)

word_shape : (e : Exp) (i j : ℕ) (w : Text) → Word e i j w → Shape i w
word_shape (atom k) i j w (within m only) = within (at j k ∷ []) tt
word_shape (cat l r) i j w (within m (both u v a b)) =
    within (u ++ v) (above_append (suc i) u v (shape_above (suc i) u (word_shape l _ _ u a))
    (above_weak (suc i) (suc i + nodes l) (omega arith) v (shape_above _ v (word_shape r _ _ v b))))
word_shape (alt l r) i j w (within m (left a)) = within m (shape_above (suc i) m (word_shape l _ _ m a))
word_shape (alt l r) i j w (within m (right b)) =
    within m (above_weak (suc i) (suc i + nodes l) (omega arith) m (shape_above _ m (word_shape r _ _ m b)))
word_shape (star e) i j w (within m s) =
    within m (star_above (suc i) (Word e (suc i) j) (λ w a. shape_above (suc i) w (word_shape e _ _ w a)) m s)
word_shape empty i j w (within m only) = within [] tt

pub word_ends : (e : Exp) (i j : ℕ) (w : Text) → Word e i j w → Ends (closing i) w
word_ends e i j w a = shape_ends i w (word_shape e i j w a)

shape_starts : (i : ℕ) (w : Text) → Shape i w → (m : Text) × (w ≡ br (opening i) ∷ m)
shape_starts i w (within m a) = (_, refl)

pub word_starts : (e : Exp) (i j : ℕ) (w : Text) → Word e i j w → (m : Text) × (w ≡ br (opening i) ∷ m)
word_starts e i j w a = shape_starts i w (word_shape e i j w a)

-- every expression has a word
pub some_word : (e : Exp) (i j : ℕ) → (w : Text) × Word e i j w
some_word (atom k) i j = (_, within _ only)
some_word (cat l r) i j = (_, within _ (both _ _ (some_word l _ _).1 (some_word r _ _).1))
some_word (alt l r) i j = (_, within _ (left (some_word l _ _).1))
some_word (star e) i j = (_, within _ stop)
some_word empty i j = (_, within _ only)

pub nodes_pos : (e : Exp) → 1 ≤ nodes e
nodes_pos (atom k) = omega arith
nodes_pos (cat l r) = omega arith
nodes_pos (alt l r) = omega arith
nodes_pos (star e) = omega arith
nodes_pos empty = omega arith

-- what a word has after atom p
abbrev pub After : Exp → ℕ → ℕ → ℕ → Lang
After (atom k) i j p = Upto (closing i) (λ w. (p ≡ j) × Only [] w)
After (cat l r) i j p =
    Upto (closing i) (Either (Cat (After l (suc i) j p) (Word r (suc i + nodes l) (j + atoms l))) (After r (suc i + nodes l) (j + atoms l) p))
After (alt l r) i j p = Upto (closing i) (Either (After l (suc i) j p) (After r (suc i + nodes l) (j + atoms l) p))
After (star e) i j p = Upto (closing i) (Cat (After e (suc i) j p) (Star (Word e (suc i) j)))
After empty i j p = Upto (closing i) (λ w. ⊥)

-- p is one of the expression's atoms
pub after_range : (e : Exp) (i j p : ℕ) (w : Text) → After e i j p w → (j ≤ p) × (p < j + atoms e)
after_range (atom k) i j p w (upto m h) = let q : p ≡ j = h.0 in omega arith
after_range (cat l r) i j p w (upto m (left (both u v a b))) = let h = after_range l _ _ p u a in omega arith
after_range (cat l r) i j p w (upto m (right a)) = let h = after_range r _ _ p m a in omega arith
after_range (alt l r) i j p w (upto m (left a)) = let h = after_range l _ _ p m a in omega arith
after_range (alt l r) i j p w (upto m (right a)) = let h = after_range r _ _ p m a in omega arith
after_range (star e) i j p w (upto m (both u v a b)) = after_range e _ _ p u a
after_range empty i j p w (upto m h) = absurd h

pub no_both : (l r : Exp) (i i' j p : ℕ) (w w' : Text) → After l i j p w → After r i' (j + atoms l) p w' → ⊥
no_both l r i i' j p w w' a b =
    let h = after_range l i j p w a in
    let h' = after_range r i' (j + atoms l) p w' b in
    omega arith

upto_above : (i : ℕ) (w : Text) → Upto (closing i) (Above (suc i)) w → Above i w
upto_above i w (upto m a) = above_append i m (br (closing i) ∷ []) (above_weak i (suc i) (omega arith) m a) (omega arith, tt)

after_shape : (e : Exp) (i j p : ℕ) (w : Text) → After e i j p w → Upto (closing i) (Above (suc i)) w
after_shape (atom k) i j p w (upto m (q, only)) = upto [] tt
after_shape (cat l r) i j p w (upto m (left (both u v a b))) =
    upto (u ++ v) (above_append (suc i) u v (upto_above (suc i) u (after_shape l _ _ p u a))
    (above_weak (suc i) (suc i + nodes l) (omega arith) v (shape_above _ v (word_shape r _ _ v b))))
after_shape (cat l r) i j p w (upto m (right a)) =
    upto m (above_weak (suc i) (suc i + nodes l) (omega arith) m (upto_above _ m (after_shape r _ _ p m a)))
after_shape (alt l r) i j p w (upto m (left a)) = upto m (upto_above (suc i) m (after_shape l _ _ p m a))
after_shape (alt l r) i j p w (upto m (right a)) =
    upto m (above_weak (suc i) (suc i + nodes l) (omega arith) m (upto_above _ m (after_shape r _ _ p m a)))
after_shape (star e) i j p w (upto m (both u v a b)) =
    upto (u ++ v) (above_append (suc i) u v (upto_above (suc i) u (after_shape e _ _ p u a))
    (star_above (suc i) (Word e (suc i) j) (λ w a. shape_above (suc i) w (word_shape e _ _ w a)) v b))
after_shape empty i j p w (upto m h) = absurd h

shape_upto_ends : (i : ℕ) (w : Text) → Upto (closing i) (Above (suc i)) w → Ends (closing i) w
shape_upto_ends i w (upto m a) = upto_ends i m a

pub after_ends : (e : Exp) (i j p : ℕ) (w : Text) → After e i j p w → Ends (closing i) w
after_ends e i j p w a = shape_upto_ends i w (after_shape e i j p w a)

pub opening_inj : (i i' : ℕ) (α α' : Str) → opening i ∷ α ≡ opening i' ∷ α' → i ≡ i'
opening_inj i i' α α' e = cc

-- words of two expressions with different first brackets share no bracket string
module _ (tags : ℕ → List ℕ) (l r : Exp) (i i' j j' : ℕ) (differ : i ≡ i' → ⊥) where
  words_apart_end : (α : Str) → End (Word l i j) α → End (Word r i' j') α → ⊥
  words_apart_end α a b =
      let s = word_starts l i j _ a in
      let t = word_starts r i' j' _ b in
      let x = start_end (opening i) s.0 α s.1 in
      let y = start_end (opening i') t.0 α t.1 in
      differ (opening_inj i i' x.0 y.0 (sym x.1 ∙ y.1))

  words_apart_go : (x : Next) (α : Str) → Go tags (Word l i j) x α → Go tags (Word r i' j') x α → ⊥
  words_apart_go x α a b =
      let s = word_starts l i j _ a.4 in
      let t = word_starts r i' j' _ b.4 in
      let x = start_go (opening i) s.0 α a.0 a.1 a.2 s.1 in
      let y = start_go (opening i') t.0 α b.0 b.1 b.2 t.1 in
      differ (opening_inj i i' x.0 y.0 (sym x.1 ∙ y.1))

pub counted_word : (tags : ℕ → List ℕ) (e : Exp) (i j : ℕ) → Counted tags (Word e i j) (null e) (first tags e)
counted_word tags (atom k) i j = counted_within tags i _ _ _ (counted_atom tags j k)
counted_word tags (cat l r) i j =
    counted_within tags i _ _ _
    (counted_cat tags _ _ (closing (suc i)) (word_ends l (suc i) j) (some_word r _ _) _ _ _ _ (counted_word tags l _ _) (counted_word tags r _ _))
counted_word tags (alt l r) i j =
    let n = nodes_pos l in
    let d : suc i ≡ suc i + nodes l → ⊥ = λ e. omega arith in
    counted_within tags i _ _ _
    (counted_either tags _ _ (words_apart_end tags l r _ _ _ _ d) (words_apart_go tags l r _ _ _ _ d) _ _ _ _ (counted_word tags l _ _) (counted_word tags r _ _))
counted_word tags (star e) i j =
    counted_within tags i _ _ _ (counted_star tags _ (closing (suc i)) (word_ends e (suc i) j) _ _ (counted_word tags e _ _))
counted_word tags empty i j = counted_within tags i _ _ _ (counted_nil tags)

leaf_counted : (tags : ℕ → List ℕ) (p j : ℕ) (b : Bool) → eqb p j ≡ b → Counted tags (λ w. (p ≡ j) × Only [] w) (bit b) (λ x. none)
leaf_counted tags p j true e =
    counted_iff tags (Only []) (λ w. (p ≡ j) × Only [] w) (λ w o. (eqb-true p j e, o)) (λ w h. h.1) one (λ x. none) (counted_nil tags)
leaf_counted tags p j false e = counted_void tags _ (λ w h. eqb-false p j e h.0)

pub cat_left : (A B : Lang) (w : Text) → Cat A B w → (u : Text) × A u
cat_left A B w (both u v a b) = (u, a)

pub counted_after : (tags : ℕ → List ℕ) (e : Exp) (i j p : ℕ) → Counted tags (After e i j p) (last e j p) (follow tags e j p)
counted_after tags (atom k) i j p = counted_upto tags (closing i) _ _ _ (leaf_counted tags p j (eqb p j) refl)
counted_after tags (cat l r) i j p =
    counted_upto tags (closing i) _ _ _
    (counted_either tags _ _
    (λ α a b. let t = cat_left _ _ _ a in no_both l r _ _ j p t.0 _ t.1 b)
    (λ x α a b. let t = cat_left _ _ _ a.4 in no_both l r _ _ j p t.0 _ t.1 b.4) _ _ _ _
    (counted_cat tags _ _ (closing (suc i)) (after_ends l (suc i) j p) (some_word r _ _) _ _ _ _ (counted_after tags l _ _ p) (counted_word tags r _ _))
    (counted_after tags r _ _ p))
counted_after tags (alt l r) i j p =
    counted_upto tags (closing i) _ _ _
    (counted_either tags _ _ (λ α a b. no_both l r _ _ j p _ _ a b) (λ x α a b. no_both l r _ _ j p _ _ a.4 b.4) _ _ _ _
    (counted_after tags l _ _ p) (counted_after tags r _ _ p))
counted_after tags (star e) i j p =
    counted_upto tags (closing i) _ _ _
    (counted_cat tags _ _ (closing (suc i)) (after_ends e (suc i) j p) ([], stop) _ _ _ _ (counted_after tags e _ _ p)
    (counted_star tags _ (closing (suc i)) (word_ends e (suc i) j) _ _ (counted_word tags e _ _)))
counted_after tags empty i j p = counted_upto tags (closing i) _ _ _ (counted_void tags _ (λ w h. h))

-- where a word holds an atom, that atom stands in one of the two parts
append_split : (u₁ u₂ u : Text) (q : Sym) (s : Text) → u₁ ++ u₂ ≡ u ++ q ∷ s →
    ((s₁ : Text) × (u₁ ≡ u ++ q ∷ s₁) × (s ≡ s₁ ++ u₂)) ⊎ ((u' : Text) × (u₂ ≡ u' ++ q ∷ s))
append_split [] u₂ u q s e = inr (u, e)
append_split (a ∷ u₁) u₂ [] q s e = inl (u₁, (cc), (cc))
append_split (a ∷ u₁) u₂ (b ∷ u) q s e =
    let t : u₁ ++ u₂ ≡ u ++ q ∷ s = cc in
    let h : a ≡ b = cc in
    ⊎_elim (λ i. inl (i.0, (cc (h, i.1)), i.2)) (λ i. inr i) (append_split u₁ u₂ u q s t)

pub no_atom : (c : Bracket) (u : Text) (p : ℕ) (k : Atom) (s : Text) → br c ∷ [] ≡ u ++ at p k ∷ s → ⊥
no_atom c [] p k s e = let z : ◌≡◌ {A = ℕ} 0 1 = cc in omega arith
no_atom c (a ∷ []) p k s e = let z : ◌≡◌ {A = ℕ} 0 1 = cc in omega arith
no_atom c (a ∷ b ∷ u) p k s e = let z : ◌≡◌ {A = ℕ} 0 1 = cc in omega arith

pub append_nonempty : (u : Text) (q : Sym) (s : Text) → [] ≡ u ++ q ∷ s → ⊥
append_nonempty [] q s e = no_nil _ _ (sym e)
append_nonempty (a ∷ u) q s e = no_nil _ _ (sym e)

within_split : (i : ℕ) (m u : Text) (p : ℕ) (k : Atom) (s : Text) → br (opening i) ∷ (m ++ br (closing i) ∷ []) ≡ u ++ at p k ∷ s →
    (u' : Text) × (s' : Text) × (m ≡ u' ++ at p k ∷ s') × (s ≡ s' ++ br (closing i) ∷ [])
within_split i m [] p k s e = absurd (let z : ◌≡◌ {A = ℕ} 0 1 = cc in omega arith)
within_split i m (a ∷ u) p k s e =
    let t : m ++ br (closing i) ∷ [] ≡ u ++ at p k ∷ s = cc in
    ⊎_elim (λ h. (u, h.0, h.1, h.2)) (λ h. absurd (no_atom (closing i) h.0 p k s h.1))
    (append_split m (br (closing i) ∷ []) u (at p k) s t)

-- what holds of a word's inside after its atom p holds, with the closing bracket, of the word after p
within_after : (i : ℕ) (X : Lang) (m u : Text) (p : ℕ) (k : Atom) (s : Text) →
    ((u' s' : Text) → m ≡ u' ++ at p k ∷ s' → X s') → br (opening i) ∷ (m ++ br (closing i) ∷ []) ≡ u ++ at p k ∷ s → Upto (closing i) X s
within_after i X m u p k s f e =
    let h = within_split i m u p k s e in
    subst (Upto (closing i) X) (sym h.3) (upto h.1 (f h.0 h.1 h.2))

atom_after : (j : ℕ) (k₀ : Atom) (u : Text) (p : ℕ) (k : Atom) (s : Text) → at j k₀ ∷ [] ≡ u ++ at p k ∷ s → (p ≡ j) × Only [] s
atom_after j k₀ [] p k s e = let t : [] ≡ s = cc in ((cc), subst (Only []) t only)
atom_after j k₀ (a ∷ u) p k s e = let t : [] ≡ u ++ at p k ∷ s = cc in absurd (append_nonempty u _ s t)

star_after : (A X : Lang) (p : ℕ) (k : Atom) → ((w u s : Text) → A w → w ≡ u ++ at p k ∷ s → X s) →
    (w u s : Text) → Star A w → w ≡ u ++ at p k ∷ s → Cat X (Star A) s
star_after A X p k f w u s stop e = absurd (append_nonempty u _ s e)
star_after A X p k f w u s (more u₁ v₁ a r) e =
    ⊎_elim (λ h. subst (Cat X (Star A)) (sym h.2) (both h.0 v₁ (f u₁ u h.0 a h.1) r))
    (λ h. star_after A X p k f v₁ h.0 s r h.1)
    (append_split u₁ v₁ u (at p k) s e)

pub word_after : (e : Exp) (i j p : ℕ) (k : Atom) (w u s : Text) → Word e i j w → w ≡ u ++ at p k ∷ s → After e i j p s
word_after (atom k₀) i j p k w u s (within m only) e =
    within_after i (λ w. (p ≡ j) × Only [] w) (at j k₀ ∷ []) u p k s (λ u' s' e'. atom_after j k₀ u' p k s' e') e
word_after (cat l r) i j p k w u s (within m (both u₁ v₁ a b)) e =
    within_after i (Either (Cat (After l (suc i) j p) (Word r (suc i + nodes l) (j + atoms l))) (After r (suc i + nodes l) (j + atoms l) p)) (u₁ ++ v₁) u p k s
    (λ u' s' e'. ⊎_elim
    (λ h. left (subst (Cat (After l (suc i) j p) (Word r (suc i + nodes l) (j + atoms l))) (sym h.2)
    (both h.0 v₁ (word_after l _ _ p k u₁ u' h.0 a h.1) b)))
    (λ h. right (word_after r _ _ p k v₁ h.0 s' b h.1))
    (append_split u₁ v₁ u' (at p k) s' e')) e
word_after (alt l r) i j p k w u s (within m (left a)) e =
    within_after i (Either (After l (suc i) j p) (After r (suc i + nodes l) (j + atoms l) p)) m u p k s
    (λ u' s' e'. left (word_after l _ _ p k m u' s' a e')) e
word_after (alt l r) i j p k w u s (within m (right a)) e =
    within_after i (Either (After l (suc i) j p) (After r (suc i + nodes l) (j + atoms l) p)) m u p k s
    (λ u' s' e'. right (word_after r _ _ p k m u' s' a e')) e
word_after (star e₁) i j p k w u s (within m r) e =
    within_after i (Cat (After e₁ (suc i) j p) (Star (Word e₁ (suc i) j))) m u p k s
    (λ u' s' e'. star_after (Word e₁ (suc i) j) (After e₁ (suc i) j p) p k (λ w u s a q. word_after e₁ _ _ p k w u s a q) m u' s' r e') e
word_after empty i j p k w u s (within m only) e =
    within_after i (λ w. ⊥) [] u p k s (λ u' s' e'. append_nonempty u' _ s' e') e

-- the same beginning goes with whatever may come after an atom
abbrev Begins : Exp → ℕ → ℕ → ℕ → Text → Atom → Type 0
Begins e i j p u k = (s : Text) → After e i j p s → Word e i j (u ++ at p k ∷ s)

regroup : (u : Text) (q : Sym) (s v c : Text) → ((u ++ q ∷ s) ++ v) ++ c ≡ u ++ q ∷ ((s ++ v) ++ c)
regroup u q s v c = simp append_assoc

regroup_right : (w u : Text) (q : Sym) (s c : Text) → (w ++ (u ++ q ∷ s)) ++ c ≡ (w ++ u) ++ q ∷ (s ++ c)
regroup_right w u q s c = simp append_assoc

begins_atom : (k : Atom) (i j p : ℕ) → Begins (atom k) i j p (br (opening i) ∷ []) k
begins_atom k i j p s (upto m (q, only)) =
    subst (λ (z : ℕ). Within i (Only (at j k ∷ [])) (br (opening i) ∷ at z k ∷ br (closing i) ∷ [])) (sym q) (within (at j k ∷ []) only)

module _ (l r : Exp) (i j p : ℕ) (u : Text) (k : Atom) where
  begins_cat_left : Begins l (suc i) j p u k → ((w : Text) → After r (suc i + nodes l) (j + atoms l) p w → ⊥) →
      Begins (cat l r) i j p (br (opening i) ∷ u) k
  begins_cat_left f no_right s (upto m (left (both s₁ v a b))) =
      subst (λ (z : Text). Word (cat l r) i j (br (opening i) ∷ z)) (regroup u (at p k) s₁ v (br (closing i) ∷ []))
      (within ((u ++ at p k ∷ s₁) ++ v) (both (u ++ at p k ∷ s₁) v (f s₁ a) b))
  begins_cat_left f no_right s (upto m (right a)) = absurd (no_right m a)

  begins_cat_right : (w : Text) → Word l (suc i) j w → Begins r (suc i + nodes l) (j + atoms l) p u k →
      ((w : Text) → After l (suc i) j p w → ⊥) → Begins (cat l r) i j p (br (opening i) ∷ (w ++ u)) k
  begins_cat_right w a₀ f no_left s (upto m (left (both s₁ v a b))) = absurd (no_left s₁ a)
  begins_cat_right w a₀ f no_left s (upto m (right a)) =
      subst (λ (z : Text). Word (cat l r) i j (br (opening i) ∷ z)) (regroup_right w u (at p k) m (br (closing i) ∷ []))
      (within (w ++ (u ++ at p k ∷ m)) (both w (u ++ at p k ∷ m) a₀ (f m a)))

  begins_alt_left : Begins l (suc i) j p u k → ((w : Text) → After r (suc i + nodes l) (j + atoms l) p w → ⊥) →
      Begins (alt l r) i j p (br (opening i) ∷ u) k
  begins_alt_left f no_right s (upto m (left a)) =
      subst (λ (z : Text). Word (alt l r) i j (br (opening i) ∷ z)) (append_assoc u (at p k ∷ m) (br (closing i) ∷ []))
      (within (u ++ at p k ∷ m) (left (f m a)))
  begins_alt_left f no_right s (upto m (right a)) = absurd (no_right m a)

  begins_alt_right : Begins r (suc i + nodes l) (j + atoms l) p u k → ((w : Text) → After l (suc i) j p w → ⊥) →
      Begins (alt l r) i j p (br (opening i) ∷ u) k
  begins_alt_right f no_left s (upto m (left a)) = absurd (no_left m a)
  begins_alt_right f no_left s (upto m (right a)) =
      subst (λ (z : Text). Word (alt l r) i j (br (opening i) ∷ z)) (append_assoc u (at p k ∷ m) (br (closing i) ∷ []))
      (within (u ++ at p k ∷ m) (right (f m a)))

begins_star : (e : Exp) (i j p : ℕ) (u : Text) (k : Atom) → Begins e (suc i) j p u k → Begins (star e) i j p (br (opening i) ∷ u) k
begins_star e i j p u k f s (upto m (both s₁ v a b)) =
    subst (λ (z : Text). Word (star e) i j (br (opening i) ∷ z)) (regroup u (at p k) s₁ v (br (closing i) ∷ []))
    (within ((u ++ at p k ∷ s₁) ++ v) (more (u ++ at p k ∷ s₁) v (f s₁ a) b))

pub reach : (e : Exp) (i j p : ℕ) (s : Text) → After e i j p s → (u : Text) × (k : Atom) × Begins e i j p u k
reach (atom k) i j p s h = (br (opening i) ∷ [], k, begins_atom k i j p)
reach (cat l r) i j p s (upto m (left (both s₁ v a b))) =
    let t = reach l (suc i) j p s₁ a in
    (br (opening i) ∷ t.0, t.1, begins_cat_left l r i j p t.0 t.1 t.2 (λ w h. no_both l r _ _ j p s₁ w a h))
reach (cat l r) i j p s (upto m (right a)) =
    let t = reach r (suc i + nodes l) (j + atoms l) p m a in
    let o = some_word l (suc i) j in (
      br (opening i) ∷ (o.0 ++ t.0),
      t.1,
      begins_cat_right l r i j p t.0 t.1 o.0 o.1 t.2 (λ w h. no_both l r _ _ j p w m h a),
    )
reach (alt l r) i j p s (upto m (left a)) =
    let t = reach l (suc i) j p m a in
    (br (opening i) ∷ t.0, t.1, begins_alt_left l r i j p t.0 t.1 t.2 (λ w h. no_both l r _ _ j p m w a h))
reach (alt l r) i j p s (upto m (right a)) =
    let t = reach r (suc i + nodes l) (j + atoms l) p m a in
    (br (opening i) ∷ t.0, t.1, begins_alt_right l r i j p t.0 t.1 t.2 (λ w h. no_both l r _ _ j p w m h a))
reach (star e) i j p s (upto m (both s₁ v a b)) =
    let t = reach e (suc i) j p s₁ a in
    (br (opening i) ∷ t.0, t.1, begins_star e i j p t.0 t.1 t.2)
reach empty i j p s (upto m h) = absurd h
