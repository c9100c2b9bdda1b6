-- A bracket string decides the atom that it leads to; so where there is no fault, the place and the next symbol decide both.
-- For each operation on languages, then over the tree, as in the counting.
-- Assumes nothing.
use mathlib.Core.Path.{◌≡◌, refl, sym, ◌∙◌, subst}
use mathlib.Core.Bool.{true}
use mathlib.Core.List.{List, [], ◌∷◌, ◌++◌}
use mathlib.Core.Logic.{◌⊎◌, inl, inr, ⊎_elim}
use Prim.Native.Nat.{ℕ, zero, suc, ◌+◌}
use native.Mathlib.Omega.{arith}
use Rattle.expressions.specs.Expr.{Atom, nonterminal, anychar, Exp, atom, cat, alt, star, empty, nodes, atoms, Content, nothing, tree}
use Rattle.expressions.specs.Words.{Bracket, opening, closing, br, at, ◌▷◌, Lang, Only, Cat, Either, left, right, Star, stop, more, Within, Word}
use Rattle.expressions.specs.Grammar.{Next, tag, character, end, can_be}
use Rattle.expressions.specs.Fault.{UpTo, Leads, GoesOn, Fault}
use Rattle.expressions.proofs.Strings.{Str, Text, split_go, Ends, unique_end, before_end, ▷-cons, start_go, bracket_no_atom}
use Rattle.expressions.proofs.Counted.{cat_inv, star_inv, only_inv, upto_inv, opened_inv, within_back, Upto, Opened}
use Rattle.expressions.proofs.Tree.{After, word_ends, after_ends, word_starts, no_both, cat_left, nodes_pos, opening_inj}
use Rattle.expressions.proofs.Rule.{Rest, rest_of, no_fault_unique}

-- a bracket string leads to one atom
abbrev pub Reaches : Lang → Type 0
Reaches A = (α : Str) (j j' : ℕ) (k k' : Atom) (s s' : Text) → A (α ▷ at j k ∷ s) → A (α ▷ at j' k' ∷ s') → (j ≡ j') × (k ≡ k')

-- the two cases of an atom in a concatenation, as words of the parts
Parts : Lang → Lang → Str → ℕ → Atom → Text → Type 0
Parts A B α j k s =
    ((s₁ : Text) × A (α ▷ at j k ∷ s₁)) ⊎ ((α₁ : Str) × (α₂ : Str) × A (α₁ ▷ []) × B (α₂ ▷ at j k ∷ s) × (α ≡ α₁ ++ α₂))

parts : (A B : Lang) (u v : Text) → A u → B v → (α : Str) (j : ℕ) (k : Atom) (s : Text) → u ++ v ≡ α ▷ at j k ∷ s → Parts A B α j k s
unfolding Parts
parts A B u v a b α j k s e =
    ⊎_elim (λ i. inl (i.0, subst A i.1 a)) (λ i. inr (i.0, i.1, subst A i.2 a, subst B i.3 b, i.4)) (split_go u v α j k s e)

module _ (A B : Lang) (c : Bracket) (marked : (w : Text) → A w → Ends c w) (r_A : Reaches A) (r_B : Reaches B) where
  both_parts : (α : Str) (j j' : ℕ) (k k' : Atom) (s s' : Text) → Parts A B α j k s → Parts A B α j' k' s' → (j ≡ j') × (k ≡ k')
  unfolding Parts
  both_parts α j j' k k' s s' (inl h) (inl h') = r_A α j j' k k' _ _ h.1 h'.1
  both_parts α j j' k k' s s' (inl h) (inr h') = absurd (before_end c α h'.0 h'.1 _ _ (marked _ h.1) (marked _ h'.2) h'.4)
  both_parts α j j' k k' s s' (inr h) (inl h') = absurd (before_end c α h.0 h.1 _ _ (marked _ h'.1) (marked _ h.2) h.4)
  both_parts α j j' k k' s s' (inr h) (inr h') =
      let q = unique_end c h.0 h'.0 h.1 h'.1 (marked _ h.2) (marked _ h'.2) (sym h.4 ∙ h'.4) in
      r_B h.1 j j' k k' s s' h.3 (subst (λ (z : Str). B (z ▷ at j' k' ∷ s')) (sym q.1) h'.3)

  pub reaches_cat : Reaches (Cat A B)
  reaches_cat α j j' k k' s s' x y =
      let t = cat_inv A B _ x in
      let t' = cat_inv A B _ y in
      both_parts α j j' k k' s s' (parts A B t.0 t.1 t.2 t.3 α j k s t.4) (parts A B t'.0 t'.1 t'.2 t'.3 α j' k' s' t'.4)

pub reaches_upto : (c : Bracket) (A : Lang) → Reaches A → Reaches (Upto c A)
reaches_upto c A r_A α j j' k k' s s' x y =
    let t = upto_inv c A _ x in
    let t' = upto_inv c A _ y in
    ⊎_elim
    (λ i. ⊎_elim (λ i'. r_A α j j' k k' _ _ (subst A i.1 t.1) (subst A i'.1 t'.1))
    (λ i'. absurd (bracket_no_atom c i'.1 j' k' s' i'.3))
    (split_go t'.0 (br c ∷ []) α j' k' s' t'.2))
    (λ i. absurd (bracket_no_atom c i.1 j k s i.3))
    (split_go t.0 (br c ∷ []) α j k s t.2)

cons_inj : (c : Bracket) (α β : Str) → c ∷ α ≡ c ∷ β → α ≡ β
cons_inj c α β e = cc

pub reaches_opened : (c : Bracket) (A : Lang) → Reaches A → Reaches (Opened c A)
reaches_opened c A r_A α j j' k k' s s' x y =
    let t = opened_inv c A _ x in
    let t' = opened_inv c A _ y in
    let i = start_go c t.0 α j k s t.2 in
    let i' = start_go c t'.0 α j' k' s' t'.2 in
    let q : i'.0 ≡ i.0 = cons_inj c _ _ (sym i'.1 ∙ i.1) in
    r_A i.0 j j' k k' s s' (subst A i.2 t.1) (subst (λ (z : Str). A (z ▷ at j' k' ∷ s')) q (subst A i'.2 t'.1))

pub reaches_within : (i : ℕ) (A : Lang) → Reaches A → Reaches (Within i A)
reaches_within i A r_A α j j' k k' s s' x y =
    reaches_opened (opening i) (Upto (closing i) A) (reaches_upto (closing i) A r_A) α j j' k k' s s' (within_back i A _ x) (within_back i A _ y)

module _ (A : Lang) (c : Bracket) (marked : (w : Text) → A w → Ends c w) (r_A : Reaches A) where
  star_reaches : (w : Text) → Star A w → (α : Str) (j j' : ℕ) (k k' : Atom) (s s' : Text) → w ≡ α ▷ at j k ∷ s → Star A (α ▷ at j' k' ∷ s') →
      (j ≡ j') × (k ≡ k')
  star_reaches w stop α j j' k k' s s' e y = absurd (▷-cons α _ _ (sym e))
  star_reaches w (more u v a r) α j j' k k' s s' e y =
      ⊎_elim (λ z. absurd (▷-cons α _ _ z))
      (λ t. ⊎_elim
      (λ i. ⊎_elim (λ i'. r_A α j j' k k' _ _ (subst A i.1 a) (subst A i'.1 t.2))
      (λ i'. absurd (before_end c α i'.0 i'.1 _ _ (marked _ (subst A i.1 a)) (marked _ (subst A i'.2 t.2)) i'.4))
      (split_go t.0 t.1 α j' k' s' t.4))
      (λ i. ⊎_elim
      (λ i'. absurd (before_end c α i.0 i.1 _ _ (marked _ (subst A i'.1 t.2)) (marked _ (subst A i.2 a)) i.4))
      (λ i'. let q = unique_end c i.0 i'.0 i.1 i'.1 (marked _ (subst A i.2 a)) (marked _ (subst A i'.2 t.2)) (sym i.4 ∙ i'.4) in
      star_reaches v r i.1 j j' k k' s s' i.3
      (subst (λ (z : Str). Star A (z ▷ at j' k' ∷ s')) (sym q.1) (subst (Star A) i'.3 t.3)))
      (split_go t.0 t.1 α j' k' s' t.4))
      (split_go u v α j k s e))
      (star_inv A _ y)

  pub reaches_star : Reaches (Star A)
  reaches_star α j j' k k' s s' x y = star_reaches _ x α j j' k k' s s' refl y

module _ (A B : Lang) (apart : (α : Str) (j j' : ℕ) (k k' : Atom) (s s' : Text) → A (α ▷ at j k ∷ s) → B (α ▷ at j' k' ∷ s') → ⊥)
    (r_A : Reaches A) (r_B : Reaches B) where
  either_cases : (w : Text) → Either A B w → A w ⊎ B w
  either_cases w (left a) = inl a
  either_cases w (right b) = inr b

  pub reaches_either : Reaches (Either A B)
  reaches_either α j j' k k' s s' x y =
      ⊎_elim
      (λ a. ⊎_elim (λ a'. r_A α j j' k k' s s' a a') (λ b'. absurd (apart α j j' k k' s s' a b')) (either_cases _ y))
      (λ b. ⊎_elim (λ a'. absurd (apart α j' j k' k s' s a' b)) (λ b'. r_B α j j' k k' s s' b b') (either_cases _ y))
      (either_cases _ x)

reaches_atom : (j₀ : ℕ) (k₀ : Atom) → Reaches (Only (at j₀ k₀ ∷ []))
reaches_atom j₀ k₀ α j j' k k' s s' x y = same α (only_inv _ _ x) (only_inv _ _ y)
  where
    same : (α : Str) → α ▷ at j k ∷ s ≡ at j₀ k₀ ∷ [] → α ▷ at j' k' ∷ s' ≡ at j₀ k₀ ∷ [] → (j ≡ j') × (k ≡ k')
    same [] p q = ((cc), (cc))
    same (c ∷ α) p q = absurd (let z : ◌≡◌ {A = ℕ} 0 1 = cc in omega arith)

reaches_none : (A : Lang) → ((α : Str) (j : ℕ) (k : Atom) (s : Text) → A (α ▷ at j k ∷ s) → ⊥) → Reaches A
reaches_none A no_atom α j j' k k' s s' x y = absurd (no_atom α j k s x)

words_apart : (l r : Exp) (i i' j₁ j₂ : ℕ) → (i ≡ i' → ⊥) → (α : Str) (j j' : ℕ) (k k' : Atom) (s s' : Text) →
    Word l i j₁ (α ▷ at j k ∷ s) → Word r i' j₂ (α ▷ at j' k' ∷ s') → ⊥
words_apart l r i i' j₁ j₂ differ α j j' k k' s s' a b =
    let p = word_starts l i j₁ _ a in
    let q = word_starts r i' j₂ _ b in
    let x = start_go (opening i) p.0 α j k s p.1 in
    let y = start_go (opening i') q.0 α j' k' s' q.1 in
    differ (opening_inj i i' x.0 y.0 (sym x.1 ∙ y.1))

pub reaches_word : (e : Exp) (i j : ℕ) → Reaches (Word e i j)
reaches_word (atom k) i j = reaches_within i _ (reaches_atom j k)
reaches_word (cat l r) i j =
    reaches_within i _ (reaches_cat (Word l (suc i) j) (Word r (suc i + nodes l) (j + atoms l)) (closing (suc i)) (word_ends l (suc i) j)
    (reaches_word l _ _) (reaches_word r _ _))
reaches_word (alt l r) i j =
    let n = nodes_pos l in
    reaches_within i _ (reaches_either (Word l (suc i) j) (Word r (suc i + nodes l) (j + atoms l))
    (words_apart l r (suc i) (suc i + nodes l) j (j + atoms l) (λ e. omega arith)) (reaches_word l _ _) (reaches_word r _ _))
reaches_word (star e) i j = reaches_within i _ (reaches_star (Word e (suc i) j) (closing (suc i)) (word_ends e (suc i) j) (reaches_word e _ _))
reaches_word empty i j = reaches_within i _ (reaches_none (Only []) (λ α j k s x. ▷-cons α _ _ (only_inv _ _ x)))

pub reaches_after : (e : Exp) (i j p : ℕ) → Reaches (After e i j p)
reaches_after (atom k) i j p = reaches_upto (closing i) _ (reaches_none (λ w. (p ≡ j) × Only [] w) (λ α j k s x. ▷-cons α _ _ (only_inv _ _ x.1)))
reaches_after (cat l r) i j p =
    reaches_upto (closing i) _
    (reaches_either (Cat (After l (suc i) j p) (Word r (suc i + nodes l) (j + atoms l))) (After r (suc i + nodes l) (j + atoms l) p)
    (λ α j₁ j₂ k k' s s' a b. let t = cat_left _ _ _ a in no_both l r _ _ j p t.0 _ t.1 b)
    (reaches_cat (After l (suc i) j p) (Word r (suc i + nodes l) (j + atoms l)) (closing (suc i)) (after_ends l (suc i) j p) (reaches_after l _ _ p) (reaches_word r _ _))
    (reaches_after r _ _ p))
reaches_after (alt l r) i j p =
    reaches_upto (closing i) _ (reaches_either (After l (suc i) j p) (After r (suc i + nodes l) (j + atoms l) p)
    (λ α j₁ j₂ k k' s s' a b. no_both l r _ _ j p _ _ a b) (reaches_after l _ _ p) (reaches_after r _ _ p))
reaches_after (star e) i j p =
    reaches_upto (closing i) _ (reaches_cat (After e (suc i) j p) (Star (Word e (suc i) j)) (closing (suc i)) (after_ends e (suc i) j p) (reaches_after e _ _ p)
    (reaches_star (Word e (suc i) j) (closing (suc i)) (word_ends e (suc i) j) (reaches_word e _ _)))
reaches_after empty i j p = reaches_upto (closing i) _ (reaches_none (λ w. ⊥) (λ α j k s x. x))

reaches_rest : (e : Content) (p : ℕ) → Reaches (Rest e p)
reaches_rest nothing zero = reaches_none (Only []) (λ α j k s x. ▷-cons α _ _ (only_inv _ _ x))
reaches_rest nothing (suc p) = reaches_none (λ w. ⊥) (λ α j k s x. x)
reaches_rest (tree e) zero = reaches_word e 1 1
reaches_rest (tree e) (suc p) = reaches_after e 1 1 (suc p)

-- no atom can be the end, so what leads to an atom goes on to a tag or a character
leads_goes : (tags : ℕ → List ℕ) (e : Content) (u : Text) (x : Next) (α : Str) → Leads tags e u x α → GoesOn tags e u x α
leads_goes tags e u (tag t) α g = g
leads_goes tags e u character α g = g
leads_goes tags e u end α g = absurd (never g.1 g.3)
  where
    never : (k : Atom) → can_be tags k end ≡ true → ⊥
    never (nonterminal n) h = let z : ◌≡◌ {A = ℕ} 0 1 = cc in omega arith
    never anychar h = let z : ◌≡◌ {A = ℕ} 0 1 = cc in omega arith

-- where there is no fault at a place and a next symbol, one bracket string and one atom go on from there, whatever came before
pub one_step : (tags : ℕ → List ℕ) (e : Content) (p : ℕ) (x : Next) → (Fault tags e p x → ⊥) → (u u' : Text) → UpTo p u → UpTo p u' → (α β : Str) →
    (g : Leads tags e u x α) (g' : Leads tags e u' x β) → (α ≡ β) × (g.0 ≡ g'.0) × (g.1 ≡ g'.1)
one_step tags e p x no_fault u u' h h' α β g g' =
    let q = no_fault_unique tags e p x no_fault u u' h h' α β (leads_goes tags e u x α g) (leads_goes tags e u' x β g') in
    let r = reaches_rest e p α g.0 g'.0 g.1 g'.1 g.2 g'.2 (rest_of e p u _ h g.4)
    (subst (λ (z : Str). Rest e p (z ▷ at g'.0 g'.1 ∷ g'.2)) (sym q) (rest_of e p u' _ h' g'.4)) in
    (q, r.0, r.1)
