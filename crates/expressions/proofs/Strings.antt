-- Bracket strings in words: how one comes apart where the word does, and the bracket that ends a word.
-- By going along the string. A bracket that a word has only at its end shows where the word ends, so a string comes apart in one way.
-- Assumes nothing.
use mathlib.Core.Path.{◌≡◌, refl, sym, ap}
use mathlib.Core.List.{List, [], ◌∷◌, ◌++◌}
use mathlib.Core.Logic.{◌⊎◌, inl, inr, ⊎_elim}
use Prim.Native.Nat.{ℕ}
use native.Mathlib.Omega.{arith}
use Rattle.expressions.specs.Expr.{Atom}
use Rattle.expressions.specs.Words.{Bracket, Sym, br, at, ◌▷◌}

abbrev pub Str : Type 0
Str = List Bracket

abbrev pub Text : Type 0
Text = List Sym

pub ▷-append : (α β : Str) (w : Text) → (α ++ β) ▷ w ≡ α ▷ (β ▷ w)
▷-append [] β w = refl
▷-append (c ∷ α) β w = ap (λ (t : Text). br c ∷ t) (▷-append α β w)

pub ▷-left : (α : Str) (u v : Text) → (α ▷ u) ++ v ≡ α ▷ (u ++ v)
▷-left [] u v = refl
▷-left (c ∷ α) u v = ap (λ (t : Text). br c ∷ t) (▷-left α u v)

cons_same : (c : Bracket) (α β : Str) → α ≡ β → c ∷ α ≡ c ∷ β
cons_same c α β e = ap (λ (l : Str). c ∷ l) e

-- a word of brackets alone comes apart into two of brackets alone
pub split_end : (u v : Text) (α : Str) → u ++ v ≡ α ▷ [] →
    (α₁ : Str) × (α₂ : Str) × (u ≡ α₁ ▷ []) × (v ≡ α₂ ▷ []) × (α ≡ α₁ ++ α₂)
split_end [] v α e = ([], α, refl, e, refl)
split_end (s ∷ u) v [] e = absurd (let z : ◌≡◌ {A = ℕ} 0 1 = cc in omega arith)
split_end (s ∷ u) v (c ∷ α) e =
    let t : u ++ v ≡ α ▷ [] = cc in
    let h : s ≡ br c = cc in
    let i = split_end u v α t in
    (c ∷ i.0, i.1, cc (h, i.2), i.3, cons_same c α (i.0 ++ i.1) i.4)

-- one that reaches an atom after the brackets α comes apart behind that atom or before it
pub split_go : (u v : Text) (α : Str) (j : ℕ) (k : Atom) (s : Text) → u ++ v ≡ α ▷ at j k ∷ s →
    ((s₁ : Text) × (u ≡ α ▷ at j k ∷ s₁) × (s ≡ s₁ ++ v)) ⊎
    ((α₁ : Str) × (α₂ : Str) × (u ≡ α₁ ▷ []) × (v ≡ α₂ ▷ at j k ∷ s) × (α ≡ α₁ ++ α₂))
split_go [] v α j k s e = inr ([], α, refl, e, refl)
split_go (q ∷ u) v [] j k s e = inl (u, cc, cc)
split_go (q ∷ u) v (c ∷ α) j k s e =
    let t : u ++ v ≡ α ▷ at j k ∷ s = cc in
    let h : q ≡ br c = cc in
    ⊎_elim (λ i. inl (i.0, (cc (h, i.1)), i.2))
    (λ i. inr (c ∷ i.0, i.1, (cc (h, i.2)), i.3, cons_same c α (i.0 ++ i.1) i.4))
    (split_go u v α j k s t)

-- the bracket c stands once in the word, as its last symbol
abbrev pub Ends : Bracket → Text → Type 0
Ends c [] = ⊥
Ends c (s ∷ w) = ((s ≡ br c) × (w ≡ [])) ⊎ ((s ≡ br c → ⊥) × Ends c w)

pub no_nil : (s : Sym) (w : Text) → s ∷ w ≡ [] → ⊥
no_nil s w e = let z : ◌≡◌ {A = ℕ} 0 1 = cc in omega arith

pub ▷-nil : (α : Str) → α ▷ [] ≡ [] → α ≡ []
▷-nil [] e = refl
▷-nil (c ∷ α) e = absurd (no_nil _ _ e)

pub ▷-cons : (α : Str) (s : Sym) (w : Text) → α ▷ s ∷ w ≡ [] → ⊥
▷-cons [] s w e = no_nil _ _ e
▷-cons (c ∷ α) s w e = no_nil _ _ e

-- a bracket string that starts with one that c ends does so in one way
pub unique_end : (c : Bracket) (α α' β β' : Str) → Ends c (α ▷ []) → Ends c (α' ▷ []) → α ++ β ≡ α' ++ β' → (α ≡ α') × (β ≡ β')
unique_end c [] α' β β' h h' e = absurd h
unique_end c (d ∷ α) [] β β' h h' e = absurd h'
unique_end c (d ∷ α) (d' ∷ α') β β' (inl h) (inl h') e =
    let a : α ≡ [] = ▷-nil α h.1 in
    let a' : α' ≡ [] = ▷-nil α' h'.1 in
    let t : α ++ β ≡ α' ++ β' = cc in
    ((cc), (cc))
unique_end c (d ∷ α) (d' ∷ α') β β' (inl h) (inr h') e = absurd (h'.0 (let k : br d ≡ br c = h.0 in cc))
unique_end c (d ∷ α) (d' ∷ α') β β' (inr h) (inl h') e = absurd (h.0 (let k : br d' ≡ br c = h'.0 in cc))
unique_end c (d ∷ α) (d' ∷ α') β β' (inr h) (inr h') e =
    let t : α ++ β ≡ α' ++ β' = cc in
    let i = unique_end c α α' β β' h.1 h'.1 t in
    let d_same : d ≡ d' = cc in
    let a_same : α ≡ α' = i.0 in
    ((cc), i.1)

-- one that leads to an atom inside a word that c ends does not start with one that c ends
pub before_end : (c : Bracket) (α β γ : Str) (s : Sym) (w : Text) → Ends c (α ▷ s ∷ w) → Ends c (β ▷ []) → α ≡ β ++ γ → ⊥
before_end c α [] γ s w h h' e = h'
before_end c [] (d ∷ β) γ s w h h' e = let z : ◌≡◌ {A = ℕ} 0 1 = cc in omega arith
before_end c (d' ∷ α) (d ∷ β) γ s w (inl h) h' e = ▷-cons α s w h.1
before_end c (d' ∷ α) (d ∷ β) γ s w (inr h) (inl h') e = h.0 (let k : br d ≡ br c = h'.0 in cc)
before_end c (d' ∷ α) (d ∷ β) γ s w (inr h) (inr h') e =
    let t : α ≡ β ++ γ = cc in
    before_end c α β γ s w h.1 h'.1 t

pub snoc_inj : (c : Bracket) (α β : Str) → α ++ c ∷ [] ≡ β ++ c ∷ [] → α ≡ β
snoc_inj c [] [] e = refl
snoc_inj c [] (b ∷ []) e = cc
snoc_inj c [] (b ∷ d ∷ β) e = cc
snoc_inj c (a ∷ []) [] e = cc
snoc_inj c (a ∷ d ∷ α) [] e = cc
snoc_inj c (a ∷ α) (b ∷ β) e =
    let t : α ++ c ∷ [] ≡ β ++ c ∷ [] = cc in
    let h : a ≡ b = cc in
    let i : α ≡ β = snoc_inj c α β t in
    cc

pub one_bracket : (c : Bracket) (α : Str) → br c ∷ [] ≡ α ▷ [] → α ≡ c ∷ []
one_bracket c [] e = absurd (no_nil _ _ e)
one_bracket c (d ∷ []) e = cc
one_bracket c (d ∷ d' ∷ α) e = absurd (let z : ◌≡◌ {A = ℕ} 0 1 = cc in omega arith)

pub bracket_no_atom : (c : Bracket) (α : Str) (j : ℕ) (k : Atom) (s : Text) → br c ∷ [] ≡ α ▷ at j k ∷ s → ⊥
bracket_no_atom c [] j k s e = let z : ◌≡◌ {A = ℕ} 0 1 = cc in omega arith
bracket_no_atom c (d ∷ α) j k s e = let t : [] ≡ α ▷ at j k ∷ s = cc in ▷-cons α _ _ (sym t)

pub one_atom : (j : ℕ) (k : Atom) (α : Str) (j' : ℕ) (k' : Atom) (s : Text) → α ▷ at j' k' ∷ s ≡ at j k ∷ [] → (α ≡ []) × (k' ≡ k)
one_atom j k [] j' k' s e = (refl, cc)
one_atom j k (c ∷ α) j' k' s e = absurd (let z : ◌≡◌ {A = ℕ} 0 1 = cc in omega arith)

pub atom_no_end : (j : ℕ) (k : Atom) (α : Str) → α ▷ [] ≡ at j k ∷ [] → ⊥
atom_no_end j k [] e = let z : ◌≡◌ {A = ℕ} 0 1 = cc in omega arith
atom_no_end j k (c ∷ α) e = let z : ◌≡◌ {A = ℕ} 0 1 = cc in omega arith

-- a word that starts with the bracket c
pub start_end : (c : Bracket) (m : Text) (α : Str) → α ▷ [] ≡ br c ∷ m → (α' : Str) × (α ≡ c ∷ α') × (m ≡ α' ▷ [])
start_end c m [] e = absurd (no_nil _ _ (sym e))
start_end c m (d ∷ α) e = (α, (cc), (cc))

pub start_go : (c : Bracket) (m : Text) (α : Str) (j : ℕ) (k : Atom) (s : Text) → α ▷ at j k ∷ s ≡ br c ∷ m →
    (α' : Str) × (α ≡ c ∷ α') × (m ≡ α' ▷ at j k ∷ s)
start_go c m [] j k s e = absurd (let z : ◌≡◌ {A = ℕ} 0 1 = cc in omega arith)
start_go c m (d ∷ α) j k s e = (α, (cc), (cc))
