-- Languages of bracketed words, and the numbers of bracket strings from their start to the end and to each next symbol.
-- For each operation on languages, once: its strings come apart (Strings), so their sets are images, sums and products, which are counted (Classed).
-- Assumes nothing.
use mathlib.Core.Path.{◌≡◌, refl, sym, ◌∙◌, ap, subst}
use mathlib.Core.Bool.{Bool, true, false}
use mathlib.Core.List.{List, [], ◌∷◌, ◌++◌, append-nil}
use mathlib.Core.Logic.{◌⊎◌, inl, inr, ⊎_elim}
use Prim.Native.Nat.{ℕ}
use native.Mathlib.Omega.{arith}
use Rattle.expressions.specs.Count.{Count, none, one, many, add, mul, rep, bit}
use Rattle.expressions.specs.Expr.{Atom}
use Rattle.expressions.specs.Words.{Bracket, opening, closing, br, at, ◌▷◌, Lang, Only, only, Cat, both, Either, left, right, Star, stop, more, Within, within}
use Rattle.expressions.specs.Grammar.{Next, can_be}
use Rattle.expressions.proofs.Classed.{Strings, Classed, classed_iff, classed_map, classed_add, classed_mul}
use Rattle.expressions.proofs.Strings.{Str, Text, ▷-append, ▷-left, split_end, split_go, Ends, unique_end, before_end, ▷-nil, ▷-cons, snoc_inj, one_bracket, bracket_no_atom, one_atom, atom_no_end, start_end, start_go}

-- the bracket strings that are whole words
abbrev pub End : Lang → Strings
End A α = A (α ▷ [])

-- those that lead to an atom that can be x
abbrev pub Go : (ℕ → List ℕ) → Lang → Next → Strings
Go tags A x α = (j : ℕ) × (k : Atom) × (s : Text) × (can_be tags k x ≡ true) × A (α ▷ at j k ∷ s)

module _ (tags : ℕ → List ℕ) where
  pub record Counted (A : Lang) (n : Count) (f : Next → Count) : Type 0 where
    pub ends : Classed n (End A)
    pub goes : (x : Next) → Classed (f x) (Go tags A x)

-- inversion
pub cat_inv : (A B : Lang) (w : Text) → Cat A B w → (u : Text) × (v : Text) × A u × B v × (u ++ v ≡ w)
cat_inv A B w (both u v a b) = (u, v, a, b, refl)

cat_end : (A B : Lang) (γ : Str) → End (Cat A B) γ → (α : Str) × (β : Str) × End A α × End B β × (γ ≡ α ++ β)
cat_end A B γ h =
    let t = cat_inv A B (γ ▷ []) h in
    let i = split_end t.0 t.1 γ t.4 in
    (i.0, i.1, subst A i.2 t.2, subst B i.3 t.3, i.4)

cat_go : (tags : ℕ → List ℕ) (A B : Lang) (x : Next) (γ : Str) → Go tags (Cat A B) x γ →
    Go tags A x γ ⊎ ((α : Str) × (β : Str) × End A α × Go tags B x β × (γ ≡ α ++ β))
cat_go tags A B x γ h =
    let t = cat_inv A B (γ ▷ at h.0 h.1 ∷ h.2) h.4 in
    ⊎_elim (λ i. inl (h.0, h.1, i.0, h.3, subst A i.1 t.2))
    (λ i. inr (i.0, i.1, subst A i.2 t.2, (h.0, h.1, h.2, h.3, subst B i.3 t.3), i.4))
    (split_go t.0 t.1 γ h.0 h.1 h.2 t.4)

cat_make : (A B : Lang) (α : Str) (w : Text) → A (α ▷ []) → B w → Cat A B (α ▷ w)
cat_make A B α w a b = subst (Cat A B) (▷-left α [] w) (both (α ▷ []) w a b)

module _ (tags : ℕ → List ℕ) (A B : Lang) (c : Bracket) (marked : (w : Text) → A w → Ends c w) (some : (w : Text) × B w)
    (n m : Count) (f g : Next → Count) (cA : Counted tags A n f) (cB : Counted tags B m g) where
  pub counted_cat : Counted tags (Cat A B) (mul n m) (λ x. add (f x) (mul n (g x)))
  counted_cat = record {
    ends = classed_mul (End A) (End B) (End (Cat A B))
        (λ α α' β β' p p' e. unique_end c α α' β β' (marked _ p) (marked _ p') e)
        (λ α β p q. subst (Cat A B) (sym (▷-append α β [])) (cat_make A B α (β ▷ []) p q))
        (cat_end A B) n m cA.ends cB.ends;
    goes = λ x. classed_add (Go tags A x) (Mixed x) (Go tags (Cat A B) x)
        (λ α p q. before_end c α q.0 q.1 (at p.0 p.1) p.2 (marked _ p.4) (marked _ q.2) q.4)
        (λ α p. (p.0, p.1, p.2 ++ some.0, p.3, subst (Cat A B) (▷-left α (at p.0 p.1 ∷ p.2) some.0) (both _ _ p.4 some.1)))
        (λ γ q. let d = q.3 in (
          d.0,
          d.1,
          d.2,
          d.3,
          subst (λ (z : Str). Cat A B (z ▷ at d.0 d.1 ∷ d.2)) (sym q.4)
              (subst (Cat A B) (sym (▷-append q.0 q.1 (at d.0 d.1 ∷ d.2))) (cat_make A B q.0 _ q.2 d.4)),
        ))
        (cat_go tags A B x)
        (f x) (mul n (g x)) (cA.goes x)
        (classed_mul (End A) (Go tags B x) (Mixed x)
        (λ α α' β β' p p' e. unique_end c α α' β β' (marked _ p) (marked _ p') e)
        (λ α β p q. (α, β, p, q, refl))
        (λ γ q. q)
        n (g x) cA.ends (cB.goes x));
  }
    where
      Mixed : Next → Strings
      Mixed x γ = (α : Str) × (β : Str) × End A α × Go tags B x β × (γ ≡ α ++ β)

-- the same language, said in another way
module _ (tags : ℕ → List ℕ) (A B : Lang) (to : (w : Text) → A w → B w) (back : (w : Text) → B w → A w)
    (n : Count) (f : Next → Count) (cA : Counted tags A n f) where
  pub counted_iff : Counted tags B n f
  counted_iff = record {
    ends = classed_iff (End A) (End B) (λ α. to (α ▷ [])) (λ α. back (α ▷ [])) n cA.ends;
    goes = λ x. classed_iff (Go tags A x) (Go tags B x)
        (λ α h. (h.0, h.1, h.2, h.3, to _ h.4)) (λ α h. (h.0, h.1, h.2, h.3, back _ h.4)) (f x) (cA.goes x);
  }

-- a bracket in front
pub data Opened (c : Bracket) (A : Lang) : Text → Type 0 where
  opened : (m : Text) → A m → Opened c A (br c ∷ m)

pub opened_inv : (c : Bracket) (A : Lang) (w : Text) → Opened c A w → (m : Text) × A m × (w ≡ br c ∷ m)
opened_inv c A w (opened m a) = (m, a, refl)

module _ (tags : ℕ → List ℕ) (c : Bracket) (A : Lang) (n : Count) (f : Next → Count) (cA : Counted tags A n f) where
  inj : (α β : Str) → c ∷ α ≡ c ∷ β → α ≡ β
  inj α β e = cc

  opened_end : (γ : Str) → End (Opened c A) γ → (α : Str) × End A α × (γ ≡ c ∷ α)
  opened_end γ h =
      let t = opened_inv c A (γ ▷ []) h in
      let i = start_end c t.0 γ t.2 in
      (i.0, subst A i.2 t.1, i.1)

  opened_go : (x : Next) (γ : Str) → Go tags (Opened c A) x γ → (α : Str) × Go tags A x α × (γ ≡ c ∷ α)
  opened_go x γ h =
      let t = opened_inv c A (γ ▷ at h.0 h.1 ∷ h.2) h.4 in
      let i = start_go c t.0 γ h.0 h.1 h.2 t.2 in
      (i.0, (h.0, h.1, h.2, h.3, subst A i.2 t.1), i.1)

  pub counted_opened : Counted tags (Opened c A) n f
  counted_opened = record {
    ends = classed_map (End A) (End (Opened c A)) (λ α. c ∷ α) inj (λ α a. opened _ a) opened_end n cA.ends;
    goes = λ x. classed_map (Go tags A x) (Go tags (Opened c A) x) (λ α. c ∷ α) inj
        (λ α h. (h.0, h.1, h.2, h.3, opened _ h.4)) (opened_go x) (f x) (cA.goes x);
  }

-- a bracket behind
pub data Upto (c : Bracket) (A : Lang) : Text → Type 0 where
  upto : (m : Text) → A m → Upto c A (m ++ br c ∷ [])

pub upto_inv : (c : Bracket) (A : Lang) (w : Text) → Upto c A w → (m : Text) × A m × (m ++ br c ∷ [] ≡ w)
upto_inv c A w (upto m a) = (m, a, refl)

module _ (tags : ℕ → List ℕ) (c : Bracket) (A : Lang) (n : Count) (f : Next → Count) (cA : Counted tags A n f) where
  upto_make : (α : Str) (w : Text) → A (α ▷ w) → Upto c A (α ▷ (w ++ br c ∷ []))
  upto_make α w a = subst (Upto c A) (▷-left α w (br c ∷ [])) (upto (α ▷ w) a)

  upto_end : (γ : Str) → End (Upto c A) γ → (α : Str) × End A α × (γ ≡ α ++ c ∷ [])
  upto_end γ h =
      let t = upto_inv c A (γ ▷ []) h in
      let i = split_end t.0 (br c ∷ []) γ t.2 in
      let l : i.1 ≡ c ∷ [] = one_bracket c i.1 i.3 in
      (i.0, subst A i.2 t.1, i.4 ∙ ap (λ (z : Str). i.0 ++ z) l)

  upto_go : (x : Next) (γ : Str) → Go tags (Upto c A) x γ → Go tags A x γ
  upto_go x γ h =
      let t = upto_inv c A (γ ▷ at h.0 h.1 ∷ h.2) h.4 in
      ⊎_elim (λ i. (h.0, h.1, i.0, h.3, subst A i.1 t.1))
      (λ i. absurd (bracket_no_atom c i.1 h.0 h.1 h.2 i.3))
      (split_go t.0 (br c ∷ []) γ h.0 h.1 h.2 t.2)

  pub counted_upto : Counted tags (Upto c A) n f
  counted_upto = record {
    ends = classed_map (End A) (End (Upto c A)) (λ α. α ++ c ∷ []) (snoc_inj c)
        (λ α a. subst (Upto c A) (sym (▷-append α (c ∷ []) [])) (upto_make α [] a)) upto_end n cA.ends;
    goes = λ x. classed_iff (Go tags A x) (Go tags (Upto c A) x)
        (λ α h. (h.0, h.1, h.2 ++ br c ∷ [], h.3, upto_make α (at h.0 h.1 ∷ h.2) h.4)) (upto_go x) (f x) (cA.goes x);
  }

-- a pair of brackets around
within_to : (i : ℕ) (A : Lang) (w : Text) → Opened (opening i) (Upto (closing i) A) w → Within i A w
within_to i A w (opened m (upto u a)) = within u a

pub within_back : (i : ℕ) (A : Lang) (w : Text) → Within i A w → Opened (opening i) (Upto (closing i) A) w
within_back i A w (within m a) = opened _ (upto m a)

pub counted_within : (tags : ℕ → List ℕ) (i : ℕ) (A : Lang) (n : Count) (f : Next → Count) → Counted tags A n f → Counted tags (Within i A) n f
counted_within tags i A n f cA =
    counted_iff tags (Opened (opening i) (Upto (closing i) A)) (Within i A) (within_to i A) (within_back i A) n f
    (counted_opened tags (opening i) (Upto (closing i) A) n f (counted_upto tags (closing i) A n f cA))

-- a union of languages that share no bracket string
module _ (tags : ℕ → List ℕ) (A B : Lang)
    (apart_end : (α : Str) → End A α → End B α → ⊥)
    (apart_go : (x : Next) (α : Str) → Go tags A x α → Go tags B x α → ⊥)
    (n m : Count) (f g : Next → Count) (cA : Counted tags A n f) (cB : Counted tags B m g) where
  either_inv : (w : Text) → Either A B w → A w ⊎ B w
  either_inv w (left a) = inl a
  either_inv w (right b) = inr b

  pub counted_either : Counted tags (Either A B) (add n m) (λ x. add (f x) (g x))
  counted_either = record {
    ends = classed_add (End A) (End B) (End (Either A B)) apart_end (λ α a. left a) (λ α b. right b)
        (λ α h. either_inv _ h) n m cA.ends cB.ends;
    goes = λ x. classed_add (Go tags A x) (Go tags B x) (Go tags (Either A B) x) (apart_go x)
        (λ α h. (h.0, h.1, h.2, h.3, left h.4)) (λ α h. (h.0, h.1, h.2, h.3, right h.4))
        (λ α h. ⊎_elim (λ a. inl (h.0, h.1, h.2, h.3, a)) (λ b. inr (h.0, h.1, h.2, h.3, b)) (either_inv _ h.4))
        (f x) (g x) (cA.goes x) (cB.goes x);
  }

-- the empty word; one atom; no word
pub only_inv : (u w : Text) → Only u w → w ≡ u
only_inv u w only = refl

pub counted_nil : (tags : ℕ → List ℕ) → Counted tags (Only []) one (λ x. none)
counted_nil tags = record {
  ends = ([], only, λ β h. ▷-nil β (only_inv _ _ h));
  goes = λ x α h. ▷-cons α _ _ (only_inv _ _ h.4);
}

pub counted_void : (tags : ℕ → List ℕ) (A : Lang) → ((w : Text) → A w → ⊥) → Counted tags A none (λ x. none)
counted_void tags A no_word = record { ends = λ α h. no_word _ h; goes = λ x α h. no_word _ h.4 }

module _ (tags : ℕ → List ℕ) (j : ℕ) (k : Atom) where
  atom_goes : (x : Next) (b : Bool) → can_be tags k x ≡ b → Classed (bit b) (Go tags (Only (at j k ∷ [])) x)
  atom_goes x true e =
      ([], (j, k, [], e, only), λ β h. (one_atom j k β h.0 h.1 h.2 (only_inv _ _ h.4)).0)
  atom_goes x false e = λ α h.
      let s : h.1 ≡ k = (one_atom j k α h.0 h.1 h.2 (only_inv _ _ h.4)).1 in
      let y : can_be tags h.1 x ≡ true = h.3 in
      let z : true ≡ false = sym y ∙ ap (λ (a : Atom). can_be tags a x) s ∙ e in
      let zz : ◌≡◌ {A = ℕ} 0 1 = cc z in
      omega arith

  pub counted_atom : Counted tags (Only (at j k ∷ [])) none (λ x. bit (can_be tags k x))
  counted_atom = record {
    ends = λ α h. atom_no_end j k α (only_inv _ _ h);
    goes = λ x. atom_goes x (can_be tags k x) refl;
  }

-- a repetition
pub star_inv : (A : Lang) (w : Text) → Star A w → (w ≡ []) ⊎ ((u : Text) × (v : Text) × A u × Star A v × (u ++ v ≡ w))
star_inv A w stop = inl refl
star_inv A w (more u v a r) = inr (u, v, a, r, refl)

star_one : (A : Lang) (u : Text) → A u → Star A u
star_one A u a = subst (Star A) (append-nil u) (more u [] a stop)

-- what leads to an atom in a repetition leads to it in one of its turns
star_go : (tags : ℕ → List ℕ) (A : Lang) (x : Next) (w : Text) → Star A w → (γ : Str) (j : ℕ) (k : Atom) (s : Text) → can_be tags k x ≡ true →
    w ≡ γ ▷ at j k ∷ s → (α : Str) × Go tags A x α
star_go tags A x w stop γ j k s can e = absurd (▷-cons γ _ _ (sym e))
star_go tags A x w (more u v a r) γ j k s can e =
    ⊎_elim (λ i. (γ, (j, k, i.0, can, subst A i.1 a)))
    (λ i. star_go tags A x v r i.1 j k s can i.3)
    (split_go u v γ j k s e)

module _ (tags : ℕ → List ℕ) (A : Lang) (c : Bracket) (marked : (w : Text) → A w → Ends c w) where
  star_end_none : ((α : Str) → End A α → ⊥) → (γ : Str) → End (Star A) γ → γ ≡ []
  star_end_none no_end γ h =
      ⊎_elim (λ e. ▷-nil γ e)
      (λ t. let i = split_end t.0 t.1 γ t.4 in absurd (no_end i.0 (subst A i.2 t.2)))
      (star_inv A (γ ▷ []) h)

  star_go_none : ((α : Str) → End A α → ⊥) → (x : Next) (γ : Str) → Go tags (Star A) x γ → Go tags A x γ
  star_go_none no_end x γ h =
      ⊎_elim (λ e. absurd (▷-cons γ _ _ e))
      (λ t. ⊎_elim (λ i. (h.0, h.1, i.0, h.3, subst A i.1 t.2))
      (λ i. absurd (no_end i.0 (subst A i.2 t.2)))
      (split_go t.0 t.1 γ h.0 h.1 h.2 t.4))
      (star_inv A (γ ▷ at h.0 h.1 ∷ h.2) h.4)

  go_star : (x : Next) (γ : Str) → Go tags A x γ → Go tags (Star A) x γ
  go_star x γ h = (h.0, h.1, h.2, h.3, star_one A _ h.4)

  -- the same after one turn of brackets alone
  go_again : (x : Next) (α γ : Str) → End A α → Go tags A x γ → Go tags (Star A) x (α ++ γ)
  go_again x α γ a h = (
    h.0,
    h.1,
    h.2,
    h.3,
    subst (Star A) (▷-left α [] (γ ▷ at h.0 h.1 ∷ h.2) ∙ sym (▷-append α γ (at h.0 h.1 ∷ h.2)))
        (more (α ▷ []) _ a (star_one A _ h.4)),
  )

  star_end_many : (α : Str) → End A α → Classed many (End (Star A))
  star_end_many α a = ([], α, stop, star_one A _ a, λ e. subst (λ (z : Str). Ends c (z ▷ [])) (sym e) (marked _ a))

  two_ways : (x : Next) (α γ : Str) → End A α → Go tags A x γ → Classed many (Go tags (Star A) x)
  two_ways x α γ a h = (
    γ,
    α ++ γ,
    go_star x γ h,
    go_again x α γ a h,
    λ e. before_end c γ α γ (at h.0 h.1) h.2 (marked _ h.4) (marked _ a) e,
  )

  star_go_many : (x : Next) (α : Str) → End A α → (m : Count) → Classed m (Go tags A x) → Classed (mul many m) (Go tags (Star A) x)
  star_go_many x α a none q = λ γ h. let t = star_go tags A x _ h.4 γ h.0 h.1 h.2 h.3 refl in q t.0 t.1
  star_go_many x α a one q = two_ways x α q.0 a q.1
  star_go_many x α a many q = two_ways x α q.0 a q.2

  pub counted_star : (n : Count) (f : Next → Count) → Counted tags A n f → Counted tags (Star A) (rep n one) (λ x. rep n (f x))
  counted_star none f cA = record {
    ends = ([], stop, λ β h. star_end_none cA.ends β h);
    goes = λ x. classed_iff (Go tags A x) (Go tags (Star A) x) (go_star x) (star_go_none cA.ends x) (f x) (cA.goes x);
  }
  counted_star one f cA = record {
    ends = star_end_many cA.ends.0 cA.ends.1;
    goes = λ x. star_go_many x cA.ends.0 cA.ends.1 (f x) (cA.goes x);
  }
  counted_star many f cA = record {
    ends = star_end_many cA.ends.0 cA.ends.2;
    goes = λ x. star_go_many x cA.ends.0 cA.ends.2 (f x) (cA.goes x);
  }
