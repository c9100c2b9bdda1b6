-- The first two strings are strings from the place to the symbol, and differ: for each operation once, and then by the expression's tree.
-- Assumes nothing.
use mathlib.Core.Path.{◌≡◌, refl, sym, ◌∙◌, ap, subst}
use mathlib.Core.Bool.{Bool, true, false}
use mathlib.Core.List.{List, [], ◌∷◌, ◌++◌, append-nil}
use mathlib.Core.Logic.{◌⊎◌, inl, inr}
use Prim.Native.Nat.{ℕ, zero, suc, ◌+◌}
use native.Mathlib.Omega.{arith}
use lib.Dec.{eqb}
use borrow.Author.Tests.{eqb-true}
use Rattle.expressions.specs.Expr.{Exp, atom, cat, alt, star, empty, nodes, atoms, Content, nothing, tree}
use Rattle.expressions.specs.Words.{Bracket, opening, closing, br, at, ◌▷◌, Lang, Only, only, Cat, Either, left, right, Star, stop, more, Within, within, Word}
use Rattle.expressions.specs.Words as words
use Rattle.expressions.specs.Grammar.{Next, tag, character, end, can_be}
use Rattle.expressions.proofs.Classed.{Strings}
use Rattle.expressions.proofs.Strings.{Str, Text, ▷-append, ▷-left, Ends, unique_end, before_end, snoc_inj, start_end, start_go}
use Rattle.expressions.proofs.Counted.{End, Go, Upto, upto}
use Rattle.expressions.proofs.Tree.{After, word_ends, word_starts, after_ends, some_word, nodes_pos, no_both, cat_left, opening_inj}
use Rattle.expressions.proofs.Rule.{Rest, Paths}
use Rattle.parting.specs.Firsts.{Firsts, no_string, one_string, two_strings, either, each_changed, both, goes_round, when, each_opened, each_closed, each_enclosed, firsts_through, firsts_into, firsts_out_of, firsts_across, firsts_to_end, firsts_to_atom, firsts}

-- they have the property, and differ
abbrev pub Listed : Strings → Firsts → Type 0
Listed P no_string = Unit {0}
Listed P (one_string α) = P α
Listed P (two_strings α β) = P α × P β × (α ≡ β → ⊥)

listed_each : (P Q : Strings) (h : Str → Str) → ((α β : Str) → h α ≡ h β → α ≡ β) → ((α : Str) → P α → Q (h α)) → (f : Firsts) → Listed P f → Listed Q (each_changed h f)
listed_each P Q h inj to no_string l = tt
listed_each P Q h inj to (one_string α) l = to α l
listed_each P Q h inj to (two_strings α β) l = (to α l.0, to β l.1, λ e. l.2 (inj α β e))

listed_weak : (P Q : Strings) → ((α : Str) → P α → Q α) → (f : Firsts) → Listed P f → Listed Q f
listed_weak P Q to no_string l = tt
listed_weak P Q to (one_string α) l = to α l
listed_weak P Q to (two_strings α β) l = (to α l.0, to β l.1, l.2)

module _ (P Q R : Strings) (apart : (α : Str) → P α → Q α → ⊥) (from_P : (α : Str) → P α → R α) (from_Q : (α : Str) → Q α → R α) where
  differ : (α β : Str) → P α → Q β → α ≡ β → ⊥
  differ α β p q e = apart β (subst P e p) q

  listed_either : (f g : Firsts) → Listed P f → Listed Q g → Listed R (either f g)
  listed_either no_string g p q = listed_weak Q R from_Q g q
  listed_either (one_string α) no_string p q = from_P α p
  listed_either (one_string α) (one_string β) p q = (from_P α p, from_Q β q, differ α β p q)
  listed_either (one_string α) (two_strings β γ) p q = (from_P α p, from_Q β q.0, differ α β p q.0)
  listed_either (two_strings α β) g p q = (from_P α p.0, from_P β p.1, p.2)

module _ (P Q R : Strings) (unique : (α α' β β' : Str) → P α → P α' → α ++ β ≡ α' ++ β' → (α ≡ α') × (β ≡ β')) (make : (α β : Str) → P α → Q β → R (α ++ β)) where
  listed_both : (f g : Firsts) → Listed P f → Listed Q g → Listed R (both f g)
  listed_both no_string g p q = tt
  listed_both (one_string α) no_string p q = tt
  listed_both (one_string α) (one_string γ) p q = make α γ p q
  listed_both (one_string α) (two_strings γ δ) p q = (make α γ p q.0, make α δ p q.1, λ e. q.2 (unique α α γ δ p p e).1)
  listed_both (two_strings α β) no_string p q = tt
  listed_both (two_strings α β) (one_string γ) p q = (make α γ p.0 q, make β γ p.1 q, λ e. p.2 (unique α β γ γ p.0 p.1 e).0)
  listed_both (two_strings α β) (two_strings γ δ) p q =
      (make α γ p.0 q.0, make α δ p.0 q.1, λ e. q.2 (unique α α γ δ p.0 p.0 e).1)

module _ (P Q R : Strings) (plain : (γ : Str) → Q γ → R γ) (again : (α γ : Str) → P α → Q γ → R (α ++ γ)) (apart : (α γ : Str) → P α → Q γ → γ ≡ α ++ γ → ⊥) where
  listed_turned : (f g : Firsts) → Listed P f → Listed Q g → Listed R (goes_round f g)
  listed_turned no_string g p q = listed_weak Q R plain g q
  listed_turned (one_string α) no_string p q = tt
  listed_turned (one_string α) (one_string γ) p q = (plain γ q, again α γ p q, apart α γ p q)
  listed_turned (one_string α) (two_strings γ δ) p q = (plain γ q.0, plain δ q.1, q.2)
  listed_turned (two_strings α β) no_string p q = tt
  listed_turned (two_strings α β) (one_string γ) p q = (plain γ q, again α γ p.0 q, apart α γ p.0 q)
  listed_turned (two_strings α β) (two_strings γ δ) p q = (plain γ q.0, plain δ q.1, q.2)

listed_when : (P : Strings) (b : Bool) → (b ≡ true → P []) → Listed P (when b)
listed_when P true h = h refl
listed_when P false h = tt

-- brackets around a language's words
cons_inj : (c : Bracket) (α β : Str) → c ∷ α ≡ c ∷ β → α ≡ β
cons_inj c α β e = cc

upto_within : (i : ℕ) (A : Lang) (w : Text) → Upto (closing i) A w → Within i A (br (opening i) ∷ w)
upto_within i A w (upto m a) = within m a

end_upto : (c : Bracket) (A : Lang) (α : Str) → End A α → End (Upto c A) (α ++ c ∷ [])
end_upto c A α a = subst (Upto c A) (▷-left α [] (br c ∷ []) ∙ sym (▷-append α (c ∷ []) [])) (upto (α ▷ []) a)

listed_closed : (i : ℕ) (A : Lang) (f : Firsts) → Listed (End A) f → Listed (End (Upto (closing i) A)) (each_closed i f)
listed_closed i A = listed_each (End A) (End (Upto (closing i) A)) (λ α. α ++ closing i ∷ []) (snoc_inj (closing i)) (end_upto (closing i) A)

listed_enclosed : (i : ℕ) (A : Lang) (f : Firsts) → Listed (End A) f → Listed (End (Within i A)) (each_enclosed i f)
listed_enclosed i A f l =
    listed_each (End (Upto (closing i) A)) (End (Within i A)) (λ α. opening i ∷ α) (cons_inj (opening i)) (λ α a. upto_within i A (α ▷ []) a) (each_closed i f)
    (listed_closed i A f l)

module _ (tags : ℕ → List ℕ) (x : Next) where
  go_upto : (c : Bracket) (A : Lang) (α : Str) → Go tags A x α → Go tags (Upto c A) x α
  go_upto c A α h =
      (h.0, h.1, h.2 ++ br c ∷ [], h.3, subst (Upto c A) (▷-left α (at h.0 h.1 ∷ h.2) (br c ∷ [])) (upto (α ▷ at h.0 h.1 ∷ h.2) h.4))

  go_within : (i : ℕ) (A : Lang) (α : Str) → Go tags A x α → Go tags (Within i A) x (opening i ∷ α)
  go_within i A α h =
      let k = go_upto (closing i) A α h in
      (k.0, k.1, k.2, k.3, upto_within i A (α ▷ at k.0 k.1 ∷ k.2) k.4)

  listed_opened : (i : ℕ) (A : Lang) (f : Firsts) → Listed (Go tags A x) f → Listed (Go tags (Within i A) x) (each_opened i f)
  listed_opened i A = listed_each (Go tags A x) (Go tags (Within i A) x) (λ α. opening i ∷ α) (cons_inj (opening i)) (go_within i A)

  go_left : (A B : Lang) → (w : Text) × B w → (α : Str) → Go tags A x α → Go tags (Cat A B) x α
  go_left A B v α h =
      (h.0, h.1, h.2 ++ v.0, h.3, subst (Cat A B) (▷-left α (at h.0 h.1 ∷ h.2) v.0) (words.both (α ▷ at h.0 h.1 ∷ h.2) v.0 h.4 v.1))

  go_right : (A B : Lang) (α β : Str) → End A α → Go tags B x β → Go tags (Cat A B) x (α ++ β)
  go_right A B α β a h =
      let t : Text = at h.0 h.1 ∷ h.2 in
      (h.0, h.1, h.2, h.3, subst (Cat A B) (▷-left α [] (β ▷ t) ∙ sym (▷-append α β t)) (words.both (α ▷ []) (β ▷ t) a h.4))

end_cat : (A B : Lang) (α β : Str) → End A α → End B β → End (Cat A B) (α ++ β)
end_cat A B α β a b = subst (Cat A B) (▷-left α [] (β ▷ []) ∙ sym (▷-append α β [])) (words.both (α ▷ []) (β ▷ []) a b)

-- a language whose words end with a bracket of their own, and one behind it
module _ (A B : Lang) (c : Bracket) (marked : (w : Text) → A w → Ends c w) where
  one_split : (α α' β β' : Str) → End A α → End A α' → α ++ β ≡ α' ++ β' → (α ≡ α') × (β ≡ β')
  one_split α α' β β' p p' e = unique_end c α α' β β' (marked _ p) (marked _ p') e

  listed_cat : (f g : Firsts) → Listed (End A) f → Listed (End B) g → Listed (End (Cat A B)) (both f g)
  listed_cat = listed_both (End A) (End B) (End (Cat A B)) one_split (end_cat A B)

  module _ (tags : ℕ → List ℕ) (x : Next) (some : (w : Text) × B w) where
    -- through a word of A, and then to an atom in B
    abbrev Behind : Strings
    Behind γ = (α : Str) × (β : Str) × End A α × Go tags B x β × (γ ≡ α ++ β)

    listed_then : (f h g : Firsts) → Listed (Go tags A x) f → Listed (End A) h → Listed (Go tags B x) g → Listed (Go tags (Cat A B) x) (either f (both h g))
    listed_then f h g lf lh lg =
        listed_either (Go tags A x) Behind (Go tags (Cat A B) x)
        (λ α p q. before_end c α q.0 q.1 (at p.0 p.1) p.2 (marked _ p.4) (marked _ q.2) q.4)
        (go_left tags x A B some)
        (λ γ q. subst (Go tags (Cat A B) x) (sym q.4) (go_right tags x A B q.0 q.1 q.2 q.3))
        f (both h g) lf
        (listed_both (End A) (Go tags B x) Behind one_split (λ α β p q. (α, β, p, q, refl)) h g lh lg)

-- a repetition
module _ (A : Lang) (c : Bracket) (marked : (w : Text) → A w → Ends c w) where
  star_one : (u : Text) → A u → Star A u
  star_one u a = subst (Star A) (append-nil u) (more u [] a stop)

  not_empty : (α γ : Str) → End A α → γ ≡ [] → γ ≡ α ++ γ → ⊥
  not_empty [] γ a e q = marked [] a
  not_empty (d ∷ α) γ a e q = let z : ◌≡◌ {A = ℕ} 0 1 = cc in omega arith

  listed_turns : (f : Firsts) → Listed (End A) f → Listed (End (Star A)) (goes_round f (one_string []))
  listed_turns f l =
      listed_turned (End A) (λ γ. γ ≡ []) (End (Star A)) (λ γ e. subst (End (Star A)) (sym e) stop)
      (λ α γ a e. subst (λ (z : Str). End (Star A) (α ++ z)) (sym e) (subst (End (Star A)) (sym (append-nil α)) (star_one (α ▷ []) a)))
      not_empty f (one_string []) l refl

  module _ (tags : ℕ → List ℕ) (x : Next) where
    go_star : (γ : Str) → Go tags A x γ → Go tags (Star A) x γ
    go_star γ h = (h.0, h.1, h.2, h.3, star_one _ h.4)

    go_again : (α γ : Str) → End A α → Go tags A x γ → Go tags (Star A) x (α ++ γ)
    go_again α γ a h =
        let t : Text = at h.0 h.1 ∷ h.2 in
        (h.0, h.1, h.2, h.3, subst (Star A) (▷-left α [] (γ ▷ t) ∙ sym (▷-append α γ t)) (more (α ▷ []) (γ ▷ t) a (star_one (γ ▷ t) h.4)))

    listed_star : (f g : Firsts) → Listed (End A) f → Listed (Go tags A x) g → Listed (Go tags (Star A) x) (goes_round f g)
    listed_star =
        listed_turned (End A) (Go tags A x) (Go tags (Star A) x) go_star go_again
        (λ α γ a h e. before_end c γ α γ (at h.0 h.1) h.2 (marked _ h.4) (marked _ a) e)

-- the two sides of a union start with different brackets
module _ (tags : ℕ → List ℕ) (l r : Exp) (i j j' : ℕ) where
  other_bracket : suc i ≡ suc i + nodes l → ⊥
  other_bracket e = let n = nodes_pos l in omega arith

  sides_end : (α : Str) → End (Word l (suc i) j) α → End (Word r (suc i + nodes l) j') α → ⊥
  sides_end α a b =
      let s = word_starts l (suc i) j _ a in
      let t = word_starts r (suc i + nodes l) j' _ b in
      let y = start_end (opening (suc i)) s.0 α s.1 in
      let z = start_end (opening (suc i + nodes l)) t.0 α t.1 in
      other_bracket (opening_inj (suc i) (suc i + nodes l) y.0 z.0 (sym y.1 ∙ z.1))

  sides_go : (x : Next) (α : Str) → Go tags (Word l (suc i) j) x α → Go tags (Word r (suc i + nodes l) j') x α → ⊥
  sides_go x α a b =
      let s = word_starts l (suc i) j _ a.4 in
      let t = word_starts r (suc i + nodes l) j' _ b.4 in
      let y = start_go (opening (suc i)) s.0 α a.0 a.1 a.2 s.1 in
      let z = start_go (opening (suc i + nodes l)) t.0 α b.0 b.1 b.2 t.1 in
      other_bracket (opening_inj (suc i) (suc i + nodes l) y.0 z.0 (sym y.1 ∙ z.1))

-- either of two languages
module _ (A B : Lang) where
  listed_end_either : ((α : Str) → End A α → End B α → ⊥) → (f g : Firsts) → Listed (End A) f → Listed (End B) g → Listed (End (Either A B)) (either f g)
  listed_end_either apart = listed_either (End A) (End B) (End (Either A B)) apart (λ α a. left a) (λ α b. right b)

  listed_go_either : (tags : ℕ → List ℕ) (x : Next) → ((α : Str) → Go tags A x α → Go tags B x α → ⊥) →
      (f g : Firsts) → Listed (Go tags A x) f → Listed (Go tags B x) g → Listed (Go tags (Either A B) x) (either f g)
  listed_go_either tags x apart =
      listed_either (Go tags A x) (Go tags B x) (Go tags (Either A B) x) apart
      (λ α h. (h.0, h.1, h.2, h.3, left h.4)) (λ α h. (h.0, h.1, h.2, h.3, right h.4))

-- by the tree
pub listed_through : (e : Exp) (i j : ℕ) → Listed (End (Word e i j)) (firsts_through e i)
listed_through (atom k) i j = tt
listed_through (cat l r) i j =
    let L : Lang = Word l (suc i) j in
    let R : Lang = Word r (suc i + nodes l) (j + atoms l) in
    listed_enclosed i (Cat L R) (both (firsts_through l (suc i)) (firsts_through r (suc i + nodes l)))
    (listed_cat L R (closing (suc i)) (word_ends l (suc i) j) (firsts_through l (suc i)) (firsts_through r (suc i + nodes l))
    (listed_through l (suc i) j) (listed_through r (suc i + nodes l) (j + atoms l)))
listed_through (alt l r) i j =
    let L : Lang = Word l (suc i) j in
    let R : Lang = Word r (suc i + nodes l) (j + atoms l) in
    listed_enclosed i (Either L R) (either (firsts_through l (suc i)) (firsts_through r (suc i + nodes l)))
    (listed_end_either L R (sides_end (λ n. []) l r i j (j + atoms l)) (firsts_through l (suc i)) (firsts_through r (suc i + nodes l))
    (listed_through l (suc i) j) (listed_through r (suc i + nodes l) (j + atoms l)))
listed_through (star e) i j =
    let A : Lang = Word e (suc i) j in
    listed_enclosed i (Star A) (goes_round (firsts_through e (suc i)) (one_string []))
    (listed_turns A (closing (suc i)) (word_ends e (suc i) j) (firsts_through e (suc i)) (listed_through e (suc i) j))
listed_through empty i j = within [] only

module _ (tags : ℕ → List ℕ) (x : Next) where
  pub listed_into : (e : Exp) (i j : ℕ) → Listed (Go tags (Word e i j) x) (firsts_into tags e i x)
  listed_into (atom k) i j =
      let A : Lang = Only (at j k ∷ []) in
      listed_opened tags x i A (when (can_be tags k x)) (listed_when (Go tags A x) (can_be tags k x) (λ c. (j, k, [], c, only)))
  listed_into (cat l r) i j =
      let L : Lang = Word l (suc i) j in
      let R : Lang = Word r (suc i + nodes l) (j + atoms l) in
      let f = firsts_into tags l (suc i) x in
      let h = firsts_through l (suc i) in
      let g = firsts_into tags r (suc i + nodes l) x in
      listed_opened tags x i (Cat L R) (either f (both h g))
      (listed_then L R (closing (suc i)) (word_ends l (suc i) j) tags x (some_word r (suc i + nodes l) (j + atoms l)) f h g
      (listed_into l (suc i) j) (listed_through l (suc i) j) (listed_into r (suc i + nodes l) (j + atoms l)))
  listed_into (alt l r) i j =
      let L : Lang = Word l (suc i) j in
      let R : Lang = Word r (suc i + nodes l) (j + atoms l) in
      let f = firsts_into tags l (suc i) x in
      let g = firsts_into tags r (suc i + nodes l) x in
      listed_opened tags x i (Either L R) (either f g)
      (listed_go_either L R tags x (sides_go tags l r i j (j + atoms l) x) f g (listed_into l (suc i) j) (listed_into r (suc i + nodes l) (j + atoms l)))
  listed_into (star e) i j =
      let A : Lang = Word e (suc i) j in
      let f = firsts_through e (suc i) in
      let g = firsts_into tags e (suc i) x in
      listed_opened tags x i (Star A) (goes_round f g)
      (listed_star A (closing (suc i)) (word_ends e (suc i) j) tags x f g (listed_through e (suc i) j) (listed_into e (suc i) j))
  listed_into empty i j = tt

pub listed_out : (e : Exp) (i j p : ℕ) → Listed (End (After e i j p)) (firsts_out_of e i j p)
listed_out (atom k) i j p =
    let A : Lang = λ w. (p ≡ j) × Only [] w in
    listed_closed i A (when (eqb p j)) (listed_when (End A) (eqb p j) (λ c. (eqb-true p j c, only)))
listed_out (cat l r) i j p =
    let L : Lang = After l (suc i) j p in
    let R : Lang = Word r (suc i + nodes l) (j + atoms l) in
    let R' : Lang = After r (suc i + nodes l) (j + atoms l) p in
    let f = firsts_out_of l (suc i) j p in
    let h = firsts_through r (suc i + nodes l) in
    let g = firsts_out_of r (suc i + nodes l) (j + atoms l) p in
    listed_closed i (Either (Cat L R) R') (either (both f h) g)
    (listed_end_either (Cat L R) R' (λ α a b. let t = cat_left _ _ _ a in no_both l r _ _ j p t.0 _ t.1 b) (both f h) g
    (listed_cat L R (closing (suc i)) (after_ends l (suc i) j p) f h (listed_out l (suc i) j p) (listed_through r (suc i + nodes l) (j + atoms l)))
    (listed_out r (suc i + nodes l) (j + atoms l) p))
listed_out (alt l r) i j p =
    let L : Lang = After l (suc i) j p in
    let R : Lang = After r (suc i + nodes l) (j + atoms l) p in
    let f = firsts_out_of l (suc i) j p in
    let g = firsts_out_of r (suc i + nodes l) (j + atoms l) p in
    listed_closed i (Either L R) (either f g)
    (listed_end_either L R (λ α a b. no_both l r _ _ j p _ _ a b) f g (listed_out l (suc i) j p) (listed_out r (suc i + nodes l) (j + atoms l) p))
listed_out (star e) i j p =
    let A : Lang = After e (suc i) j p in
    let W : Lang = Word e (suc i) j in
    let f = firsts_out_of e (suc i) j p in
    let h = firsts_through e (suc i) in
    listed_closed i (Cat A (Star W)) (both f (goes_round h (one_string [])))
    (listed_cat A (Star W) (closing (suc i)) (after_ends e (suc i) j p) f (goes_round h (one_string [])) (listed_out e (suc i) j p)
    (listed_turns W (closing (suc i)) (word_ends e (suc i) j) h (listed_through e (suc i) j)))
listed_out empty i j p = tt

module _ (tags : ℕ → List ℕ) (x : Next) where
  pub listed_across : (e : Exp) (i j p : ℕ) → Listed (Go tags (After e i j p) x) (firsts_across tags e i j p x)
  listed_across (atom k) i j p = tt
  listed_across (cat l r) i j p =
      let L : Lang = After l (suc i) j p in
      let R : Lang = Word r (suc i + nodes l) (j + atoms l) in
      let R' : Lang = After r (suc i + nodes l) (j + atoms l) p in
      let A : Lang = Either (Cat L R) R' in
      let f = firsts_across tags l (suc i) j p x in
      let o = firsts_out_of l (suc i) j p in
      let n = firsts_into tags r (suc i + nodes l) x in
      let g = firsts_across tags r (suc i + nodes l) (j + atoms l) p x in
      listed_weak (Go tags A x) (Go tags (Upto (closing i) A) x) (go_upto tags x (closing i) A) (either (either f (both o n)) g)
      (listed_go_either (Cat L R) R' tags x (λ α a b. let t = cat_left _ _ _ a.4 in no_both l r _ _ j p t.0 _ t.1 b.4) (either f (both o n)) g
      (listed_then L R (closing (suc i)) (after_ends l (suc i) j p) tags x (some_word r (suc i + nodes l) (j + atoms l)) f o n
      (listed_across l (suc i) j p) (listed_out l (suc i) j p) (listed_into tags x r (suc i + nodes l) (j + atoms l)))
      (listed_across r (suc i + nodes l) (j + atoms l) p))
  listed_across (alt l r) i j p =
      let L : Lang = After l (suc i) j p in
      let R : Lang = After r (suc i + nodes l) (j + atoms l) p in
      let f = firsts_across tags l (suc i) j p x in
      let g = firsts_across tags r (suc i + nodes l) (j + atoms l) p x in
      listed_weak (Go tags (Either L R) x) (Go tags (Upto (closing i) (Either L R)) x) (go_upto tags x (closing i) (Either L R)) (either f g)
      (listed_go_either L R tags x (λ α a b. no_both l r _ _ j p _ _ a.4 b.4) f g (listed_across l (suc i) j p)
      (listed_across r (suc i + nodes l) (j + atoms l) p))
  listed_across (star e) i j p =
      let A : Lang = After e (suc i) j p in
      let W : Lang = Word e (suc i) j in
      let f = firsts_across tags e (suc i) j p x in
      let o = firsts_out_of e (suc i) j p in
      let h = firsts_through e (suc i) in
      let n = firsts_into tags e (suc i) x in
      listed_weak (Go tags (Cat A (Star W)) x) (Go tags (Upto (closing i) (Cat A (Star W))) x) (go_upto tags x (closing i) (Cat A (Star W)))
      (either f (both o (goes_round h n)))
      (listed_then A (Star W) (closing (suc i)) (after_ends e (suc i) j p) tags x ([], stop) f o (goes_round h n) (listed_across e (suc i) j p) (listed_out e (suc i) j p)
      (listed_star W (closing (suc i)) (word_ends e (suc i) j) tags x h n (listed_through e (suc i) j) (listed_into tags x e (suc i) j)))
  listed_across empty i j p = tt

listed_end : (e : Content) (p : ℕ) → Listed (End (Rest e p)) (firsts_to_end e p)
listed_end nothing zero = only
listed_end nothing (suc p) = tt
listed_end (tree e) zero = listed_through e 1 1
listed_end (tree e) (suc p) = listed_out e 1 1 (suc p)

listed_atom : (tags : ℕ → List ℕ) (e : Content) (p : ℕ) (x : Next) → Listed (Go tags (Rest e p) x) (firsts_to_atom tags e p x)
listed_atom tags nothing p x = tt
listed_atom tags (tree e) zero x = listed_into tags x e 1 1
listed_atom tags (tree e) (suc p) x = listed_across tags x e 1 1 (suc p)

pub listed_firsts : (tags : ℕ → List ℕ) (e : Content) (p : ℕ) (x : Next) → Listed (Paths tags (Rest e p) x) (firsts tags e p x)
listed_firsts tags e p (tag t) = listed_atom tags e p (tag t)
listed_firsts tags e p character = listed_atom tags e p character
listed_firsts tags e p end = listed_end e p
