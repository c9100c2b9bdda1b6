-- Two words of one expression are the same, or the same up to a sign of it and part there; so are what two words have after one atom. By the tree: the words
-- of a part end with a bracket of their own, so one is never the beginning of the other. Then the strings in them.
-- Assumes nothing.
use mathlib.Core.Path.{◌≡◌, refl, sym, ◌∙◌, ap, subst}
use mathlib.Core.List.{List, [], ◌∷◌, ◌++◌, append_assoc}
use mathlib.Core.Logic.{◌⊎◌, inl, inr, ⊎_elim}
use Prim.Native.Nat.{ℕ, zero, suc, ◌+◌}
use native.Mathlib.Omega.{arith}
use Rattle.expressions.specs.Expr.{Atom, Exp, atom, cat, alt, star, empty, nodes, atoms, Content, nothing, tree}
use Rattle.expressions.specs.Words.{Bracket, opening, closing, Sym, br, at, ◌▷◌, Lang, Only, only, Cat, both, Either, left, right, Star, stop, more, Within, within, Word}
use Rattle.expressions.specs.Grammar.{Next, tag, character, end}
use Rattle.expressions.proofs.Strings.{Str, Text}
use Rattle.expressions.proofs.Counted.{Upto, upto, End, Go, only_inv}
use Rattle.expressions.proofs.Tree.{After, word_starts, no_both}
use Rattle.expressions.proofs.Rule.{Rest, Paths, to_path}
use Rattle.parting.specs.Parting.{Node, itself, cat_left, cat_right, alt_left, alt_right, star_part, PartingSign, round_or_end, end_or_round, left_or_right, right_or_left, PartingSignOf, PartAt}
use Rattle.parting.specs.Laws.{PartAtOneSign}

-- what two texts have in common, and the brackets at which they part
abbrev Signs : Type 1
Signs = ℕ → Bracket → Bracket → Type 0

pub record Parted (C : Signs) (w w' : Text) : Type 0 where
  pub number : ℕ
  pub before : Text
  pub next : Bracket
  pub next' : Bracket
  pub rest : Text
  pub rest' : Text
  pub is : w ≡ before ++ br next ∷ rest
  pub is' : w' ≡ before ++ br next' ∷ rest'
  pub sign : C number next next'

abbrev Compared : Signs → Text → Text → Type 0
Compared C w w' = (w ≡ w') ⊎ Parted C w w'

parted_more : (C : Signs) (u u' v v' : Text) → Parted C u u' → Parted C (u ++ v) (u' ++ v')
parted_more C u u' v v' h =
    record {
      number = h.number;
      before = h.before;
      next = h.next;
      next' = h.next';
      rest = h.rest ++ v;
      rest' = h.rest' ++ v';
      is = ap (λ (z : Text). z ++ v) h.is ∙ append_assoc h.before (br h.next ∷ h.rest) v;
      is' = ap (λ (z : Text). z ++ v') h.is' ∙ append_assoc h.before (br h.next' ∷ h.rest') v';
      sign = h.sign;
    }

parted_behind : (C : Signs) (u v v' : Text) → Parted C v v' → Parted C (u ++ v) (u ++ v')
parted_behind C u v v' h =
    record {
      number = h.number;
      before = u ++ h.before;
      next = h.next;
      next' = h.next';
      rest = h.rest;
      rest' = h.rest';
      is = ap (λ (z : Text). u ++ z) h.is ∙ sym (append_assoc u h.before (br h.next ∷ h.rest));
      is' = ap (λ (z : Text). u ++ z) h.is' ∙ sym (append_assoc u h.before (br h.next' ∷ h.rest'));
      sign = h.sign;
    }

parted_weak : (C D : Signs) → ((n : ℕ) (c d : Bracket) → C n c d → D n c d) → (w w' : Text) → Parted C w w' → Parted D w w'
parted_weak C D f w w' h =
    record {
      number = h.number;
      before = h.before;
      next = h.next;
      next' = h.next';
      rest = h.rest;
      rest' = h.rest';
      is = h.is;
      is' = h.is';
      sign = f _ _ _ h.sign;
    }

compared_weak : (C D : Signs) → ((n : ℕ) (c d : Bracket) → C n c d → D n c d) → (w w' : Text) → Compared C w w' → Compared D w w'
compared_weak C D f w w' (inl e) = inl e
compared_weak C D f w w' (inr h) = inr (parted_weak C D f w w' h)

-- one text behind the other, with what follows them
module _ (C : Signs) (u u' v v' : Text) where
  compared_both : Compared C u u' → Compared C v v' → Compared C (u ++ v) (u' ++ v')
  compared_both (inl e) (inl f) = inl (ap (λ (z : Text). z ++ v) e ∙ ap (λ (z : Text). u' ++ z) f)
  compared_both (inl e) (inr h) = inr (subst (λ (z : Text). Parted C (z ++ v) (u' ++ v')) (sym e) (parted_behind C u' v v' h))
  compared_both (inr h) k = inr (parted_more C u u' v v' h)

-- around both
module _ (C : Signs) (i : ℕ) (m m' : Text) where
  compared_upto : Compared C m m' → Compared C (m ++ br (closing i) ∷ []) (m' ++ br (closing i) ∷ [])
  compared_upto h = compared_both C m m' (br (closing i) ∷ []) (br (closing i) ∷ []) h (inl refl)

  opened_both : Compared C (m ++ br (closing i) ∷ []) (m' ++ br (closing i) ∷ []) →
      Compared C (br (opening i) ∷ (m ++ br (closing i) ∷ [])) (br (opening i) ∷ (m' ++ br (closing i) ∷ []))
  opened_both h = compared_both C (br (opening i) ∷ []) (br (opening i) ∷ []) _ _ (inl refl) h

-- a repetition and its closing bracket: it goes round, or it ends
module _ (C : Signs) (i : ℕ) (A : Lang) (same : (w w' : Text) → A w → A w' → Compared C w w')
    (starts : (w : Text) → A w → (m : Text) × (w ≡ br (opening (suc i)) ∷ m))
    (goes_round' : C i (opening (suc i)) (closing i)) (ends : C i (closing i) (opening (suc i))) where
  abbrev closer : Text
  closer = br (closing i) ∷ []

  first_of : (u v : Text) → A u → (m : Text) × ((u ++ v) ++ closer ≡ br (opening (suc i)) ∷ m)
  first_of u v a =
      let s = starts u a in
      ((s.0 ++ v) ++ closer, ap (λ (z : Text). (z ++ v) ++ closer) s.1)

  compared_star : (w w' : Text) → Star A w → Star A w' → Compared C (w ++ closer) (w' ++ closer)
  compared_star w w' stop stop = inl refl
  compared_star w w' stop (more u v a r) =
      let s = first_of u v a in
      inr (record { number = i; before = []; next = closing i; next' = opening (suc i); rest = []; rest' = s.0; is = refl; is' = s.1; sign = ends })
  compared_star w w' (more u v a r) stop =
      let s = first_of u v a in
      inr (record { number = i; before = []; next = opening (suc i); next' = closing i; rest = s.0; rest' = []; is = s.1; is' = refl; sign = goes_round' })
  compared_star w w' (more u v a r) (more u' v' a' r') =
      subst (λ (z : Text). Compared C z ((u' ++ v') ++ closer)) (sym (append_assoc u v closer))
      (subst (λ (z : Text). Compared C (u ++ (v ++ closer)) z) (sym (append_assoc u' v' closer))
      (compared_both C u u' (v ++ closer) (v' ++ closer) (same u u' a a') (compared_star v v' r r')))

-- the signs of a part are signs of the whole
module _ {e f : Exp} {i i' : ℕ} (up : (n : ℕ) (h : Exp) → Node e i n h → Node f i' n h) where
  raised : (n : ℕ) (c d : Bracket) → PartingSign e i n c d → PartingSign f i' n c d
  raised n c d (round_or_end {f = g} h) = round_or_end {f = g} (up n (star g) h)
  raised n c d (end_or_round {f = g} h) = end_or_round {f = g} (up n (star g) h)
  raised n c d (left_or_right {l = l} {r = r} h) = left_or_right {l = l} {r = r} (up n (alt l r) h)
  raised n c d (right_or_left {l = l} {r = r} h) = right_or_left {l = l} {r = r} (up n (alt l r) h)

module _ (l r : Exp) (i : ℕ) where
  in_cat_left : (n : ℕ) (c d : Bracket) → PartingSign l (suc i) n c d → PartingSign (cat l r) i n c d
  in_cat_left = raised (λ n h k. cat_left k)

  in_cat_right : (n : ℕ) (c d : Bracket) → PartingSign r (suc i + nodes l) n c d → PartingSign (cat l r) i n c d
  in_cat_right = raised (λ n h k. cat_right k)

  in_alt_left : (n : ℕ) (c d : Bracket) → PartingSign l (suc i) n c d → PartingSign (alt l r) i n c d
  in_alt_left = raised (λ n h k. alt_left k)

  in_alt_right : (n : ℕ) (c d : Bracket) → PartingSign r (suc i + nodes l) n c d → PartingSign (alt l r) i n c d
  in_alt_right = raised (λ n h k. alt_right k)

in_star : (e : Exp) (i n : ℕ) (c d : Bracket) → PartingSign e (suc i) n c d → PartingSign (star e) i n c d
in_star e i = raised (λ n h k. star_part k)

-- words
module _ (l r : Exp) (i j : ℕ) where
  union_parts : (m m' : Text) → Word l (suc i) j m → Word r (suc i + nodes l) (j + atoms l) m' → Parted (PartingSign (alt l r) i) m m'
  union_parts m m' a b =
      let s = word_starts l (suc i) j m a in
      let t = word_starts r (suc i + nodes l) (j + atoms l) m' b in
      record {
        number = i;
        before = [];
        next = opening (suc i);
        next' = opening (suc i + nodes l);
        rest = s.0;
        rest' = t.0;
        is = s.1;
        is' = t.1;
        sign = left_or_right {l = l} {r = r} itself;
      }

  union_parts' : (m m' : Text) → Word r (suc i + nodes l) (j + atoms l) m → Word l (suc i) j m' → Parted (PartingSign (alt l r) i) m m'
  union_parts' m m' b a =
      let s = word_starts l (suc i) j m' a in
      let t = word_starts r (suc i + nodes l) (j + atoms l) m b in
      record {
        number = i;
        before = [];
        next = opening (suc i + nodes l);
        next' = opening (suc i);
        rest = t.0;
        rest' = s.0;
        is = t.1;
        is' = s.1;
        sign = right_or_left {l = l} {r = r} itself;
      }

compared_turns : (e : Exp) (i j : ℕ) → ((w w' : Text) → Word e (suc i) j w → Word e (suc i) j w' → Compared (PartingSign e (suc i)) w w') →
    (m m' : Text) → Star (Word e (suc i) j) m → Star (Word e (suc i) j) m' →
    Compared (PartingSign (star e) i) (m ++ br (closing i) ∷ []) (m' ++ br (closing i) ∷ [])
compared_turns e i j same m m' a b =
    compared_star (PartingSign (star e) i) i (Word e (suc i) j)
    (λ w w' a b. compared_weak (PartingSign e (suc i)) (PartingSign (star e) i) (in_star e i) w w' (same w w' a b))
    (λ w a. word_starts e (suc i) j w a)
    (round_or_end {f = e} itself) (end_or_round {f = e} itself) m m' a b

pub compared_word : (e : Exp) (i j : ℕ) (w w' : Text) → Word e i j w → Word e i j w' → Compared (PartingSign e i) w w'
compared_word (atom k) i j w w' (within m only) (within m' only) = inl refl
compared_word (cat l r) i j w w' (within m (both u v a b)) (within m' (both u' v' a' b')) =
    let C : Signs = PartingSign (cat l r) i in
    opened_both C i (u ++ v) (u' ++ v') (compared_upto C i (u ++ v) (u' ++ v')
    (compared_both C u u' v v'
    (compared_weak (PartingSign l (suc i)) C (in_cat_left l r i) u u' (compared_word l (suc i) j u u' a a'))
    (compared_weak (PartingSign r (suc i + nodes l)) C (in_cat_right l r i) v v' (compared_word r (suc i + nodes l) (j + atoms l) v v' b b'))))
compared_word (alt l r) i j w w' (within m (left a)) (within m' (left a')) =
    let C : Signs = PartingSign (alt l r) i in
    opened_both C i m m' (compared_upto C i m m'
    (compared_weak (PartingSign l (suc i)) C (in_alt_left l r i) m m' (compared_word l (suc i) j m m' a a')))
compared_word (alt l r) i j w w' (within m (left a)) (within m' (right b)) =
    opened_both (PartingSign (alt l r) i) i m m' (compared_upto (PartingSign (alt l r) i) i m m' (inr (union_parts l r i j m m' a b)))
compared_word (alt l r) i j w w' (within m (right b)) (within m' (left a)) =
    opened_both (PartingSign (alt l r) i) i m m' (compared_upto (PartingSign (alt l r) i) i m m' (inr (union_parts' l r i j m m' b a)))
compared_word (alt l r) i j w w' (within m (right b)) (within m' (right b')) =
    let C : Signs = PartingSign (alt l r) i in
    opened_both C i m m' (compared_upto C i m m'
    (compared_weak (PartingSign r (suc i + nodes l)) C (in_alt_right l r i) m m' (compared_word r (suc i + nodes l) (j + atoms l) m m' b b')))
compared_word (star e) i j w w' (within m a) (within m' b) =
    opened_both (PartingSign (star e) i) i m m' (compared_turns e i j (λ w w' a b. compared_word e (suc i) j w w' a b) m m' a b)
compared_word empty i j w w' (within m only) (within m' only) = inl refl

-- what words have after one atom
pub compared_after : (e : Exp) (i j p : ℕ) (w w' : Text) → After e i j p w → After e i j p w' → Compared (PartingSign e i) w w'
compared_after (atom k) i j p w w' (upto m (q, only)) (upto m' (q', only)) = inl refl
compared_after (cat l r) i j p w w' (upto m (left (both u v a b))) (upto m' (left (both u' v' a' b'))) =
    let C : Signs = PartingSign (cat l r) i in
    compared_upto C i (u ++ v) (u' ++ v')
    (compared_both C u u' v v'
    (compared_weak (PartingSign l (suc i)) C (in_cat_left l r i) u u' (compared_after l (suc i) j p u u' a a'))
    (compared_weak (PartingSign r (suc i + nodes l)) C (in_cat_right l r i) v v' (compared_word r (suc i + nodes l) (j + atoms l) v v' b b')))
compared_after (cat l r) i j p w w' (upto m (left (both u v a b))) (upto m' (right a')) = absurd (no_both l r _ _ j p u m' a a')
compared_after (cat l r) i j p w w' (upto m (right a)) (upto m' (left (both u v a' b))) = absurd (no_both l r _ _ j p u m a' a)
compared_after (cat l r) i j p w w' (upto m (right a)) (upto m' (right a')) =
    let C : Signs = PartingSign (cat l r) i in
    compared_upto C i m m'
    (compared_weak (PartingSign r (suc i + nodes l)) C (in_cat_right l r i) m m' (compared_after r (suc i + nodes l) (j + atoms l) p m m' a a'))
compared_after (alt l r) i j p w w' (upto m (left a)) (upto m' (left a')) =
    let C : Signs = PartingSign (alt l r) i in
    compared_upto C i m m' (compared_weak (PartingSign l (suc i)) C (in_alt_left l r i) m m' (compared_after l (suc i) j p m m' a a'))
compared_after (alt l r) i j p w w' (upto m (left a)) (upto m' (right a')) = absurd (no_both l r _ _ j p m m' a a')
compared_after (alt l r) i j p w w' (upto m (right a)) (upto m' (left a')) = absurd (no_both l r _ _ j p m' m a' a)
compared_after (alt l r) i j p w w' (upto m (right a)) (upto m' (right a')) =
    let C : Signs = PartingSign (alt l r) i in
    compared_upto C i m m'
    (compared_weak (PartingSign r (suc i + nodes l)) C (in_alt_right l r i) m m' (compared_after r (suc i + nodes l) (j + atoms l) p m m' a a'))
compared_after (star e) i j p w w' (upto m (both u v a b)) (upto m' (both u' v' a' b')) =
    let C : Signs = PartingSign (star e) i in
    let c : Text = br (closing i) ∷ [] in
    subst (λ (z : Text). Compared C z ((u' ++ v') ++ c)) (sym (append_assoc u v c))
    (subst (λ (z : Text). Compared C (u ++ (v ++ c)) z) (sym (append_assoc u' v' c))
    (compared_both C u u' (v ++ c) (v' ++ c)
    (compared_weak (PartingSign e (suc i)) C (in_star e i) u u' (compared_after e (suc i) j p u u' a a'))
    (compared_turns e i j (λ w w' a b. compared_word e (suc i) j w w' a b) v v' b b')))
compared_after empty i j p w w' (upto m h) k = absurd h

compared_rest : (e : Content) (p : ℕ) (w w' : Text) → Rest e p w → Rest e p w' → Compared (PartingSignOf e) w w'
compared_rest nothing zero w w' only only = inl refl
compared_rest nothing (suc p) w w' a b = absurd a
compared_rest (tree e) zero w w' a b = compared_word e 1 1 w w' a b
compared_rest (tree e) (suc p) w w' a b = compared_after e 1 1 (suc p) w w' a b

-- what follows a bracket string starts with no bracket
abbrev NoBracket : Text → Type 0
NoBracket t = (c : Bracket) (s : Text) → t ≡ br c ∷ s → ⊥

end_no_bracket : NoBracket []
end_no_bracket c s e = let z : ◌≡◌ {A = ℕ} 0 1 = cc in omega arith

atom_no_bracket : (j : ℕ) (k : Atom) (s : Text) → NoBracket (at j k ∷ s)
atom_no_bracket j k s c s' e = let z : ◌≡◌ {A = ℕ} 0 1 = cc in omega arith

module _ (e : Content) (t t' : Text) (stops : NoBracket t) (stops' : NoBracket t') where
  -- the strings in two texts that are the same are the same
  same_strings : (α β : Str) → α ▷ t ≡ β ▷ t' → α ≡ β
  same_strings [] [] q = refl
  same_strings [] (d ∷ β) q = absurd (stops d (β ▷ t') q)
  same_strings (c ∷ α) [] q = absurd (stops' c (α ▷ t) (sym q))
  same_strings (c ∷ α) (d ∷ β) q =
      let r : α ▷ t ≡ β ▷ t' = cc in
      let h : c ≡ d = cc in
      let i : α ≡ β = same_strings α β r in
      cc

  parted_strings : (n : ℕ) (γ : Text) (c d : Bracket) (s s' : Text) → PartingSignOf e n c d → (α β : Str) → α ▷ t ≡ γ ++ br c ∷ s → β ▷ t' ≡ γ ++ br d ∷ s' →
      (α ≡ β) ⊎ PartAt e n α β
  parted_strings n [] c d s s' h [] β q q' = absurd (stops c s q)
  parted_strings n [] c d s s' h (a ∷ α) [] q q' = absurd (stops' d s' q')
  parted_strings n [] c d s s' h (a ∷ α) (b ∷ β) q q' =
      let f : a ≡ c = cc in
      let f' : b ≡ d = cc in
      inr (record {
        shared = [];
        first_next = c;
        second_next = d;
        first_rest = α;
        second_rest = β;
        first_is = ap (λ (z : Bracket). z ∷ α) f;
        second_is = ap (λ (z : Bracket). z ∷ β) f';
        sign = h;
      })
  parted_strings n (g ∷ γ) c d s s' h [] [] q q' = inl refl
  parted_strings n (g ∷ γ) c d s s' h [] (b ∷ β) q q' =
      let f : g ≡ br b = cc in
      absurd (stops b (γ ++ br c ∷ s) (q ∙ ap (λ (z : Sym). z ∷ (γ ++ br c ∷ s)) f))
  parted_strings n (g ∷ γ) c d s s' h (a ∷ α) [] q q' =
      let f : g ≡ br a = cc in
      absurd (stops' a (γ ++ br d ∷ s') (q' ∙ ap (λ (z : Sym). z ∷ (γ ++ br d ∷ s')) f))
  parted_strings n (g ∷ γ) c d s s' h (a ∷ α) (b ∷ β) q q' =
      let r : α ▷ t ≡ γ ++ br c ∷ s = cc in
      let r' : β ▷ t' ≡ γ ++ br d ∷ s' = cc in
      let f : a ≡ b = cc in
      ⊎_elim (λ (i : α ≡ β). inl (cc (f, i)))
      (λ (i : PartAt e n α β). inr (record {
        shared = a ∷ i.shared;
        first_next = i.first_next;
        second_next = i.second_next;
        first_rest = i.first_rest;
        second_rest = i.second_rest;
        first_is = ap (λ (z : Str). a ∷ z) i.first_is;
        second_is = ap (λ (z : Str). b ∷ z) i.second_is ∙ ap (λ (z : Bracket). z ∷ (i.shared ++ i.second_next ∷ i.second_rest)) (sym f);
        sign = i.sign;
      }))
      (parted_strings n γ c d s s' h α β r r')

  strings_part : (α β : Str) → Compared (PartingSignOf e) (α ▷ t) (β ▷ t') → (α ≡ β → ⊥) → (n : ℕ) × PartAt e n α β
  strings_part α β (inl q) differ = absurd (differ (same_strings α β q))
  strings_part α β (inr h) differ =
      ⊎_elim (λ (q : α ≡ β). absurd (differ q)) (λ (i : PartAt e h.number α β). (h.number, i))
      (parted_strings h.number h.before h.next h.next' h.rest h.rest' h.sign α β h.is h.is')

-- a string from a place to a next symbol, with what it goes on to
pub record Onward (e : Content) (p : ℕ) (α : Str) : Type 0 where
  pub behind : Text
  pub stops : NoBracket behind
  pub is_rest : Rest e p (α ▷ behind)

onward : (tags : ℕ → List ℕ) (e : Content) (p : ℕ) (x : Next) (α : Str) → Paths tags (Rest e p) x α → Onward e p α
onward tags e p (tag t) α h = record { behind = at h.0 h.1 ∷ h.2; stops = atom_no_bracket h.0 h.1 h.2; is_rest = h.4 }
onward tags e p character α h = record { behind = at h.0 h.1 ∷ h.2; stops = atom_no_bracket h.0 h.1 h.2; is_rest = h.4 }
onward tags e p Next.end α h = record { behind = []; stops = end_no_bracket; is_rest = h }

pub part_at_one_sign : PartAtOneSign
part_at_one_sign tags e p u u' h h' x x' α β a b differ =
    let v = onward tags e p x α (to_path tags e p u h x α a) in
    let v' = onward tags e p x' β (to_path tags e p u' h' x' β b) in
    strings_part e v.behind v'.behind v.stops v'.stops α β (compared_rest e p _ _ v.is_rest v'.is_rest) differ
