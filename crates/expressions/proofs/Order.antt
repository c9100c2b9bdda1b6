-- Rising lists: the order of bytes is strict, so in a rising list each entry stands before all later ones, and its members decide the list.
-- Lists that rise are put together by the number that stands after a common beginning.
-- Assumes nothing.
use mathlib.Core.Path.{◌≡◌, refl, sym, ◌∙◌, subst}
use mathlib.Core.List.Memᴰ
use mathlib.Core.List.{List, [], ◌∷◌, ◌++◌, Memᴰ}
use mathlib.Core.Logic.{inl, inr, ⊎_elim}
use Prim.Native.Nat.{ℕ, ◌<◌}
use native.Mathlib.Omega.{arith}
use Rattle.expressions.specs.Grammar.{Production}
use Rattle.expressions.specs.FaultList.{Before, Rising, IsFaultList}

abbrev pub Bytes : Type 0
Bytes = List ℕ

pub before_irrefl : (a : Bytes) → Before a a → ⊥
before_irrefl [] h = h
before_irrefl (x ∷ a) (inl h) = omega arith
before_irrefl (x ∷ a) (inr h) = before_irrefl a h.1

pub before_trans : (a b c : Bytes) → Before a b → Before b c → Before a c
before_trans [] [] c h h' = absurd h
before_trans [] (y ∷ b) [] h h' = absurd h'
before_trans [] (y ∷ b) (z ∷ c) h h' = tt
before_trans (x ∷ a) [] c h h' = absurd h
before_trans (x ∷ a) (y ∷ b) [] h h' = absurd h'
before_trans (x ∷ a) (y ∷ b) (z ∷ c) (inl h) (inl h') = inl (omega arith)
before_trans (x ∷ a) (y ∷ b) (z ∷ c) (inl h) (inr h') = let e : y ≡ z = h'.0 in inl (omega arith)
before_trans (x ∷ a) (y ∷ b) (z ∷ c) (inr h) (inl h') = let e : x ≡ y = h.0 in inl (omega arith)
before_trans (x ∷ a) (y ∷ b) (z ∷ c) (inr h) (inr h') = inr (h.0 ∙ h'.0, before_trans a b c h.1 h'.1)

-- each entry stands before all later ones
abbrev pub Ascends : List Bytes → Type 0
Ascends [] = Unit {0}
Ascends (b ∷ l) = ((c : Bytes) → Memᴰ c l → Before b c) × Ascends l

pub ascends_rising : (l : List Bytes) → Ascends l → Rising l
ascends_rising [] h = tt
ascends_rising (b ∷ []) h = tt
ascends_rising (b ∷ c ∷ l) h = (h.0 c (Memᴰ.head refl), ascends_rising (c ∷ l) h.1)

pub rising_ascends : (l : List Bytes) → Rising l → Ascends l
rising_ascends [] h = tt
rising_ascends (b ∷ []) h = ((λ c m. absurd (Memᴰ.not-nil m)), tt)
rising_ascends (b ∷ c ∷ l) h =
    let i = rising_ascends (c ∷ l) h.1 in
    ((λ d m. ⊎_elim (λ e. subst (Before b) (sym e) h.0) (λ m'. before_trans b c d h.0 (i.0 d m')) (Memᴰ.cases_cons m)), i)

-- two such lists with the same members are one
abbrev Inside : List Bytes → List Bytes → Type 0
Inside l l' = (b : Bytes) → Memᴰ b l → Memᴰ b l'

heads_same : (b c : Bytes) (l l' : List Bytes) → Ascends (b ∷ l) → Ascends (c ∷ l') → Memᴰ b (c ∷ l') → Memᴰ c (b ∷ l) → b ≡ c
heads_same b c l l' h h' m m' =
    ⊎_elim (λ e. e)
    (λ n. ⊎_elim (λ e. sym e) (λ n'. absurd (before_irrefl b (before_trans b c b (h.0 c n') (h'.0 b n)))) (Memᴰ.cases_cons m'))
    (Memᴰ.cases_cons m)

tail_inside : (b c : Bytes) (l l' : List Bytes) → Ascends (b ∷ l) → b ≡ c → Inside (b ∷ l) (c ∷ l') → Inside l l'
tail_inside b c l l' h e f x m =
    ⊎_elim (λ q. absurd (before_irrefl b (subst (Before b) (q ∙ sym e) (h.0 x m)))) (λ n. n) (Memᴰ.cases_cons (f x (Memᴰ.tail m)))

same_members : (l l' : List Bytes) → Ascends l → Ascends l' → Inside l l' → Inside l' l → l ≡ l'
same_members [] [] h h' f f' = refl
same_members [] (c ∷ l') h h' f f' = absurd (Memᴰ.not-nil (f' c (Memᴰ.head refl)))
same_members (b ∷ l) [] h h' f f' = absurd (Memᴰ.not-nil (f b (Memᴰ.head refl)))
same_members (b ∷ l) (c ∷ l') h h' f f' =
    let e : b ≡ c = heads_same b c l l' h h' (f b (Memᴰ.head refl)) (f' c (Memᴰ.head refl)) in
    let i : l ≡ l' = same_members l l' h.1 h'.1 (tail_inside b c l l' h e f) (tail_inside c b l' l h' (sym e) f') in
    cc

-- a grammar has one fault list
pub one_list : {g : List Production} {l l' : List Bytes} → IsFaultList g l → IsFaultList g l' → l ≡ l'
one_list {g} {l} {l'} h h' =
    same_members l l' (rising_ascends l h.rises) (rising_ascends l' h'.rises)
    (λ b m. (h'.holds b).0 ((h.holds b).1 m)) (λ b m. (h.holds b).0 ((h'.holds b).1 m))

-- b is the common beginning u, the number k, and some more
abbrev pub Starts : Bytes → ℕ → Bytes → Type 0
Starts u k b = (v : Bytes) × (b ≡ u ++ k ∷ v)

pub starts_before : (u : Bytes) (k k' : ℕ) → k < k' → (b b' : Bytes) → Starts u k b → Starts u k' b' → Before b b'
starts_before u k k' h b b' s s' = subst (Before b) (sym s'.1) (subst (λ (z : Bytes). Before z (u ++ k' ∷ s'.0)) (sym s.1) (past u))
  where
    past : (u : Bytes) → Before (u ++ k ∷ s.0) (u ++ k' ∷ s'.0)
    past [] = inl h
    past (x ∷ u) = inr (refl, past u)

pub ascends_append : (l l' : List Bytes) → Ascends l → Ascends l' → ((b b' : Bytes) → Memᴰ b l → Memᴰ b' l' → Before b b') → Ascends (l ++ l')
ascends_append [] l' h h' f = h'
ascends_append (b ∷ l) l' h h' f = (
  (λ c m. ⊎_elim (λ n. h.0 c n) (λ n. f b c (Memᴰ.head refl) n) (Memᴰ.append_cases l m)),
  ascends_append l l' h.1 h' (λ x y m n. f x y (Memᴰ.tail m) n),
)
