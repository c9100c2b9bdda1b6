-- Writing one text after the other, the bytes of pieces one after the other, that any two outcomes of a write are equal, and a character's token
-- and bytes by the test that it passes.
-- Assumes nothing.
use mathlib.Core.Path.{◌≡◌, refl, sym, ap, ◌∙◌, subst}
use mathlib.Core.Bool.{Bool}
use mathlib.Core.List.{List, [], ◌∷◌, ◌++◌, append_assoc}
use Prim.Native.Nat.{ℕ}
use native.Mathlib.Omega.{arith}
use native.Mathlib.Decide.{ℕ_discrete}
use lib.ListN.{length-append}
use borrow.Author.Tests.{ne_eqb}
use Rattle.lent.specs.Put.{put, PutAs}
use Rattle.lent.proofs.Laws.{put_append}
use Rattle.text.specs.Chars.{utf8}
use Rattle.tokens.specs.Tokens.{Tok, ref, char, spelled, amp, lt, gt, bytes}
use Rattle.output.specs.Escape.{cr_by_number, escaped_as, escaped, Piece, written, render}

-- one text after the other is the two together
pub put_then : (w : Bool) (d : List ℕ) (at : ℕ) (xs ys d₁ d₂ : List ℕ) (r₁ r₂ : ℕ) → PutAs w d at xs d₁ r₁ → PutAs w d₁ r₁ ys d₂ r₂ → PutAs w d at (xs ++ ys) d₂ r₂
put_then w d at xs ys d₁ d₂ r₁ r₂ P Q =
    record {
      next = omega (arith, P.next, Q.next, length-append xs ys);
      left = Q.left ∙ ap (λ (l : List ℕ). put w l r₁ ys) P.left ∙ ap (λ (n : ℕ). put w (put w d at xs) n ys) P.next ∙ put_append w d at xs ys;
    }

pub same_bytes : (w : Bool) (d : List ℕ) (at : ℕ) (xs ys d' : List ℕ) (r : ℕ) → xs ≡ ys → PutAs w d at xs d' r → PutAs w d at ys d' r
same_bytes w d at xs ys d' r e h = subst (λ (l : List ℕ). PutAs w d at l d' r) e h

pub render_append : (o q : List Piece) → render (o ++ q) ≡ render o ++ render q
render_append [] q = refl
render_append (x ∷ o) q = ap (λ (l : List ℕ). written x ++ l) (render_append o q) ∙ sym (append_assoc (written x) (render o) (render q))

-- Any two outcomes of a write are equal.
pub put_one_outcome : (w : Bool) (d : List ℕ) (at : ℕ) (xs d₁ d₂ : List ℕ) (r₁ r₂ : ℕ) → PutAs w d at xs d₁ r₁ → PutAs w d at xs d₂ r₂ → (d₁ ≡ d₂) × (r₁ ≡ r₂)
put_one_outcome w d at xs d₁ d₂ r₁ r₂ P Q = (P.left ∙ sym Q.left, P.next ∙ sym Q.next)

-- a character's token, by the test that it passes
pub token_amp : (c : ℕ) → c ≡ 38 → ref amp ≡ escaped_as c
unfolding escaped_as
token_amp c h = ap escaped_as (sym h)

pub token_lt : (c : ℕ) → c ≡ 60 → ref lt ≡ escaped_as c
unfolding escaped_as
token_lt c h = ap escaped_as (sym h)

pub token_gt : (c : ℕ) → c ≡ 62 → ref gt ≡ escaped_as c
unfolding escaped_as
token_gt c h = ap escaped_as (sym h)

pub token_cr : (c : ℕ) → c ≡ 13 → cr_by_number ≡ escaped_as c
unfolding escaped_as
token_cr c h = ap escaped_as (sym h)

pub token_other : (c : ℕ) → (c ≡ 38 → ⊥) → (c ≡ 60 → ⊥) → (c ≡ 62 → ⊥) → (c ≡ 13 → ⊥) → char c ≡ escaped_as c
unfolding escaped_as
token_other c h k l m = simp (ne_eqb c 38 h, ne_eqb c 60 k, ne_eqb c 62 l, ne_eqb c 13 m)

-- what holds of each of the tokens holds of a character's
pub each_token : (P : Tok → Type 0) (c : ℕ) → (c ≡ 38 → P (ref amp)) → (c ≡ 60 → P (ref lt)) → (c ≡ 62 → P (ref gt)) → (c ≡ 13 → P cr_by_number)
    → ((c ≡ 38 → ⊥) → (c ≡ 60 → ⊥) → (c ≡ 62 → ⊥) → (c ≡ 13 → ⊥) → P (char c)) → P (escaped_as c)
each_token P c a l g r o = go (ℕ_discrete c 38) (ℕ_discrete c 60) (ℕ_discrete c 62) (ℕ_discrete c 13)
  where
    go : Dec (c ≡ 38) → Dec (c ≡ 60) → Dec (c ≡ 62) → Dec (c ≡ 13) → P (escaped_as c)
    go (yes h) j k m = subst P (token_amp c h) (a h)
    go (no h) (yes j) k m = subst P (token_lt c j) (l j)
    go (no h) (no j) (yes k) m = subst P (token_gt c k) (g k)
    go (no h) (no j) (no k) (yes m) = subst P (token_cr c m) (r m)
    go (no h) (no j) (no k) (no m) = subst P (token_other c h j k m) (o h j k m)

-- its bytes, so
pub escaped_amp : (c : ℕ) → c ≡ 38 → spelled amp ≡ escaped c
escaped_amp c h = ap bytes (token_amp c h)

pub escaped_lt : (c : ℕ) → c ≡ 60 → spelled lt ≡ escaped c
escaped_lt c h = ap bytes (token_lt c h)

pub escaped_gt : (c : ℕ) → c ≡ 62 → spelled gt ≡ escaped c
escaped_gt c h = ap bytes (token_gt c h)

pub escaped_cr : (c : ℕ) → c ≡ 13 → bytes cr_by_number ≡ escaped c
escaped_cr c h = ap bytes (token_cr c h)

pub escaped_other : (c : ℕ) → (c ≡ 38 → ⊥) → (c ≡ 60 → ⊥) → (c ≡ 62 → ⊥) → (c ≡ 13 → ⊥) → utf8 c ≡ escaped c
escaped_other c h k l m = ap bytes (token_other c h k l m)
