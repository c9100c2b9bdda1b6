-- A `<` is the first byte of a tag and stands nowhere else in a token. So neither a token nor one of the two byte strings at which reading resumes reaches over a `<`.
-- Assumes nothing.
use mathlib.Core.Path.{◌≡◌, refl, sym, ap, ◌∙◌, subst}
use mathlib.Core.Logic.{◌⊎◌, ⊎_elim}
use mathlib.Core.Bool.{Bool, true, false, true≢false}
use mathlib.Core.List.{List, [], ◌∷◌, ◌++◌, head-eq_of_cons-eq, tail-eq_of_cons-eq}
use Prim.Native.Nat.{ℕ, suc, ◌+◌, ◌≤◌, ◌<◌}
use native.Mathlib.Omega.{arith}
use lib.ListN.{length}
use Rattle.text.specs.Chars.{utf8}
use Rattle.text.specs.Names.{name_first, name_byte, blank, All, Name}
use Rattle.text.specs.Numerals.{Base, decimal, hex, radix, digit_below}
use Rattle.text.proofs.Shapes.{range, shape1, shape2, shape3, shape4}
use Rattle.tokens.specs.Tokens.{Kind, start, end, empty, Ref, amp, lt, gt, apos, quot, crlf, cr, Tok, tag, ref, numeric, line, char, Good, closing_bytes, spelled, base_mark, bytes}

-- no byte is <
abbrev pub NoOpen : List ℕ → Type 0
NoOpen [] = Unit {0}
NoOpen (b ∷ l) = (b ≡ 60 → ⊥) × NoOpen l

-- none past the first
abbrev pub OpensOnce : List ℕ → Type 0
OpensOnce [] = Unit {0}
OpensOnce (b ∷ l) = NoOpen l

pub none_append : (l r : List ℕ) → NoOpen l → NoOpen r → NoOpen (l ++ r)
none_append [] r h k = k
none_append (b ∷ l) r (n, h) k = (n, none_append l r h k)

pub none_all : (p : ℕ → Bool) → p 60 ≡ false → (l : List ℕ) → All p l → NoOpen l
none_all p f [] h = tt
none_all p f (b ∷ l) (t, h) = ((λ e. true≢false (sym t ∙ ap p e ∙ f)), none_all p f l h)

pub name_none : (n : List ℕ) → Name n → NoOpen n
name_none [] h = absurd h
name_none (x ∷ n) (t, h) = ((λ e. true≢false (sym t ∙ ap name_first e)), none_all name_byte refl n h)

rest_none : (k : Kind) (n b : List ℕ) → Name n → All blank b → NoOpen (n ++ (b ++ closing_bytes k))
rest_none k n b h g = none_append n (b ++ closing_bytes k) (name_none n h) (none_append b (closing_bytes k) (none_all blank refl b g) (by k))
  where
    by : (k : Kind) → NoOpen (closing_bytes k)
    by start = ((λ e. omega (arith, e)), tt)
    by end = ((λ e. omega (arith, e)), tt)
    by empty = ((λ e. omega (arith, e)), ((λ e. omega (arith, e)), tt))

digit_none : (k : Base) → digit_below (radix k) 60 ≡ false
digit_none decimal = refl
digit_none hex = refl

spelled_once : (x : Ref) → OpensOnce (spelled x)
spelled_once amp = ((λ e. omega (arith, e)), ((λ e. omega (arith, e)), ((λ e. omega (arith, e)), ((λ e. omega (arith, e)), tt))))
spelled_once lt = ((λ e. omega (arith, e)), ((λ e. omega (arith, e)), ((λ e. omega (arith, e)), tt)))
spelled_once gt = ((λ e. omega (arith, e)), ((λ e. omega (arith, e)), ((λ e. omega (arith, e)), tt)))
spelled_once apos = ((λ e. omega (arith, e)), ((λ e. omega (arith, e)), ((λ e. omega (arith, e)), ((λ e. omega (arith, e)), ((λ e. omega (arith, e)), tt)))))
spelled_once quot = ((λ e. omega (arith, e)), ((λ e. omega (arith, e)), ((λ e. omega (arith, e)), ((λ e. omega (arith, e)), ((λ e. omega (arith, e)), tt)))))

utf8_once : (c : ℕ) → OpensOnce (utf8 c)
utf8_once c =
    ⊎_elim (λ h. subst OpensOnce (sym (shape1 c h)) tt)
    (⊎_elim (λ h. subst OpensOnce (sym (shape2 c h.0 (omega (arith, h.1)))) ((λ e. omega (arith, e)), tt))
    (⊎_elim (λ h. subst OpensOnce (sym (shape3 c h.0 (omega (arith, h.1)))) ((λ e. omega (arith, e)), ((λ e. omega (arith, e)), tt)))
    (λ h. subst OpensOnce (sym (shape4 c h)) ((λ e. omega (arith, e)), ((λ e. omega (arith, e)), ((λ e. omega (arith, e)), tt))))))
    (range c)

pub token_once : (t : Tok) → Good t → OpensOnce (bytes t)
token_once (tag start n b) (h, g) = rest_none start n b h g
token_once (tag end n b) (h, g) = ((λ e. omega (arith, e)), rest_none end n b h g)
token_once (tag empty n b) (h, g) = rest_none empty n b h g
token_once (ref x) g = spelled_once x
token_once (numeric k ds) (h, g) =
    ((λ e. omega (arith, e)), none_append (base_mark k) (ds ++ (59 ∷ [])) (by k) (none_append ds (59 ∷ []) (none_all (digit_below (radix k)) (digit_none k) ds h) ((λ e. omega (arith, e)), tt)))
  where
    by : (k : Base) → NoOpen (base_mark k)
    by decimal = tt
    by hex = ((λ e. omega (arith, e)), tt)
token_once (line crlf) g = ((λ e. omega (arith, e)), tt)
token_once (line cr) g = tt
token_once (char c) g = utf8_once c

-- what starts inside bytes that a < follows ends there: w stands at the front of l and a <, and it is no longer than l
none_over : (l r w v : List ℕ) → NoOpen w → l ++ 60 ∷ r ≡ w ++ v → length w ≤ length l
none_over [] r [] v h e = omega arith
none_over [] r (b ∷ w) v (n, h) e = absurd (n (sym (head-eq_of_cons-eq e)))
none_over (x ∷ l) r [] v h e = omega arith
none_over (x ∷ l) r (b ∷ w) v (n, h) e = let i = none_over l r w v h (tail-eq_of_cons-eq e) in omega arith

pub once_over : (x : ℕ) (l r w v : List ℕ) → OpensOnce w → x ∷ (l ++ 60 ∷ r) ≡ w ++ v → length w ≤ suc (length l)
once_over x l r [] v h e = omega arith
once_over x l r (b ∷ w) v h e = let i = none_over l r w v h (tail-eq_of_cons-eq e) in omega arith
