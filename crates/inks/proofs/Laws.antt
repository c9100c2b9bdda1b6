-- What a stroke makes of an ink, by the parts that change. Assumes nothing.
use mathlib.Core.Path.{◌≡◌, refl, sym, ◌∙◌, ap, ap₂, subst}
use mathlib.Core.Bool.{Bool, true, false, cond, ◌&&◌}
use mathlib.Core.List.{List, [], ◌∷◌, ◌++◌, append-nil}
use Prim.Native.Nat.{ℕ, suc, ◌≤◌, ◌<◌, ◌+◌, ◌/◌, ◌%◌}
use native.Mathlib.Omega.{arith}
use native.Mathlib.Numerals.{add-one}
use borrow.Author.Tests.{lt-ltb, le-ltb, ne_eqb}
use lib.Dec.{eqb}
use lib.ListN.{replicate, length-take}
use Rattle.strokes.specs.Strokes.{Inks, inks, Stroke, idle, writes, uses, written_on, operand_on, inked, operand_code, plain_stroke, word_stroke, sign_stroke, stroke_of, item_bytes}
use Rattle.strokes.proofs.Lists.{at_either_end}
use Rattle.pages.proofs.Texts.{written_twice, none_written}
use Rattle.pages.specs.Pages.{page_text, stack_of}
use Rattle.inks.specs.declared.Ink.{Ink}
use Rattle.inks.specs.Held.{inks_in, Trim, InkIs}

pub ink_as : {s s' : Inks} {r : Ink} → s ≡ s' → InkIs s r → InkIs s' r
ink_as e h = record { trim = h.trim; same = h.same ∙ e }

pub stroke_as : (i : Ink) {st st' : Stroke} {r : Ink} → st ≡ st' → InkIs (inked st (inks_in i)) r → InkIs (inked st' (inks_in i)) r
stroke_as i e h = ink_as (ap (λ z. inked z (inks_in i)) e) h

pub idle_as : (i : Ink) {st : Stroke} → idle ≡ st → Trim i → InkIs (inked st (inks_in i)) i
idle_as i e h = stroke_as i e (record { trim = h; same = refl })

-- other bytes; other marks; other places to put in
pub paged_as : (i : Ink) (m : ℕ) {xs ys : List ℕ} {r : Ink} → xs ≡ ys
    → InkIs (inks xs m i.target (stack_of i.marks) (stack_of i.ors) (stack_of i.ands)) r → InkIs (inks ys m i.target (stack_of i.marks) (stack_of i.ors) (stack_of i.ands)) r
paged_as i m e h = ink_as (ap (λ z. inks z m i.target (stack_of i.marks) (stack_of i.ors) (stack_of i.ands)) e) h

pub marked_as : (i : Ink) (m : ℕ) {xs ys ms ns : List ℕ} {r : Ink} → xs ≡ ys → ms ≡ ns
    → InkIs (inks xs m i.target ms (stack_of i.ors) (stack_of i.ands)) r → InkIs (inks ys m i.target ns (stack_of i.ors) (stack_of i.ands)) r
marked_as i m e f h = ink_as (ap₂ (λ z y. inks z m i.target y (stack_of i.ors) (stack_of i.ands)) e f) h

pub joined_as : (i : Ink) (m : ℕ) {xs ys os us ps vs : List ℕ} {r : Ink} → xs ≡ ys → os ≡ us → ps ≡ vs
    → InkIs (inks xs m i.target (stack_of i.marks) os ps) r → InkIs (inks ys m i.target (stack_of i.marks) us vs) r
joined_as i m {ys = ys} {us = us} {ps = ps} e f g h =
    ink_as (ap₂ (λ z y. inks z m i.target (stack_of i.marks) y ps) e f ∙ ap (λ z. inks ys m i.target (stack_of i.marks) us z) g) h

-- bytes one after the other
pub more_written : (xs : List ℕ) {ys zs : List ℕ} (us bs : List ℕ) → ys ≡ written_on xs us → zs ≡ written_on ys bs → zs ≡ written_on xs (us ++ bs)
more_written xs us bs e f = f ∙ (ap (λ z. written_on z bs) e ∙ written_twice xs us bs)

-- operands
module _ (b : Bool) (k : ℕ) where
  pub code_value : k ≡ 1 → 0 ≡ operand_code b k
  code_value e = sym (ap (operand_code b) e)

  pub code_had : k ≡ 3 → b ≡ true → 2 ≡ operand_code b k
  code_had e f = sym (ap₂ operand_code f e)

  pub code_first : k ≡ 3 → b ≡ false → 1 ≡ operand_code b k
  code_first e f = sym (ap₂ operand_code f e)

  pub code_attribute : (k ≡ 1 → ⊥) → (k ≡ 3 → ⊥) → 1 ≡ operand_code b k
  code_attribute e f = rw (ne_eqb k 1 e, ne_eqb k 3 f)

pub code_small : (b : Bool) (k : ℕ) → operand_code b k ≤ 2
code_small b k = at_most (eqb k 1) (eqb k 3 && b)
  where
    at_most : (x y : Bool) → cond x 0 (cond y 2 1) ≤ 2
    at_most true y = omega arith
    at_most false true = omega arith
    at_most false false = omega arith

pub operand_as : (i : Ink) (b : Bool) (k n : ℕ) {c m : ℕ} {r : Ink} → c ≡ operand_code b k → m ≡ n % 256 → k < 5 → InkIs (operand_on i.mode c m (inks_in i)) r → InkIs (inked (stroke_of b k n) (inks_in i)) r
operand_as i b k n e f h g =
    let u : uses (operand_code b k) (n % 256) ≡ stroke_of b k n = rw (lt-ltb k 5 h) in
    ink_as (ap₂ (λ x y. operand_on i.mode x y (inks_in i)) e f ∙ ap (λ z. inked z (inks_in i)) u) g

module _ (i : Ink) (c n : ℕ) {r : Ink} where
  pub operand_target : i.mode ≡ 0 → InkIs (inks (page_text i.page) 0 n (stack_of i.marks) (stack_of i.ors) (stack_of i.ands)) r → InkIs (operand_on i.mode c n (inks_in i)) r
  operand_target e h = subst (λ m. InkIs (operand_on m c n (inks_in i)) r) (sym e) h

  module _ {xs : List ℕ} (m : ℕ) (h : InkIs (inks xs m i.target (stack_of i.marks) (stack_of i.ors) (stack_of i.ands)) r) where
    pub operand_assigned : i.mode ≡ 1 → m ≡ 0 → xs ≡ written_on (page_text i.page) ((c + 1) ∷ i.target ∷ n ∷ []) → InkIs (operand_on i.mode c n (inks_in i)) r
    operand_assigned e f g =
        subst (λ z. InkIs (operand_on z c n (inks_in i)) r) (sym e)
        (ink_as (ap₂ (λ z y. inks z y i.target (stack_of i.marks) (stack_of i.ors) (stack_of i.ands)) (g ∙ ap (λ z. written_on (page_text i.page) (z ∷ i.target ∷ n ∷ [])) (add-one c)) f) h)

    pub operand_first : i.mode ≡ 2 → m ≡ 3 → xs ≡ written_on (page_text i.page) (0 ∷ c ∷ n ∷ []) → InkIs (operand_on i.mode c n (inks_in i)) r
    operand_first e f g =
        subst (λ z. InkIs (operand_on z c n (inks_in i)) r) (sym e) (ink_as (ap₂ (λ z y. inks z y i.target (stack_of i.marks) (stack_of i.ors) (stack_of i.ands)) g f) h)

    pub operand_second : (i.mode ≡ 0 → ⊥) → (i.mode ≡ 1 → ⊥) → (i.mode ≡ 2 → ⊥) → m ≡ 2 → xs ≡ written_on (page_text i.page) (c ∷ n ∷ []) → InkIs (operand_on i.mode c n (inks_in i)) r
    operand_second e f g d k =
        ink_as
        (ap₂ (λ z y. inks z y i.target (stack_of i.marks) (stack_of i.ors) (stack_of i.ands)) k d
        ∙ sym (rw (ne_eqb i.mode 0 e, ne_eqb i.mode 1 f, ne_eqb i.mode 2 g))) h

-- kinds
module _ (k : ℕ) where
  pub no_plain : (k ≡ 11 → ⊥) → (k ≡ 12 → ⊥) → (k ≡ 13 → ⊥) → idle ≡ plain_stroke k
  no_plain a b c = rw (ne_eqb k 11 a, ne_eqb k 12 b, ne_eqb k 13 c)

  pub no_word : (k ≡ 15 → ⊥) → (k ≡ 16 → ⊥) → (k ≡ 17 → ⊥) → (k ≡ 18 → ⊥) → (k ≡ 19 → ⊥) → idle ≡ word_stroke k
  no_word a b c d e = rw (ne_eqb k 15 a, ne_eqb k 16 b, ne_eqb k 17 c, ne_eqb k 18 d, ne_eqb k 19 e)

  pub no_sign : (k ≡ 20 → ⊥) → (k ≡ 21 → ⊥) → (k ≡ 22 → ⊥) → (k ≡ 24 → ⊥) → (k ≡ 25 → ⊥) → (k ≡ 26 → ⊥) → (k ≡ 32 → ⊥) → idle ≡ sign_stroke k
  no_sign a b c d e f g = rw (ne_eqb k 20 a, ne_eqb k 21 b, ne_eqb k 22 c, ne_eqb k 24 d, ne_eqb k 25 e, ne_eqb k 26 f, ne_eqb k 32 g)

  pub no_item : (place len : ℕ) → (k ≡ 6 → ⊥) → (k ≡ 7 → ⊥) → (k ≡ 8 → ⊥) → (k ≡ 9 → ⊥) → [] ≡ item_bytes k place len
  no_item place len a b c d = rw (ne_eqb k 6 a, ne_eqb k 7 b, ne_eqb k 8 c, ne_eqb k 9 d)

  module _ (b : Bool) (n : ℕ) where
    pub is_plain : 5 ≤ k → k < 15 → plain_stroke k ≡ stroke_of b k n
    is_plain h g = rw (le-ltb k 5 h, lt-ltb k 15 g)

    pub is_word : 5 ≤ k → 15 ≤ k → k < 20 → word_stroke k ≡ stroke_of b k n
    is_word h g f = rw (le-ltb k 5 h, le-ltb k 15 g, lt-ltb k 20 f)

    pub is_sign : 5 ≤ k → 15 ≤ k → 20 ≤ k → sign_stroke k ≡ stroke_of b k n
    is_sign h g f = rw (le-ltb k 5 h, le-ltb k 15 g, le-ltb k 20 f)

-- items
pub item_as : (i : Ink) (bs : List ℕ) {us xs : List ℕ} {r : Ink} → bs ≡ us → xs ≡ written_on (page_text i.page) bs
    → InkIs (inks xs i.mode i.target (stack_of i.marks) (stack_of i.ors) (stack_of i.ands)) r → InkIs (inked (writes us) (inks_in i)) r
item_as i bs e f h = stroke_as i (ap writes e) (paged_as i i.mode f h)

module _ (k place len : ℕ) {b : ℕ} (e : b ≡ place % 256) where
  pub item_start : k ≡ 6 → 5 ∷ b ∷ [] ≡ item_bytes k place len
  item_start h = ap (λ z. 5 ∷ z ∷ []) e ∙ sym (ap (λ z. item_bytes z place len) h)

  pub item_end : k ≡ 7 → 6 ∷ b ∷ [] ≡ item_bytes k place len
  item_end h = ap (λ z. 6 ∷ z ∷ []) e ∙ sym (ap (λ z. item_bytes z place len) h)

  pub item_both : k ≡ 8 → 5 ∷ b ∷ 6 ∷ b ∷ [] ≡ item_bytes k place len
  item_both h = ap (λ z. 5 ∷ z ∷ 6 ∷ z ∷ []) e ∙ sym (ap (λ z. item_bytes z place len) h)

  pub item_string : {c d : ℕ} → c ≡ place / 256 % 256 → d ≡ len % 256 → k ≡ 9 → 7 ∷ b ∷ c ∷ d ∷ [] ≡ item_bytes k place len
  item_string {d = d} f g h = ap₂ (λ z y. 7 ∷ z ∷ y ∷ d ∷ []) e f ∙ (ap (λ z. 7 ∷ (place % 256) ∷ (place / 256 % 256) ∷ z ∷ []) g ∙ sym (ap (λ z. item_bytes z place len) h))

-- nothing is written
pub nothing_written : (i : Ink) (bs : List ℕ) → [] ≡ bs → Trim i → InkIs (inked (writes bs) (inks_in i)) i
nothing_written i bs e h =
    stroke_as i (ap writes e)
    (paged_as i i.mode (none_written (page_text i.page) (omega (arith, length-take i.page.len i.page.bytes, h.short))) (record { trim = h; same = refl }))

-- the closing 0s, and that of the list
pub sealed_as : (xs : List ℕ) {ys zs : List ℕ} (n m : ℕ) → ys ≡ written_on xs (replicate n 0) → zs ≡ written_on ys (0 ∷ []) → n ≡ m → zs ≡ written_on xs (replicate (suc m) 0)
sealed_as xs n m e f g =
    more_written xs (replicate n 0) (0 ∷ []) e f
    ∙ ap (written_on xs) (at_either_end n 0 [] ∙ (ap (λ z. 0 ∷ z) (append-nil (replicate n 0)) ∙ ap (λ z. replicate (suc z) 0) g))
