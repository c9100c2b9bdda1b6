-- What each way through `decode` shows of the bytes read so far: they rule every character out, or begin one that is named here, or hold a
-- whole one. The bytes by range (`Shapes`) turn each case into arithmetic with quotients and remainders by 64.
-- Assumes nothing.
use mathlib.Core.Path.{◌≡◌, refl, sym, ap, ap₂, ◌∙◌, subst}
use mathlib.Core.Logic.{◌⊎◌, inl, inr, ⊎_elim}
use mathlib.Core.List.{List, [], ◌∷◌, ◌++◌, head-eq_of_cons-eq, tail-eq_of_cons-eq}
use Prim.Native.Nat.{ℕ, ◌+◌, ◌-◌, ◌*◌, ◌/◌, ◌%◌, ◌≤◌, ◌<◌, max}
use native.Mathlib.Omega.{arith}
use native.Mathlib.Decide.{dec_lt}
use lib.ListN.{length, get_or, drop, drop_of_length-le}
use Rattle.text.specs.Chars.{Char, utf8, DecodedIs}
use Rattle.text.specs.declared.Decoded.{Decoded}
use Rattle.text.specs.declared.Decoded.TheVariants.{Whole, Begun, Bad}
use Rattle.text.proofs.Shapes.{front1, front2, front3, front4, none_left, shape1, shape2, shape3, shape4, lead, lead2, lead3, lead4, char_low, char_most, no_surrogate, no_fffe, cons≢[]}

-- where the bytes read so far rule every character out
pub bad_low : (b : ℕ) (g : List ℕ) → b < 0x20 → ((b ≡ 0x9) ⊎ ((b ≡ 0xA) ⊎ (b ≡ 0xD)) → ⊥) → DecodedIs (b ∷ g) Bad
bad_low b g h n c ok v u e =
    ⊎_elim (λ w. n (rw w.1 (char_low ok (omega arith))))
    (⊎_elim (λ w. omega arith) (⊎_elim (λ w. omega arith) (λ w. omega arith))) (lead b (g ++ v) c u e)

pub bad_lead : (b : ℕ) (g : List ℕ) → 0x80 ≤ b → (b < 0xC2) ⊎ (0xF5 ≤ b) → DecodedIs (b ∷ g) Bad
bad_lead b g h k c ok v u e =
    let m = char_most ok in
    ⊎_elim
    (λ x. ⊎_elim (λ w. omega arith) (⊎_elim (λ w. omega arith) (⊎_elim (λ w. omega arith) (λ w. omega arith))) (lead b (g ++ v) c u e))
    (λ x. ⊎_elim (λ w. omega arith) (⊎_elim (λ w. omega arith) (⊎_elim (λ w. omega arith) (λ w. omega arith))) (lead b (g ++ v) c u e)) k

-- no second, third, fourth byte of a character
abbrev pub NoTail : ℕ → Type 0
NoTail d = (d < 0x80) ⊎ (0xC0 ≤ d)

no_tail : {d : ℕ} (x : ℕ) → d ≡ 0x80 + x % 64 → NoTail d → ⊥
no_tail x e (inl h) = omega arith
no_tail x e (inr h) = omega arith

pub bad2 : (b d : ℕ) (g : List ℕ) → 0xC2 ≤ b → b < 0xE0 → NoTail d → DecodedIs (b ∷ d ∷ g) Bad
bad2 b d g h k n c ok v u e = let w = lead2 b (d ∷ (g ++ v)) c u h k e in no_tail c (head-eq_of_cons-eq w.2) n

module _ (b d : ℕ) (g : List ℕ) (h : 0xE0 ≤ b) (k : b < 0xF0) where
  pub bad3_second : NoTail d → DecodedIs (b ∷ d ∷ g) Bad
  bad3_second n c ok v u e = let w = lead3 b (d ∷ (g ++ v)) c u h k e in no_tail (c / 64) (head-eq_of_cons-eq w.2) n

  -- ten bits that no character has
  pub bad3_short : 0x80 ≤ d → (b - 0xE0) * 64 + (d - 0x80) < 32 → DecodedIs (b ∷ d ∷ g) Bad
  bad3_short l m c ok v u e =
      let w = lead3 b (d ∷ (g ++ v)) c u h k e in
      omega (arith, head-eq_of_cons-eq w.2)

  pub bad3_surrogate : 0x80 ≤ d → 864 ≤ (b - 0xE0) * 64 + (d - 0x80) → (b - 0xE0) * 64 + (d - 0x80) < 896 → DecodedIs (b ∷ d ∷ g) Bad
  bad3_surrogate l m n c ok v u e =
      let w = lead3 b (d ∷ (g ++ v)) c u h k e in
      let x = head-eq_of_cons-eq w.2 in
      no_surrogate ok (omega arith) (omega arith)

pub bad3_third : (b d x : ℕ) (g : List ℕ) → 0xE0 ≤ b → b < 0xF0 → NoTail x → DecodedIs (b ∷ d ∷ x ∷ g) Bad
bad3_third b d x g h k n c ok v u e =
    let w = lead3 b (d ∷ x ∷ (g ++ v)) c u h k e in
    no_tail c (head-eq_of_cons-eq (tail-eq_of_cons-eq w.2)) n

pub bad3_fffe : (b d x : ℕ) (g : List ℕ) → 0xE0 ≤ b → b < 0xF0 → 0x80 ≤ d → 0x80 ≤ x → x < 0xC0
    → 65534 ≤ ((b - 0xE0) * 64 + (d - 0x80)) * 64 + (x - 0x80) → DecodedIs (b ∷ d ∷ x ∷ g) Bad
bad3_fffe b d x g h k l m m' n c ok v u e =
    let w = lead3 b (d ∷ x ∷ (g ++ v)) c u h k e in
    let y = head-eq_of_cons-eq w.2 in
    let z = head-eq_of_cons-eq (tail-eq_of_cons-eq w.2) in
    no_fffe ok (omega arith) (omega arith)

pub bad4_second : (b d : ℕ) (g : List ℕ) → 0xF0 ≤ b → NoTail d → DecodedIs (b ∷ d ∷ g) Bad
bad4_second b d g h n c ok v u e = let w = lead4 b (d ∷ (g ++ v)) c u h e in no_tail (c / 4096) (head-eq_of_cons-eq w.2) n

pub bad4_range : (b d : ℕ) (g : List ℕ) → 0xF0 ≤ b → 0x80 ≤ d → ((b - 0xF0) * 64 + (d - 0x80) < 16) ⊎ (272 ≤ (b - 0xF0) * 64 + (d - 0x80)) → DecodedIs (b ∷ d ∷ g) Bad
bad4_range b d g h l m c ok v u e =
    let w = lead4 b (d ∷ (g ++ v)) c u h e in
    let x = head-eq_of_cons-eq w.2 in
    let y = char_most ok in
    ⊎_elim (λ z. omega arith) (λ z. omega arith) m

pub bad4_third : (b d x : ℕ) (g : List ℕ) → 0xF0 ≤ b → NoTail x → DecodedIs (b ∷ d ∷ x ∷ g) Bad
bad4_third b d x g h n c ok v u e =
    let w = lead4 b (d ∷ x ∷ (g ++ v)) c u h e in
    no_tail (c / 64) (head-eq_of_cons-eq (tail-eq_of_cons-eq w.2)) n

pub bad4_fourth : (b d x y : ℕ) (g : List ℕ) → 0xF0 ≤ b → NoTail y → DecodedIs (b ∷ d ∷ x ∷ y ∷ g) Bad
bad4_fourth b d x y g h n c ok v u e =
    let w = lead4 b (d ∷ x ∷ y ∷ (g ++ v)) c u h e in
    no_tail c (head-eq_of_cons-eq (tail-eq_of_cons-eq (tail-eq_of_cons-eq w.2))) n

-- where the bytes read so far begin a character: one that they begin
pub begun0 : DecodedIs [] Begun
begun0 = (0x20, inr (inr (inr (inl (omega arith)))), (0x20 ∷ [], shape1 0x20 (omega arith), cons≢[]))

pub begun2 : (b : ℕ) → 0xC2 ≤ b → b < 0xE0 → DecodedIs (b ∷ []) Begun
begun2 b h k =
    let c : ℕ = (b - 0xC0) * 64 in
    let e : 0xC0 + c / 64 ≡ b = omega arith in
    (c, inr (inr (inr (inl (omega arith)))), (_, shape2 c (omega arith) (omega arith) ∙ ap (λ (x : ℕ). x ∷ (0x80 + c % 64) ∷ []) e, cons≢[]))

pub begun3 : (b : ℕ) → 0xE0 ≤ b → b < 0xF0 → DecodedIs (b ∷ []) Begun
begun3 b h k =
    let c : ℕ = max 0x800 ((b - 0xE0) * 4096) in
    let e : 0xE0 + c / 4096 ≡ b = omega arith in
    (c, go (dec_lt c 0xD800), (_, shape3 c (omega arith) (omega arith) ∙ ap (λ (x : ℕ). x ∷ (0x80 + c / 64 % 64) ∷ (0x80 + c % 64) ∷ []) e, cons≢[]))
  where
    go : Dec (max 0x800 ((b - 0xE0) * 4096) < 0xD800) → Char (max 0x800 ((b - 0xE0) * 4096))
    go (yes p) = inr (inr (inr (inl (omega arith))))
    go (no p) = inr (inr (inr (inr (inl (omega arith)))))

pub begun3_second : (b d : ℕ) → 0xE0 ≤ b → b < 0xF0 → 0x80 ≤ d → d < 0xC0 → 32 ≤ (b - 0xE0) * 64 + (d - 0x80)
    → ((b - 0xE0) * 64 + (d - 0x80) < 864) ⊎ (896 ≤ (b - 0xE0) * 64 + (d - 0x80)) → DecodedIs (b ∷ d ∷ []) Begun
begun3_second b d h k l l' m n =
    let c : ℕ = ((b - 0xE0) * 64 + (d - 0x80)) * 64 in
    let e : 0xE0 + c / 4096 ≡ b = omega arith in
    let e' : 0x80 + c / 64 % 64 ≡ d = omega arith in
    let ok : Char c = ⊎_elim (λ p. inr (inr (inr (inl (omega arith))))) (λ p. inr (inr (inr (inr (inl (omega arith)))))) n in
    (c, ok, (_, shape3 c (omega arith) (omega arith) ∙ ap₂ (λ (x y : ℕ). x ∷ y ∷ (0x80 + c % 64) ∷ []) e e', cons≢[]))

pub begun4 : (b : ℕ) → 0xF0 ≤ b → b < 0xF5 → DecodedIs (b ∷ []) Begun
begun4 b h k =
    let c : ℕ = max 0x10000 ((b - 0xF0) * 262144) in
    let e : 0xF0 + c / 262144 ≡ b = omega arith in
    (c, inr (inr (inr (inr (inr (omega arith))))), (_, shape4 c (omega arith) ∙ ap (λ (x : ℕ). x ∷ (0x80 + c / 4096 % 64) ∷ (0x80 + c / 64 % 64) ∷ (0x80 + c % 64) ∷ []) e, cons≢[]))

pub begun4_second : (b d : ℕ) → 0xF0 ≤ b → b < 0xF5 → 0x80 ≤ d → d < 0xC0 → 16 ≤ (b - 0xF0) * 64 + (d - 0x80) → (b - 0xF0) * 64 + (d - 0x80) < 272 → DecodedIs (b ∷ d ∷ []) Begun
begun4_second b d h k l l' m n =
    let c : ℕ = ((b - 0xF0) * 64 + (d - 0x80)) * 4096 in
    let e : 0xF0 + c / 262144 ≡ b = omega arith in
    let e' : 0x80 + c / 4096 % 64 ≡ d = omega arith in
    (c, inr (inr (inr (inr (inr (omega arith))))), (_, shape4 c (omega arith) ∙ ap₂ (λ (x y : ℕ). x ∷ y ∷ (0x80 + c / 64 % 64) ∷ (0x80 + c % 64) ∷ []) e e', cons≢[]))

pub begun4_third : (b d x : ℕ) → 0xF0 ≤ b → b < 0xF5 → 0x80 ≤ d → d < 0xC0 → 16 ≤ (b - 0xF0) * 64 + (d - 0x80) → (b - 0xF0) * 64 + (d - 0x80) < 272 → 0x80 ≤ x → x < 0xC0 → DecodedIs (b ∷ d ∷ x ∷ []) Begun
begun4_third b d x h k l l' m n o p =
    let c : ℕ = (((b - 0xF0) * 64 + (d - 0x80)) * 64 + (x - 0x80)) * 64 in
    let e : 0xF0 + c / 262144 ≡ b = omega arith in
    let e' : 0x80 + c / 4096 % 64 ≡ d = omega arith in
    let e'' : 0x80 + c / 64 % 64 ≡ x = omega arith in
    (c, inr (inr (inr (inr (inr (omega arith))))), (_, shape4 c (omega arith) ∙ (λ i. e i ∷ e' i ∷ e'' i ∷ (0x80 + c % 64) ∷ []), cons≢[]))

-- where a whole character was read
whole : (c n : ℕ) (f w g : List ℕ) → Char c → utf8 c ≡ w → f ≡ w ++ g → n ≡ length w → DecodedIs f (Whole c n)
whole c n f w g ok s e l = (ok, (g, e ∙ ap (λ (x : List ℕ). x ++ g) (sym s)), l ∙ ap length (sym s))

pub whole1 : (b : ℕ) (g : List ℕ) → b < 0x80 → Char b → DecodedIs (b ∷ g) (Whole b 1)
whole1 b g h ok = whole b 1 (b ∷ g) (b ∷ []) g ok (shape1 b h) refl refl

pub whole2 : (b d : ℕ) (g : List ℕ) → 0xC2 ≤ b → b < 0xE0 → 0x80 ≤ d → d < 0xC0 → DecodedIs (b ∷ d ∷ g) (Whole ((b - 192) * 64 + (d - 128)) 2)
whole2 b d g h k l m =
    let c : ℕ = (b - 192) * 64 + (d - 128) in
    let e : 0xC0 + c / 64 ≡ b = omega arith in
    let e' : 0x80 + c % 64 ≡ d = omega arith in
    whole c 2 (b ∷ d ∷ g) (b ∷ d ∷ []) g (inr (inr (inr (inl (omega arith))))) (shape2 c (omega arith) (omega arith) ∙ (λ i. e i ∷ e' i ∷ [])) refl refl

pub whole3 : (b d x : ℕ) (g : List ℕ) → 0xE0 ≤ b → b < 0xF0 → 0x80 ≤ d → d < 0xC0 → 0x80 ≤ x → x < 0xC0 → 32 ≤ (b - 0xE0) * 64 + (d - 0x80)
    → ((b - 0xE0) * 64 + (d - 0x80) < 864) ⊎ (896 ≤ (b - 0xE0) * 64 + (d - 0x80)) → ((b - 0xE0) * 64 + (d - 0x80)) * 64 + (x - 0x80) < 65534
    → DecodedIs (b ∷ d ∷ x ∷ g) (Whole (((b - 0xE0) * 64 + (d - 0x80)) * 64 + (x - 0x80)) 3)
whole3 b d x g h k l l' m m' n o p =
    let c : ℕ = ((b - 0xE0) * 64 + (d - 0x80)) * 64 + (x - 0x80) in
    let e : 0xE0 + c / 4096 ≡ b = omega arith in
    let e' : 0x80 + c / 64 % 64 ≡ d = omega arith in
    let e'' : 0x80 + c % 64 ≡ x = omega arith in
    let ok : Char c = ⊎_elim (λ q. inr (inr (inr (inl (omega arith))))) (λ q. inr (inr (inr (inr (inl (omega arith)))))) o in
    whole c 3 (b ∷ d ∷ x ∷ g) (b ∷ d ∷ x ∷ []) g ok (shape3 c (omega arith) (omega arith) ∙ (λ i. e i ∷ e' i ∷ e'' i ∷ [])) refl refl

quotient : (q r : ℕ) → r < 64 → (q * 64 + r) / 64 ≡ q
quotient q r h = omega arith

quotient² : (q r : ℕ) → r < 64 → (q * 64 + r) / 4096 ≡ q / 64
quotient² q r h = omega arith

pub whole4 : (b d x y : ℕ) (g : List ℕ) → 0xF0 ≤ b → b < 0xF5 → 0x80 ≤ d → d < 0xC0 → 0x80 ≤ x → x < 0xC0 → 0x80 ≤ y → y < 0xC0
    → 16 ≤ (b - 0xF0) * 64 + (d - 0x80) → (b - 0xF0) * 64 + (d - 0x80) < 272
    → DecodedIs (b ∷ d ∷ x ∷ y ∷ g) (Whole ((((b - 0xF0) * 64 + (d - 0x80)) * 64 + (x - 0x80)) * 64 + (y - 0x80)) 4)
whole4 b d x y g h k l l' m m' n n' o p =
    let c : ℕ = (((b - 0xF0) * 64 + (d - 0x80)) * 64 + (x - 0x80)) * 64 + (y - 0x80) in
    let z : ℕ = (b - 0xF0) * 64 + (d - 0x80) in
    let q₃ : c / 64 ≡ z * 64 + (x - 0x80) = quotient (z * 64 + (x - 0x80)) (y - 0x80) (omega arith) in
    let q₂ : c / 4096 ≡ z = quotient² (z * 64 + (x - 0x80)) (y - 0x80) (omega arith) ∙ quotient z (x - 0x80) (omega arith) in
    let e : 0xF0 + c / 262144 ≡ b = omega arith in
    let e' : 0x80 + c / 4096 % 64 ≡ d = ap (λ (n : ℕ). 0x80 + n % 64) q₂ ∙ omega arith in
    let e'' : 0x80 + c / 64 % 64 ≡ x = ap (λ (n : ℕ). 0x80 + n % 64) q₃ ∙ omega arith in
    let e''' : 0x80 + c % 64 ≡ y = omega arith in
    whole c 4 (b ∷ d ∷ x ∷ y ∷ g) (b ∷ d ∷ x ∷ y ∷ []) g (inr (inr (inr (inr (inr (omega arith)))))) (shape4 c (omega arith) ∙ (λ i. e i ∷ e' i ∷ e'' i ∷ e''' i ∷ [])) refl refl

-- a fact of the bytes read is a fact of the bytes there are
pub on1 : (f : List ℕ) (r : Decoded) → 1 ≤ length f → DecodedIs (get_or f 0 0 ∷ drop 1 f) r → DecodedIs f r
on1 f r h d = subst (λ (l : List ℕ). DecodedIs l r) (sym (front1 f h)) d

pub on2 : (f : List ℕ) (r : Decoded) → 2 ≤ length f → DecodedIs (get_or f 0 0 ∷ get_or f 1 0 ∷ drop 2 f) r → DecodedIs f r
on2 f r h d = subst (λ (l : List ℕ). DecodedIs l r) (sym (front2 f h)) d

pub on3 : (f : List ℕ) (r : Decoded) → 3 ≤ length f → DecodedIs (get_or f 0 0 ∷ get_or f 1 0 ∷ get_or f 2 0 ∷ drop 3 f) r → DecodedIs f r
on3 f r h d = subst (λ (l : List ℕ). DecodedIs l r) (sym (front3 f h)) d

pub on4 : (f : List ℕ) (r : Decoded) → 4 ≤ length f → DecodedIs (get_or f 0 0 ∷ get_or f 1 0 ∷ get_or f 2 0 ∷ get_or f 3 0 ∷ drop 4 f) r → DecodedIs f r
on4 f r h d = subst (λ (l : List ℕ). DecodedIs l r) (sym (front4 f h)) d

pub all0 : (f : List ℕ) → length f ≡ 0 → DecodedIs f Begun
all0 f h = subst (λ (l : List ℕ). DecodedIs l Begun) (sym (none_left f h)) begun0

pub all1 : (f : List ℕ) → 1 ≤ length f → length f < 2 → DecodedIs (get_or f 0 0 ∷ []) Begun → DecodedIs f Begun
all1 f h k d = on1 f Begun h (subst (λ (l : List ℕ). DecodedIs (get_or f 0 0 ∷ l) Begun) (sym (drop_of_length-le f {i = 1} (omega arith))) d)

pub all2 : (f : List ℕ) → 2 ≤ length f → length f < 3 → DecodedIs (get_or f 0 0 ∷ get_or f 1 0 ∷ []) Begun → DecodedIs f Begun
all2 f h k d = on2 f Begun h (subst (λ (l : List ℕ). DecodedIs (get_or f 0 0 ∷ get_or f 1 0 ∷ l) Begun) (sym (drop_of_length-le f {i = 2} (omega arith))) d)

pub all3 : (f : List ℕ) → 3 ≤ length f → length f < 4 → DecodedIs (get_or f 0 0 ∷ get_or f 1 0 ∷ get_or f 2 0 ∷ []) Begun → DecodedIs f Begun
all3 f h k d = on3 f Begun h (subst (λ (l : List ℕ). DecodedIs (get_or f 0 0 ∷ get_or f 1 0 ∷ get_or f 2 0 ∷ l) Begun) (sym (drop_of_length-le f {i = 3} (omega arith))) d)

pub whole_of : (k b : ℕ) (g : List ℕ) → b ≡ k → k < 0x80 → Char k → DecodedIs (b ∷ g) (Whole k 1)
whole_of k b g e h ok = subst (λ (x : ℕ). DecodedIs (x ∷ g) (Whole k 1)) (sym e) (whole1 k g h ok)
