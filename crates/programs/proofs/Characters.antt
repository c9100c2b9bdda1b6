-- Whole characters, one by one from the front: what is left is whole characters exactly when all was.
-- Assumes nothing.
use mathlib.Core.Path.{◌≡◌, refl, sym, ap, ◌∙◌, subst}
use mathlib.Core.Bool.{Bool}
use mathlib.Core.List.{List, [], ◌∷◌, ◌++◌, append_assoc, append-nil, append_cancel_left}
use Prim.Native.Nat.{ℕ, ◌+◌, ◌-◌, ◌≤◌, ◌<◌}
use native.Mathlib.Omega.{arith}
use lib.ListN.{length, take, drop, length-append, length-drop}
use lib.Seq.{take_all, drop-drop, drop-append_seam}
use Rattle.text.specs.Chars.{Char, utf8, DecodedIs}
use Rattle.text.specs.declared.Decoded.{Decoded}
use Rattle.text.specs.declared.Decoded.TheVariants.{Whole, Begun, Bad}
use Rattle.text.proofs.Unique.{char_one}
use Rattle.programs.specs.Limits.{Printable}
use Rattle.text.specs.Characters.{AllChar, utf8s, WholeCharacters}
use Rattle.tells.specs.Tells.{Tells, holds, fails}

-- a part to the end
pub tail : (f : List ℕ) (i : ℕ) → take (length f - i) (drop i f) ≡ drop i f
tail f i = take_all (length f - i) (drop i f) (omega (arith, length-drop i f))

-- a character has bytes: an empty one would start as every other does
utf8_some : (c : ℕ) → 1 ≤ length (utf8 c)
utf8_some c = go (utf8 c) refl
  where
    go : (l : List ℕ) → utf8 c ≡ l → 1 ≤ length l
    go (x ∷ l) e = omega arith
    go [] e =
        let every : (d : ℕ) → c ≡ d = λ d. char_one c d (utf8 d) [] (ap (λ (l : List ℕ). l ++ utf8 d) e ∙ sym (append-nil (utf8 d))) in
        absurd (omega (arith, every 0, every 1))

same_char : (c d : ℕ) (u v : List ℕ) → utf8 c ++ u ≡ utf8 d ++ v → u ≡ v
same_char c d u v e = append_cancel_left (utf8 c) u v (e ∙ ap (λ (x : ℕ). utf8 x ++ v) (sym (char_one c d u v e)))

pub whole_nothing : (f : List ℕ) → length f ≡ 0 → WholeCharacters f
whole_nothing [] e = record { characters = []; are_chars = tt; spelled = refl }
whole_nothing (x ∷ f) e = absurd (omega arith)

module _ (g : List ℕ) where
  some_first : (cs : List ℕ) → AllChar cs → g ≡ utf8s cs → 0 < length g → (d : ℕ) × (ds : List ℕ) × Char d × AllChar ds × (g ≡ utf8 d ++ utf8s ds)
  some_first [] a e h = absurd (omega (arith, ap length e))
  some_first (d ∷ ds) a e h = (d, ds, a.0, a.1, e)

  pub past_character : (c n : ℕ) → DecodedIs g (Whole c n) → (1 ≤ n) × (n ≤ length g) × (WholeCharacters (drop n g) → WholeCharacters g) × (WholeCharacters g → WholeCharacters (drop n g))
  past_character c n (ok, st, q) = (low, high, forth, back)
    where
      low : 1 ≤ n
      low = omega (arith, utf8_some c)

      high : n ≤ length g
      high = omega (arith, ap length st.1, length-append (utf8 c) st.0)

      rest : drop n g ≡ st.0
      rest = ap (λ (m : ℕ). drop m g) q ∙ ap (λ (l : List ℕ). drop (length (utf8 c)) l) st.1 ∙ drop-append_seam (utf8 c) st.0

      forth : WholeCharacters (drop n g) → WholeCharacters g
      forth w = record { characters = c ∷ w.characters; are_chars = (ok, w.are_chars); spelled = st.1 ∙ ap (λ (l : List ℕ). utf8 c ++ l) (sym rest ∙ w.spelled) }

      back : WholeCharacters g → WholeCharacters (drop n g)
      back w =
          let f = some_first w.characters w.are_chars w.spelled (omega (arith, low, high)) in
          record { characters = f.1; are_chars = f.3; spelled = rest ∙ same_char c f.0 st.0 (utf8s f.1) (sym st.1 ∙ f.4) }

  pub no_character : (r : Decoded) → DecodedIs g r → ((c n : ℕ) → r ≡ Whole c n → ⊥) → 0 < length g → WholeCharacters g → ⊥
  no_character (Whole c n) d k h w = k c n refl
  no_character Begun d k h w =
      let f = some_first w.characters w.are_chars w.spelled h in
      let v = d.2.0 in
      let e : utf8 d.0 ++ [] ≡ utf8 f.0 ++ (utf8s f.1 ++ v) = append-nil (utf8 d.0) ∙ d.2.1 ∙ ap (λ (l : List ℕ). l ++ v) f.4 ∙ append_assoc (utf8 f.0) (utf8s f.1) v in
      let z = same_char d.0 f.0 [] (utf8s f.1 ++ v) e in
      d.2.2 (no_more (utf8s f.1) v z)
    where
      no_more : (x y : List ℕ) → [] ≡ x ++ y → y ≡ []
      no_more [] y e = sym e
      no_more (a ∷ x) y e = absurd (omega (arith, ap length e))
  no_character Bad d k h w =
      let f = some_first w.characters w.are_chars w.spelled h in
      d f.0 f.2 [] (utf8s f.1) (append-nil g ∙ f.4)

-- the same, at i
module _ (f : List ℕ) (i : ℕ) where
  pub step_on : (c n : ℕ) → DecodedIs (take (length f - i) (drop i f)) (Whole c n)
      → (1 ≤ n) × (n ≤ length f - i) × (WholeCharacters (drop (i + n) f) → WholeCharacters (drop i f)) × (WholeCharacters (drop i f) → WholeCharacters (drop (i + n) f))
  step_on c n d =
      let w = past_character (drop i f) c n (subst (λ (g : List ℕ). DecodedIs g (Whole c n)) (tail f i) d) in
      let e = drop-drop n i f in
      (w.0, omega (arith, w.1, length-drop i f), λ x. w.2 (subst WholeCharacters (sym e) x), λ x. subst WholeCharacters e (w.3 x))

  pub stop_at : i < length f → (r : Decoded) → DecodedIs (take (length f - i) (drop i f)) r → ((c n : ℕ) → r ≡ Whole c n → ⊥) → WholeCharacters (drop i f) → ⊥
  stop_at h r d k = no_character (drop i f) r (subst (λ (g : List ℕ). DecodedIs g r) (tail f i) d) k (omega (arith, length-drop i f))

-- a range within the strings
pub range_told : (strings : List ℕ) (o n : ℕ) → o + n ≤ length strings → {r : Bool} → Tells (WholeCharacters (take (o + n - o) (drop o strings))) r → Tells (Printable strings o n) r
range_told strings o n h {r} t = let same : o + n - o ≡ n = omega arith in go (subst (λ (m : ℕ). Tells (WholeCharacters (take m (drop o strings))) r) same t)
  where
    go : {r : Bool} → Tells (WholeCharacters (take n (drop o strings))) r → Tells (Printable strings o n) r
    go (holds w) = holds (record { inside = omega arith; whole = w })
    go (fails k) = fails (λ p. k p.whole)
