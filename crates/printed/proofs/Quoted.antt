-- A string is escaped byte by byte as it is character by character. Assumes nothing.
use mathlib.Core.Path.{◌≡◌, refl, sym, ◌∙◌, ap, ap₂}
use mathlib.Core.Logic.{◌⊎◌, inl, inr}
use mathlib.Core.List.{List, [], ◌∷◌, ◌++◌, append_assoc}
use Prim.Native.Nat.{ℕ, ◌+◌, ◌/◌, ◌%◌, ◌≤◌, ◌<◌}
use native.Mathlib.Omega.{arith}
use native.Mathlib.Decide.{ℕ_discrete}
use lib.ListN.{length}
use borrow.Author.Tests.{ne_eqb}
use Rattle.text.specs.Chars.{utf8}
use Rattle.text.specs.Characters.{utf8s, WholeCharacters}
use Rattle.text.proofs.Shapes.{Range, range, shape1, shape2, shape3, shape4}
use Rattle.notation.specs.Tokens.{TextToken, string, in_quotes, all_in_quotes, token_bytes, StringOf}
use Rattle.printed.specs.Programs.{in_string, all_in_string, quoted}

escaped_append : (a b : List ℕ) → all_in_string (a ++ b) ≡ all_in_string a ++ all_in_string b
escaped_append [] b = refl
escaped_append (x ∷ a) b = ap (λ l. in_string x ++ l) (escaped_append a b) ∙ sym (append_assoc (in_string x) (all_in_string a) (all_in_string b))

-- a byte that is none of the five
itself : (b : ℕ) → (b ≡ 34 → ⊥) → (b ≡ 92 → ⊥) → (b ≡ 9 → ⊥) → (b ≡ 10 → ⊥) → (b ≡ 13 → ⊥) → in_string b ≡ b ∷ []
itself b h i j k l = rw (ne_eqb b 34 h, ne_eqb b 92 i, ne_eqb b 9 j, ne_eqb b 10 k, ne_eqb b 13 l) refl

high : (b : ℕ) → 0x80 ≤ b → in_string b ≡ b ∷ []
high b h = itself b (λ e. omega arith) (λ e. omega arith) (λ e. omega arith) (λ e. omega arith) (λ e. omega arith)

wide : (c : ℕ) → 0x80 ≤ c → all_in_string (utf8 c) ≡ utf8 c
wide c h = on (range c)
  where
    on : Range c → all_in_string (utf8 c) ≡ utf8 c
    on (inl i) = absurd (omega arith)
    on (inr (inl i)) = rw (shape2 c i.0 (omega arith)) (rw (high (0xC0 + c / 64) (omega arith), high (0x80 + c % 64) (omega arith)) refl)
    on (inr (inr (inl i))) = rw (shape3 c i.0 (omega arith)) (rw (high (0xE0 + c / 4096) (omega arith), high (0x80 + c / 64 % 64) (omega arith), high (0x80 + c % 64) (omega arith)) refl)
    on (inr (inr (inr i))) = rw (shape4 c i) (rw (high (0xF0 + c / 262144) (omega arith), high (0x80 + c / 4096 % 64) (omega arith), high (0x80 + c / 64 % 64) (omega arith), high (0x80 + c % 64) (omega arith)) refl)

one_character_lem : (c : ℕ) → in_quotes c ≡ all_in_string (utf8 c)
unfolding in_quotes
one_character_lem c = on (ℕ_discrete c 34) (ℕ_discrete c 92) (ℕ_discrete c 9) (ℕ_discrete c 10) (ℕ_discrete c 13)
  where
    five : (d : ℕ) → d < 0x80 → in_quotes d ≡ all_in_string (d ∷ []) → c ≡ d → in_quotes c ≡ all_in_string (utf8 c)
    five d h e i = rw i (e ∙ sym (ap all_in_string (shape1 d h)))

    on : Dec (c ≡ 34) → Dec (c ≡ 92) → Dec (c ≡ 9) → Dec (c ≡ 10) → Dec (c ≡ 13) → in_quotes c ≡ all_in_string (utf8 c)
    on (yes e) b d f g = five 34 (omega arith) refl e
    on (no a) (yes e) d f g = five 92 (omega arith) refl e
    on (no a) (no b) (yes e) f g = five 9 (omega arith) refl e
    on (no a) (no b) (no d) (yes e) g = five 10 (omega arith) refl e
    on (no a) (no b) (no d) (no f) (yes e) = five 13 (omega arith) refl e
    on (no a) (no b) (no d) (no f) (no g) = rw (ne_eqb c 34 a, ne_eqb c 92 b, ne_eqb c 9 d, ne_eqb c 10 f, ne_eqb c 13 g) (sym (other (native.Mathlib.Decide.dec_lt c 0x80)))
      where
        other : Dec (c < 0x80) → all_in_string (utf8 c) ≡ utf8 c
        other (yes h) = rw (shape1 c h) (ap (λ l. l ++ []) (itself c a b d f g))
        other (no h) = wide c (omega arith)

pub characters_escaped : (cs : List ℕ) → all_in_quotes cs ≡ all_in_string (utf8s cs)
characters_escaped [] = refl
characters_escaped (c ∷ cs) = ap₂ ◌++◌ (one_character_lem c) (characters_escaped cs) ∙ sym (escaped_append (utf8 c) (utf8s cs))

-- so a quoted string is a token
pub quoted_string : (s : List ℕ) (w : WholeCharacters s) → token_bytes (string w.characters) ≡ quoted s
quoted_string s w = ap (λ l. 34 ∷ (l ++ 34 ∷ [])) (characters_escaped w.characters ∙ sym (ap all_in_string w.spelled))
