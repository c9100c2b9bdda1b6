-- A string as it is written, byte by byte. Assumes nothing.
use mathlib.Core.Path.{◌≡◌, refl, sym, ◌∙◌, ap, ap₂, subst}
use mathlib.Core.Logic.{◌⊎◌, inl, inr}
use mathlib.Core.Bool.{Bool, true, false, cond}
use mathlib.Core.List.{List, [], ◌∷◌, ◌++◌, append_assoc, append-nil, head-eq_of_cons-eq, tail-eq_of_cons-eq}
use Prim.Native.Nat.{ℕ, suc, ◌+◌, ◌≤◌, ◌<◌, ◌/◌, ◌%◌}
use native.Mathlib.Omega.{arith}
use native.Mathlib.Decide.{dec_lt, ℕ_discrete}
use lib.Dec.{eqb}
use lib.ListN.{length}
use borrow.Author.Tests.{eq-eqb, ne_eqb}
use Rattle.text.specs.Chars.{Char, utf8}
use Rattle.text.specs.Characters.{AllChar, utf8s}
use Rattle.text.proofs.Shapes.{shape1, shape2, shape3, shape4}
use Rattle.notation.specs.Tokens.{in_quotes, all_in_quotes}
use Rattle.unquoting.specs.Unquoted.{quoted_byte, all_quoted, unescaped}

-- how a byte is written
pub data Written (b : ℕ) : Type 0 where
  with_escape : (k : ℕ) → unescaped k ≡ b → quoted_byte b ≡ 92 ∷ k ∷ [] → Written b
  plainly : (b ≡ 34 → ⊥) → (b ≡ 92 → ⊥) → quoted_byte b ≡ b ∷ [] → Written b

plain_quoted : (c : ℕ) → (c ≡ 34 → ⊥) → (c ≡ 92 → ⊥) → (c ≡ 9 → ⊥) → (c ≡ 10 → ⊥) → (c ≡ 13 → ⊥) → quoted_byte c ≡ c ∷ []
unfolding quoted_byte
plain_quoted c a b d f g = rw (ne_eqb c 34 a, ne_eqb c 92 b, ne_eqb c 9 d, ne_eqb c 10 f, ne_eqb c 13 g) refl

plain_in : (c : ℕ) → (c ≡ 34 → ⊥) → (c ≡ 92 → ⊥) → (c ≡ 9 → ⊥) → (c ≡ 10 → ⊥) → (c ≡ 13 → ⊥) → in_quotes c ≡ utf8 c
unfolding in_quotes
plain_in c a b d f g = rw (ne_eqb c 34 a, ne_eqb c 92 b, ne_eqb c 9 d, ne_eqb c 10 f, ne_eqb c 13 g) refl

pub written : (b : ℕ) → Written b
unfolding quoted_byte
written b = on (ℕ_discrete b 34) (ℕ_discrete b 92) (ℕ_discrete b 9) (ℕ_discrete b 10) (ℕ_discrete b 13)
  where
    on : Dec (b ≡ 34) → Dec (b ≡ 92) → Dec (b ≡ 9) → Dec (b ≡ 10) → Dec (b ≡ 13) → Written b
    on (yes e) c d f g = with_escape 34 (sym e) (rw e refl)
    on (no a) (yes e) d f g = with_escape 92 (sym e) (rw e refl)
    on (no a) (no c) (yes e) f g = with_escape 116 (sym e) (rw e refl)
    on (no a) (no c) (no d) (yes e) g = with_escape 110 (sym e) (rw e refl)
    on (no a) (no c) (no d) (no f) (yes e) = with_escape 114 (sym e) (rw e refl)
    on (no a) (no c) (no d) (no f) (no g) = plainly a c (plain_quoted b a c d f g)

high : (b : ℕ) → 128 ≤ b → quoted_byte b ≡ b ∷ []
high b h = plain_quoted b (λ e. omega arith) (λ e. omega arith) (λ e. omega arith) (λ e. omega arith) (λ e. omega arith)

two_high : (a b : ℕ) → 128 ≤ a → 128 ≤ b → all_quoted (a ∷ b ∷ []) ≡ a ∷ b ∷ []
two_high a b h k = rw (high a h, high b k) refl

-- a character's bytes, each as it is written, are the character as it is written
low_same : (c : ℕ) → c < 128 → in_quotes c ≡ quoted_byte c
unfolding in_quotes quoted_byte
low_same c h = on (ℕ_discrete c 34) (ℕ_discrete c 92) (ℕ_discrete c 9) (ℕ_discrete c 10) (ℕ_discrete c 13)
  where
    on : Dec (c ≡ 34) → Dec (c ≡ 92) → Dec (c ≡ 9) → Dec (c ≡ 10) → Dec (c ≡ 13) → in_quotes c ≡ quoted_byte c
    on (yes e) b d f g = rw e refl
    on (no a) (yes e) d f g = rw e refl
    on (no a) (no b) (yes e) f g = rw e refl
    on (no a) (no b) (no d) (yes e) g = rw e refl
    on (no a) (no b) (no d) (no f) (yes e) = rw e refl
    on (no a) (no b) (no d) (no f) (no g) = plain_in c a b d f g ∙ shape1 c h ∙ sym (plain_quoted c a b d f g)

all_high : List ℕ → Type 0
all_high [] = Unit {0}
all_high (b ∷ bs) = (128 ≤ b) × all_high bs

high_same : (bs : List ℕ) → all_high bs → all_quoted bs ≡ bs
unfolding all_high
high_same [] h = refl
high_same (b ∷ bs) h = ap₂ (λ (x y : List ℕ). x ++ y) (high b h.0) (high_same bs h.1)

utf8_high : (c : ℕ) → 128 ≤ c → all_high (utf8 c)
unfolding all_high
utf8_high c h = on (dec_lt c 0x800) (dec_lt c 0x10000)
  where
    on : Dec (c < 0x800) → Dec (c < 0x10000) → all_high (utf8 c)
    on (yes a) d = subst all_high (sym (shape2 c h a)) (omega arith, (omega arith, tt))
    on (no a) (yes b) = subst all_high (sym (shape3 c (omega arith) b)) (omega arith, (omega arith, (omega arith, tt)))
    on (no a) (no b) = subst all_high (sym (shape4 c (omega arith))) (omega arith, (omega arith, (omega arith, (omega arith, tt))))

char_same : (c : ℕ) → in_quotes c ≡ all_quoted (utf8 c)
char_same c = on (dec_lt c 128)
  where
    on : Dec (c < 128) → in_quotes c ≡ all_quoted (utf8 c)
    on (yes h) = low_same c h ∙ sym (append-nil (quoted_byte c)) ∙ ap all_quoted (sym (shape1 c h))
    on (no h) = plain_in c (λ e. omega arith) (λ e. omega arith) (λ e. omega arith) (λ e. omega arith) (λ e. omega arith) ∙ sym (high_same (utf8 c) (utf8_high c (omega arith)))

all_append : (a b : List ℕ) → all_quoted (a ++ b) ≡ all_quoted a ++ all_quoted b
all_append [] b = refl
all_append (x ∷ a) b = ap (λ (z : List ℕ). quoted_byte x ++ z) (all_append a b) ∙ sym (append_assoc (quoted_byte x) (all_quoted a) (all_quoted b))

pub string_same : (cs : List ℕ) → all_in_quotes cs ≡ all_quoted (utf8s cs)
string_same [] = refl
string_same (c ∷ cs) = ap₂ (λ (x y : List ℕ). x ++ y) (char_same c) (string_same cs) ∙ sym (all_append (utf8 c) (utf8s cs))
