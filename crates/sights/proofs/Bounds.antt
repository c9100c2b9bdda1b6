-- What is found lies in the text. Assumes nothing.
use mathlib.Core.Path.{◌≡◌, sym, ap, subst}
use mathlib.Core.Bool.{Bool}
use mathlib.Core.List.{List, ◌∷◌, ◌++◌}
use Prim.Native.Nat.{ℕ, ◌+◌, ◌≤◌, ◌<◌}
use native.Mathlib.Omega.{arith}
use lib.ListN.{length, drop, length-append, length-drop}
use Rattle.notation.specs.Tokens.{token_bytes}
use Rattle.gaps.specs.declared.Skipped.{Skipped}
use Rattle.gaps.specs.Skipped.{SkippedIs, a_byte, a_comment}
use Rattle.lexing.proofs.Spellings.{part, part_is}
use Rattle.lexemes.specs.declared.Lexeme.{Lexeme}
use Rattle.lexemes.specs.Kinds.{kinds, Lexed}
use Rattle.lexemes.proofs.Found.{kind_below}

pub to_below : (x : List ℕ) (i : ℕ) → SkippedIs x (Skipped.To i) → i < length x
to_below x i (a_byte {b = b} g y h e l n m) = omega (arith, l, ap length e, length-append g (b ∷ y))

pub bad_below : (x : List ℕ) (i : ℕ) → SkippedIs x (Skipped.Bad i) → i ≤ length x
bad_below x i (a_comment {b = b} g c y h a e l n m) = omega (arith, l, ap length e, length-append g (35 ∷ (c ++ b ∷ y)), length-append c (b ∷ y))

token_below : (may : List Bool) (x : List ℕ) (k n l : ℕ) → Lexed may x (Lexeme.Token k n l) → (k < kinds) × (l ≤ length x)
token_below may x k n l (Lexed.a_token t w a c d) = (subst (λ z. z < kinds) (sym a) (kind_below t), omega (arith, d, ap length w.are, length-append (token_bytes t) w.rest))

stuck_below : (may : List Bool) (x : List ℕ) (k : ℕ) → Lexed may x (Lexeme.Stuck k) → k ≤ length x
stuck_below may x k (Lexed.no_token s) = s.reached

pub skipped_as : (x : List ℕ) (a b : Skipped) → a ≡ b → SkippedIs x a → SkippedIs x b
skipped_as x a b e h = subst (SkippedIs x) e h

-- what is read of the part from a byte on is read of what follows
pub lexed_as : (may : List Bool) (x : List ℕ) (i : ℕ) (a b : Lexeme) → a ≡ b → Lexed may (part x i) a → Lexed may (drop i x) b
lexed_as may x i a b e h = subst (Lexed may (drop i x)) e (subst (λ z. Lexed may z a) (part_is x i) h)

pub token_within : (may : List Bool) (x : List ℕ) (i k n l : ℕ) → i < length x → Lexed may (drop i x) (Lexeme.Token k n l) → (k < kinds) × (i + l ≤ length x)
token_within may x i k n l h y = let z = token_below may (drop i x) k n l y in (z.0, omega (arith, h, z.1, length-drop i x))

pub stuck_within : (may : List Bool) (x : List ℕ) (i k : ℕ) → i < length x → Lexed may (drop i x) (Lexeme.Stuck k) → i + k ≤ length x
stuck_within may x i k h y = let z = stuck_below may (drop i x) k y in omega (arith, h, z, length-drop i x)
