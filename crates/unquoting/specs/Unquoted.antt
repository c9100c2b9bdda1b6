-- The bytes of a string token without its quotes and its escapes. Assumes nothing.
use Rattle.std.specs.Prelude.{◌≡◌, cond, List, [], ◌∷◌, ◌++◌, ℕ, ◌+◌, ◌≤◌, eqb, length, drop}
use Rattle.text.specs.Chars.{pick}
use Rattle.text.specs.Characters.{utf8s}
use Rattle.notation.specs.Tokens.{string, token_bytes, StringOf}
use Rattle.unquoting.specs.declared.Piece.{Piece}

-- a byte of a string as it is written
unfoldable pub quoted_byte : ℕ → List ℕ
quoted_byte b =
    pick (eqb b 34) (92 ∷ 34 ∷ [])
    (pick (eqb b 92) (92 ∷ 92 ∷ []) (pick (eqb b 9) (92 ∷ 116 ∷ []) (pick (eqb b 10) (92 ∷ 110 ∷ []) (pick (eqb b 13) (92 ∷ 114 ∷ []) (b ∷ [])))))

abbrev pub all_quoted : List ℕ → List ℕ
all_quoted [] = []
all_quoted (b ∷ bs) = quoted_byte b ++ all_quoted bs

-- and back: the byte that one behind a \ stands for
abbrev pub unescaped : ℕ → ℕ
unescaped b = cond (eqb b 116) 9 (cond (eqb b 110) 10 (cond (eqb b 114) 13 b))

pub record StringPieceIs (x : List ℕ) (r : Piece) : Type 0 where
  pub onward : 1 ≤ r.long
  pub inside : r.long ≤ length x
  pub byte_is : (b : ℕ) (rest : List ℕ) → x ≡ quoted_byte b ++ rest → r.byte ≡ b
  pub long_is : (b : ℕ) (rest : List ℕ) → x ≡ quoted_byte b ++ rest → r.long ≡ length (quoted_byte b)

-- of bytes that begin with a string token, its bytes are the first of the memory, and every other byte is as lent
pub record Unquoted (cs before after : List ℕ) (n : ℕ) : Type 0 where
  pub long : n ≡ length (utf8s cs)
  pub are : after ≡ utf8s cs ++ drop n before

pub record UnquotedIs (x before after : List ℕ) (n : ℕ) : Type 0 where
  pub inside : n ≤ length before
  pub is : (cs rest : List ℕ) → StringOf cs → x ≡ token_bytes (string cs) ++ rest → length (utf8s cs) ≤ length before → Unquoted cs before after n
