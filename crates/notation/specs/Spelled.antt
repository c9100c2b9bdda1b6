-- Which bytes spell a row of tokens. Assumes nothing.
use Rattle.std.specs.Prelude.{◌≡◌, Bool, false, ◌&&◌, ◌||◌, List, [], ◌∷◌, ◌++◌, ℕ, leb}
use Rattle.text.specs.Names.{name_first, name_byte}
use Rattle.notation.specs.Tokens.{TextToken, nonterminal, value, attribute, name, start_tag, end_tag, empty_tag, string, word, sign, token_bytes}
use Rattle.notation.specs.Gaps.{Gap, Ending}

-- [A-Za-z0-9_]
abbrev pub word_byte : ℕ → Bool
word_byte b = name_first b || (leb 48 b && leb b 57)

-- whether a byte behind a token would belong to it: a nonterminal, value, attribute or word is not followed by a letter, a digit or _, and a name is as
-- long as its bytes go
abbrev pub joins : TextToken → ℕ → Bool
joins (nonterminal n) b = word_byte b
joins (value v) b = word_byte b
joins (attribute m a) b = word_byte b
joins (name n) b = name_byte b
joins (start_tag n) b = false
joins (end_tag n) b = false
joins (empty_tag n) b = false
joins (string cs) b = false
joins (word w) b = word_byte b
joins (sign s) b = false

-- these bytes may follow the token at once
abbrev pub MayFollow : TextToken → List ℕ → Type 0
MayFollow t [] = Unit {0}
MayFollow t (b ∷ bs) = joins t b ≡ false

-- each token is its bytes, with a gap in front of it, and what follows it may do so
pub data TypedAs : List TextToken → List ℕ → Type 0 where
  end : {e : List ℕ} → Ending e → TypedAs [] e
  token : {g rest : List ℕ} {ts : List TextToken} (t : TextToken) → Gap g → MayFollow t rest → TypedAs ts rest → TypedAs (t ∷ ts) (g ++ (token_bytes t ++ rest))
