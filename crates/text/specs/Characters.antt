-- Characters in a row, and bytes that are whole characters of the Char set.
-- Assumes nothing.
use Rattle.std.specs.Prelude.{ℕ, ◌≡◌, List, [], ◌∷◌, ◌++◌}
use Rattle.text.specs.Chars.{Char, utf8}

abbrev pub AllChar : List ℕ → Type 0
AllChar [] = Unit {0}
AllChar (c ∷ cs) = Char c × AllChar cs

abbrev pub utf8s : List ℕ → List ℕ
utf8s [] = []
utf8s (c ∷ cs) = utf8 c ++ utf8s cs

pub record WholeCharacters (bytes : List ℕ) : Type 0 where
  pub characters : List ℕ
  pub are_chars : AllChar characters
  pub spelled : bytes ≡ utf8s characters
