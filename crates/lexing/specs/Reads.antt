-- What is read of bytes that may begin with one of some spellings: a whole one with its number, or how many bytes begin one. Assumes nothing.
use Rattle.std.specs.Prelude.{◌≡◌, Bool, true, false, cond, ◌||◌, List, [], ◌∷◌, ◌++◌, ℕ, suc, ◌≤◌, ◌<◌, ltb, eqb, length, take, get_or}
use Rattle.limits.specs.Limits.{longest_name}
use Rattle.text.specs.Names.{name_first, name_byte, Name}
use Rattle.text.specs.Chars.{Char, utf8}
use Rattle.text.specs.Characters.{utf8s}
use Rattle.notation.specs.Tokens.{decimal, in_quotes, all_in_quotes, TagName, StringOf}
use Rattle.notation.specs.Spelled.{word_byte}
use Rattle.lexing.specs.declared.Tried.{Tried}

-- so many bytes in front are the same, and no more
pub record Common (x w : List ℕ) (k : ℕ) : Type 0 where
  pub reached : k ≤ length x
  pub inside : k ≤ length w
  pub same : take k x ≡ take k w
  pub differ : k < length x → k < length w → get_or x k 0 ≡ get_or w k 0 → ⊥

-- the first byte, if there is one, does not join
abbrev pub Stops : (ℕ → Bool) → List ℕ → Type 0
Stops p [] = Unit {0}
Stops p (b ∷ x) = p b ≡ false

abbrev pub stops_at : Bool → ℕ → Bool
stops_at true b = word_byte b
stops_at false b = false

abbrev pub nothing : ℕ → Bool
nothing b = false

-- the spellings w of the numbers n are told by L, and no byte that joins may follow
pub record Spelt (L : List ℕ → ℕ → Type 0) (joins : ℕ → Bool) (x : List ℕ) (n k : ℕ) : Type 0 where
  pub spelling : List ℕ
  pub rest : List ℕ
  pub is : L spelling n
  pub are : x ≡ spelling ++ rest
  pub long : k ≡ length spelling
  pub stops : Stops joins rest

-- some spelling begins so
pub record BeginsSpelling (L : List ℕ → ℕ → Type 0) (x : List ℕ) : Type 0 where
  pub spelling : List ℕ
  pub number : ℕ
  pub rest : List ℕ
  pub is : L spelling number
  pub are : spelling ≡ x ++ rest

pub record Halts (L : List ℕ → ℕ → Type 0) (joins : ℕ → Bool) (x : List ℕ) (k : ℕ) : Type 0 where
  pub reached : k ≤ length x
  pub begun : 1 ≤ k → BeginsSpelling L (take k x)
  pub no_further : k < length x → BeginsSpelling L (take (suc k) x) → ⊥
  pub no_whole : (n m : ℕ) → Spelt L joins x n m → ⊥

pub data ReadIs (L : List ℕ → ℕ → Type 0) (joins : ℕ → Bool) (x : List ℕ) : Tried → Type 0 where
  whole : {n k : ℕ} → Spelt L joins x n k → ReadIs L joins x (Tried.Whole n k)
  halts : {k : ℕ} → Halts L joins x k → ReadIs L joins x (Tried.Stuck k)

-- one spelling, of one number
pub record OneSpelling (w : List ℕ) (n : ℕ) (v : List ℕ) (m : ℕ) : Type 0 where
  pub spelled : v ≡ w
  pub numbered : m ≡ n

-- bytes and then a number under a bound
pub record NumberBehind (a : List ℕ) (count : ℕ) (v : List ℕ) (n : ℕ) : Type 0 where
  pub below : n < count
  pub spelled : v ≡ a ++ decimal n

-- the first n bytes are a name; of at most 15, and of no more
pub record NameRun (x : List ℕ) (n : ℕ) : Type 0 where
  pub reached : n ≤ length x
  pub short : n ≤ longest_name
  pub named : 1 ≤ n → Name (take n x)
  pub none : n ≡ 0 → n < length x → name_first (get_or x n 0) ≡ false
  pub no_more : 1 ≤ n → n < longest_name → n < length x → name_byte (get_or x n 0) ≡ false

-- a name, whose number is its length
pub record NameSpelling (v : List ℕ) (n : ℕ) : Type 0 where
  pub named : TagName v
  pub long : n ≡ length v

-- a name between a and b
pub record TagSpelling (a b v : List ℕ) (n : ℕ) : Type 0 where
  pub name : List ℕ
  pub named : TagName name
  pub long : n ≡ length name
  pub spelled : v ≡ a ++ (name ++ b)

-- a character as itself; its number is its length
pub record CharSpelling (v : List ℕ) (n : ℕ) : Type 0 where
  pub character : ℕ
  pub is_char : Char character
  pub spelled : v ≡ utf8 character
  pub long : n ≡ length (utf8 character)

-- how many bytes a character has, by its first
abbrev pub width_of : ℕ → ℕ
width_of a = cond (ltb a 128) 1 (cond (ltb a 224) 2 (cond (ltb a 240) 3 4))

-- the bytes that stand for a character behind a \: " \ t n r
abbrev pub escape_byte : ℕ → Bool
escape_byte b = eqb b 34 || (eqb b 92 || (eqb b 116 || (eqb b 110 || eqb b 114)))

-- a character of a string as it is written, of at most so many bytes by itself
pub record PieceSpelling (room : ℕ) (v : List ℕ) (n : ℕ) : Type 0 where
  pub character : ℕ
  pub is_char : Char character
  pub fits : length (utf8 character) ≤ room
  pub spelled : v ≡ in_quotes character
  pub long : n ≡ length (utf8 character)

-- a string; its number is how many bytes it has without its escapes
pub record StringSpelling (v : List ℕ) (n : ℕ) : Type 0 where
  pub characters : List ℕ
  pub are_string : StringOf characters
  pub spelled : v ≡ 34 ∷ (all_in_quotes characters ++ 34 ∷ [])
  pub long : n ≡ length (utf8s characters)
