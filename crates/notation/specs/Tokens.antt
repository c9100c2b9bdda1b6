-- The tokens of the notation and their bytes. Assumes nothing.
use Rattle.std.specs.Prelude.{List, [], ◌∷◌, ◌++◌, ℕ, ◌+◌, ◌/◌, ◌%◌, ◌≤◌, ltb, eqb, length}
use Rattle.limits.specs.Limits.{longest_name}
use Rattle.text.specs.Chars.{pick, utf8}
use Rattle.text.specs.Characters.{AllChar, utf8s}
use Rattle.text.specs.Names.{Name}

-- the words of the grammar
pub data Keyword : Type 0 where
  CHAR ECHO ECHO-OFF REJECT PRINT IF THEN ELSE BEGIN END AND OR NOT EMPTY : Keyword

-- ::=  :=  (  )  {  }  .  |  *  ;  =
pub data Sign : Type 0 where
  DEFINED ASSIGNED OPEN CLOSE BRACE UNBRACE DOT BAR STAR SEMICOLON EQUALS : Sign

-- how an attribute is named: $.a  $[.a  $].a
pub data Dollar : Type 0 where
  plain left right : Dollar

pub data TextToken : Type 0 where
  nonterminal : ℕ → TextToken  -- n0
  value : ℕ → TextToken
  attribute : Dollar → ℕ → TextToken  -- $.a0
  name : List ℕ → TextToken
  start_tag : List ℕ → TextToken  -- <name>
  end_tag : List ℕ → TextToken  -- </name>
  empty_tag : List ℕ → TextToken  -- <name/>
  string : List ℕ → TextToken  -- by its characters
  word : Keyword → TextToken
  sign : Sign → TextToken

abbrev pub word_bytes : Keyword → List ℕ
word_bytes CHAR = 67 ∷ 72 ∷ 65 ∷ 82 ∷ []
word_bytes ECHO = 69 ∷ 67 ∷ 72 ∷ 79 ∷ []
word_bytes ECHO-OFF = 69 ∷ 67 ∷ 72 ∷ 79 ∷ 95 ∷ 79 ∷ 70 ∷ 70 ∷ []
word_bytes REJECT = 114 ∷ 101 ∷ 106 ∷ 101 ∷ 99 ∷ 116 ∷ []
word_bytes PRINT = 112 ∷ 114 ∷ 105 ∷ 110 ∷ 116 ∷ []
word_bytes IF = 105 ∷ 102 ∷ []
word_bytes THEN = 116 ∷ 104 ∷ 101 ∷ 110 ∷ []
word_bytes ELSE = 101 ∷ 108 ∷ 115 ∷ 101 ∷ []
word_bytes BEGIN = 98 ∷ 101 ∷ 103 ∷ 105 ∷ 110 ∷ []
word_bytes END = 101 ∷ 110 ∷ 100 ∷ []
word_bytes AND = 97 ∷ 110 ∷ 100 ∷ []
word_bytes OR = 111 ∷ 114 ∷ []
word_bytes NOT = 110 ∷ 111 ∷ 116 ∷ []
word_bytes EMPTY = 69 ∷ 77 ∷ 80 ∷ 84 ∷ 89 ∷ []

abbrev pub sign_bytes : Sign → List ℕ
sign_bytes DEFINED = 58 ∷ 58 ∷ 61 ∷ []
sign_bytes ASSIGNED = 58 ∷ 61 ∷ []
sign_bytes OPEN = 40 ∷ []
sign_bytes CLOSE = 41 ∷ []
sign_bytes BRACE = 123 ∷ []
sign_bytes UNBRACE = 125 ∷ []
sign_bytes DOT = 46 ∷ []
sign_bytes BAR = 124 ∷ []
sign_bytes STAR = 42 ∷ []
sign_bytes SEMICOLON = 59 ∷ []
sign_bytes EQUALS = 61 ∷ []

abbrev pub mark_bytes : Dollar → List ℕ
mark_bytes plain = 36 ∷ 46 ∷ []
mark_bytes left = 36 ∷ 91 ∷ 46 ∷ []
mark_bytes right = 36 ∷ 93 ∷ 46 ∷ []

-- a number under 100, with no leading zero
unfoldable pub decimal : ℕ → List ℕ
decimal n = pick (ltb n 10) ((48 + n) ∷ []) ((48 + n / 10) ∷ (48 + n % 10) ∷ [])

-- a character of a string: " and \ and tab, LF, CR as \" \\ \t \n \r, any other as itself
unfoldable pub in_quotes : ℕ → List ℕ
in_quotes c =
    pick (eqb c 34) (92 ∷ 34 ∷ [])
    (pick (eqb c 92) (92 ∷ 92 ∷ [])
    (pick (eqb c 9) (92 ∷ 116 ∷ [])
    (pick (eqb c 10) (92 ∷ 110 ∷ [])
    (pick (eqb c 13) (92 ∷ 114 ∷ []) (utf8 c)))))

abbrev pub all_in_quotes : List ℕ → List ℕ
all_in_quotes [] = []
all_in_quotes (c ∷ cs) = in_quotes c ++ all_in_quotes cs

abbrev pub token_bytes : TextToken → List ℕ
token_bytes (nonterminal n) = 110 ∷ decimal n
token_bytes (value v) = decimal v
token_bytes (attribute m a) = mark_bytes m ++ 97 ∷ decimal a
token_bytes (name n) = n
token_bytes (start_tag n) = 60 ∷ (n ++ 62 ∷ [])
token_bytes (end_tag n) = 60 ∷ 47 ∷ (n ++ 62 ∷ [])
token_bytes (empty_tag n) = 60 ∷ (n ++ 47 ∷ 62 ∷ [])
token_bytes (string cs) = 34 ∷ (all_in_quotes cs ++ 34 ∷ [])
token_bytes (word w) = word_bytes w
token_bytes (sign s) = sign_bytes s

-- a tag's name: at most 15 bytes
pub record TagName (n : List ℕ) : Type 0 where
  pub a_name : Name n
  pub short : length n ≤ longest_name

-- a string's characters: at most 255 bytes
pub record StringOf (cs : List ℕ) : Type 0 where
  pub characters : AllChar cs
  pub short : length (utf8s cs) ≤ 255
