-- The kinds of tokens by number, and what is read where some kinds may stand. Assumes nothing.
use Rattle.std.specs.Prelude.{◌≡◌, Bool, true, false, List, ℕ, ◌<◌, length, get_or}
use Rattle.text.specs.Characters.{utf8s}
use Rattle.programs.specs.Limits.{Attribute, Value}
use Rattle.notation.specs.Tokens.{Dollar, plain, left, right, TextToken, nonterminal, value, attribute, name, start_tag, end_tag, empty_tag, string, word, Keyword, CHAR, ECHO, ECHO-OFF, REJECT, PRINT, IF, THEN, ELSE, BEGIN, END, AND, OR, NOT, EMPTY, sign, Sign, DEFINED, ASSIGNED, OPEN, CLOSE, BRACE, UNBRACE, DOT, BAR, STAR, SEMICOLON, EQUALS, token_bytes, TagName, StringOf}
use Rattle.lexing.specs.declared.Tried.{Tried}
use Rattle.lexemes.specs.declared.Lexeme.{Lexeme}
use Rattle.lexing.specs.Front.{WholeToken, Stuck}

abbrev pub kinds : ℕ
kinds = 35

abbrev pub mark_number : Dollar → ℕ
mark_number plain = 2
mark_number left = 3
mark_number right = 4

abbrev pub word_number : Keyword → ℕ
word_number CHAR = 10
word_number ECHO = 11
word_number ECHO-OFF = 12
word_number REJECT = 13
word_number PRINT = 14
word_number IF = 15
word_number THEN = 16
word_number ELSE = 17
word_number BEGIN = 18
word_number END = 19
word_number AND = 20
word_number OR = 21
word_number NOT = 22
word_number EMPTY = 34

abbrev pub sign_number : Sign → ℕ
sign_number DEFINED = 23
sign_number ASSIGNED = 24
sign_number OPEN = 25
sign_number CLOSE = 26
sign_number BRACE = 27
sign_number UNBRACE = 28
sign_number DOT = 29
sign_number BAR = 30
sign_number STAR = 31
sign_number SEMICOLON = 32
sign_number EQUALS = 33

abbrev pub token_kind : TextToken → ℕ
token_kind (nonterminal n) = 0
token_kind (value v) = 1
token_kind (attribute m a) = mark_number m
token_kind (name n) = 5
token_kind (start_tag n) = 6
token_kind (end_tag n) = 7
token_kind (empty_tag n) = 8
token_kind (string cs) = 9
token_kind (word w) = word_number w
token_kind (sign s) = sign_number s

-- its number; of a name or a tag how long the name is, of a string how many bytes it has without its escapes
abbrev pub token_number : TextToken → ℕ
token_number (nonterminal n) = n
token_number (value v) = v
token_number (attribute m a) = a
token_number (name n) = length n
token_number (start_tag n) = length n
token_number (end_tag n) = length n
token_number (empty_tag n) = length n
token_number (string cs) = length (utf8s cs)
token_number (word w) = 0
token_number (sign s) = 0

-- numbers, names and strings that a text may have
abbrev pub TokenFits : TextToken → Type 0
TokenFits (nonterminal n) = n < 64
TokenFits (value v) = Value v
TokenFits (attribute m a) = Attribute a
TokenFits (name n) = TagName n
TokenFits (start_tag n) = TagName n
TokenFits (end_tag n) = TagName n
TokenFits (empty_tag n) = TagName n
TokenFits (string cs) = StringOf cs
TokenFits (word w) = Unit {0}
TokenFits (sign s) = Unit {0}

pub record OfKind (k : ℕ) (t : TextToken) : Type 0 where
  pub kind : token_kind t ≡ k
  pub fit : TokenFits t

abbrev pub MayIf : Bool → (TextToken → Type 0) → TextToken → Type 0
MayIf true May t = May t
MayIf false May t = ⊥

-- the kinds that are marked
pub record MarkedKind (may : List Bool) (t : TextToken) : Type 0 where
  pub marked : get_or may (token_kind t) false ≡ true
  pub fit : TokenFits t

pub data TriedIs (May : TextToken → Type 0) (x : List ℕ) : Tried → Type 0 where
  a_token : {n k : ℕ} (t : TextToken) → WholeToken May x t → n ≡ token_number t → k ≡ length (token_bytes t) → TriedIs May x (Tried.Whole n k)
  no_token : {k : ℕ} → Stuck May x k → TriedIs May x (Tried.Stuck k)

-- what is read: a token of a kind that may stand there, with its kind, number and length; or the place at which none goes on
pub data Lexed (may : List Bool) (x : List ℕ) : Lexeme → Type 0 where
  a_token : {k n l : ℕ} (t : TextToken) → WholeToken (MarkedKind may) x t → k ≡ token_kind t → n ≡ token_number t → l ≡ length (token_bytes t) → Lexed may x (Lexeme.Token k n l)
  no_token : {k : ℕ} → Stuck (MarkedKind may) x k → Lexed may x (Lexeme.Stuck k)
