-- The stream's tokens: each spelling of one, its bytes, and what the reader answers of a front. Definitions.
-- Assumes nothing.
use Rattle.std.specs.Prelude.{ℕ, ◌+◌, ◌≤◌, ◌<◌, ◌≡◌, true, false, List, [], ◌∷◌, ◌++◌, length, take, drop}
use Rattle.limits.specs.Limits.{longest_token}
use Rattle.text.specs.Chars.{Char, utf8, Starts, Begins}
use Rattle.text.specs.Names.{blank, All, Name}
use Rattle.text.specs.Numerals.{Base, decimal, hex, Digits, value_of}
use Rattle.tokens.specs.declared.Cursor.{Cursor}
use Rattle.tokens.specs.declared.Event.{Event}
use Rattle.tokens.specs.declared.Event.TheVariants.{Start, End, Empty, Character}
use Rattle.tokens.specs.declared.Answer.{Answer}
use Rattle.tokens.specs.declared.Answer.TheVariants.{Token, Waiting, Begun, Bad, Long}

-- the three tags: <name>  </name>  <name/>
pub data Kind : Type 0 where
  start end empty : Kind

-- the five named references
pub data Ref : Type 0 where
  amp lt gt apos quot : Ref

-- the two line ends that are not LF: CR LF, and CR alone
pub data LineEnd : Type 0 where
  crlf cr : LineEnd

-- a token as it is spelled: a tag of a name and the white space after it, a reference by name or by number (in a base, with these digits), a line
-- end, a character
pub data Tok : Type 0 where
  tag : Kind → List ℕ → List ℕ → Tok
  ref : Ref → Tok
  numeric : Base → List ℕ → Tok
  line : LineEnd → Tok
  char : ℕ → Tok

-- which spellings are tokens; 60, 38, 62 and 13 are < & > and CR. A reference's number is in Char, so it has digits: none name 0
abbrev pub Good : Tok → Type 0
Good (tag k n b) = Name n × All blank b
Good (ref x) = Unit {0}
Good (numeric k ds) = Digits k ds × Char (value_of k ds)
Good (line x) = Unit {0}
Good (char c) = Char c × (c ≡ 60 → ⊥) × (c ≡ 38 → ⊥) × (c ≡ 62 → ⊥) × (c ≡ 13 → ⊥)

-- <  </  <
abbrev pub opening_bytes : Kind → List ℕ
opening_bytes start = 60 ∷ []
opening_bytes end = 60 ∷ 47 ∷ []
opening_bytes empty = 60 ∷ []

-- >  >  />
abbrev pub closing_bytes : Kind → List ℕ
closing_bytes start = 62 ∷ []
closing_bytes end = 62 ∷ []
closing_bytes empty = 47 ∷ 62 ∷ []

-- &amp;  &lt;  &gt;  &apos;  &quot;
abbrev pub spelled : Ref → List ℕ
spelled amp = 38 ∷ 97 ∷ 109 ∷ 112 ∷ 59 ∷ []
spelled lt = 38 ∷ 108 ∷ 116 ∷ 59 ∷ []
spelled gt = 38 ∷ 103 ∷ 116 ∷ 59 ∷ []
spelled apos = 38 ∷ 97 ∷ 112 ∷ 111 ∷ 115 ∷ 59 ∷ []
spelled quot = 38 ∷ 113 ∷ 117 ∷ 111 ∷ 116 ∷ 59 ∷ []

-- the character that a named reference stands for
abbrev pub stands : Ref → ℕ
stands amp = 38
stands lt = 60
stands gt = 62
stands apos = 39
stands quot = 34

-- what comes between &# and the digits: nothing, or x
abbrev pub base_mark : Base → List ℕ
base_mark decimal = []
base_mark hex = 120 ∷ []

-- CR LF, CR
abbrev pub ending : LineEnd → List ℕ
ending crlf = 13 ∷ 10 ∷ []
ending cr = 13 ∷ []

-- &# digits ;  &#x digits ;
abbrev pub bytes : Tok → List ℕ
bytes (tag k n b) = opening_bytes k ++ (n ++ (b ++ closing_bytes k))
bytes (ref x) = spelled x
bytes (numeric k ds) = 38 ∷ 35 ∷ (base_mark k ++ (ds ++ (59 ∷ [])))
bytes (line x) = ending x
bytes (char c) = utf8 c

-- a tag's event: its name by where it stands and how many bytes it has
abbrev pub tag_event : Kind → (from len : ℕ) → Event
tag_event start from len = Start from len
tag_event end from len = End from len
tag_event empty from len = Empty from len

-- the event of a token that stands at `at`. A character is literal where it stood there itself; a line end is the character LF (XML 1.0, section 2.11)
abbrev pub event_of : ℕ → Tok → Event
event_of at (tag k n b) = tag_event k (at + length (opening_bytes k)) (length n)
event_of at (ref x) = Character (stands x) false
event_of at (numeric k ds) = Character (value_of k ds) false
event_of at (line x) = Character 10 true
event_of at (char c) = Character c true

-- the front of a stream at a position: the next bytes, 32 at most
abbrev pub front : List ℕ → ℕ → List ℕ
front s at = take longest_token (drop at s)

-- f starts with a token and with none that is longer (CR LF starts with CR too); it stands at `at`, its event is e and it ends at next
pub record Longest (f : List ℕ) (at : ℕ) (e : Event) (next : Cursor) : Type 0 where
  pub token : Tok
  pub good : Good token
  pub starts : Starts f (bytes token)
  pub event : e ≡ event_of at token
  pub ends : next.at ≡ at + length (bytes token)
  pub longest : (t : Tok) → Good t → Starts f (bytes t) → length (bytes t) ≤ length (bytes token)

abbrev pub StartsNone : List ℕ → Type 0
StartsNone f = (t : Tok) → Good t → Starts f (bytes t) → ⊥

-- f begins a token
abbrev pub BeginsOne : List ℕ → Type 0
BeginsOne f = (t : Tok) × Good t × Begins f (bytes t)

-- what the reader answers of the front f that stands at `at`
--     Token     f starts with that token, the longest, and begins none: no byte that follows changes it
--     Waiting   f starts with that token, the longest, and begins another: it is the token if nothing follows
--     Begun     f starts with no token, and begins one of at most 32 bytes
--     Bad       f starts with no token, and begins none of any length
--     Long      f starts with no token, and begins one, and only tokens over 32 bytes
-- A token that f starts with has at most 32 bytes, as a front has no more.
abbrev pub Means : List ℕ → ℕ → Answer → Type 0
Means f at (Token e next) = Longest f at e next × (BeginsOne f → ⊥)
Means f at (Waiting e next) = Longest f at e next × BeginsOne f
Means f at Begun = StartsNone f × ((t : Tok) × Good t × Begins f (bytes t) × (length (bytes t) ≤ longest_token))
Means f at Bad = StartsNone f × (BeginsOne f → ⊥)
Means f at Long = StartsNone f × BeginsOne f × ((t : Tok) → Good t → Begins f (bytes t) → longest_token < length (bytes t))
