-- The text we write: characters escaped, start tags and end tags, and what such a text is read as again. Definitions.
-- Assumes nothing.
use Rattle.std.specs.Prelude.{ℕ, ◌≤◌, cond, List, [], ◌∷◌, ◌++◌, length, take, drop, eqb}
use Rattle.text.specs.Chars.{Char}
use Rattle.text.specs.Names.{Name}
use Rattle.text.specs.Numerals.{decimal}
use Rattle.tokens.specs.Tokens.{Kind, amp, lt, gt, Tok, tag, ref, numeric, char, bytes}
use Rattle.tokens.specs.Stream.{flat, events_at}
use Rattle.tokens.specs.LineEnds.{NoCR}
use Rattle.tokens.specs.declared.Event.{Event}
use Rattle.tokens.specs.declared.Event.TheVariants.{Start, End, Empty, Character}

-- &#13;
abbrev pub cr_by_number : Tok
cr_by_number = numeric decimal (49 ∷ 51 ∷ [])

-- the token that a character is written as: & < > by name, CR by number (a CR byte would be read as LF), any other as it is
unfoldable pub escaped_as : ℕ → Tok
escaped_as c = cond (eqb c 38) (ref amp) (cond (eqb c 60) (ref lt) (cond (eqb c 62) (ref gt) (cond (eqb c 13) cr_by_number (char c))))

-- what is written at a time: a start tag or an end tag of a name, or a character
pub data Piece : Type 0 where
  start : List ℕ → Piece
  end : List ℕ → Piece
  character : ℕ → Piece

-- the token that a piece is written as, without white space before its >; and those of pieces, one after the other
abbrev pub as_token : Piece → Tok
as_token (start n) = tag Kind.start n []
as_token (end n) = tag Kind.end n []
as_token (character c) = escaped_as c

abbrev pub as_tokens : List Piece → List Tok
as_tokens [] = []
as_tokens (p ∷ ps) = as_token p ∷ as_tokens ps

-- the bytes of a piece, and of pieces, one after the other
abbrev pub written : Piece → List ℕ
written p = bytes (as_token p)

abbrev pub render : List Piece → List ℕ
render ps = flat (as_tokens ps)

-- <name>  </name>  and a character's bytes
abbrev pub start_tag : List ℕ → List ℕ
start_tag n = written (start n)

abbrev pub end_tag : List ℕ → List ℕ
end_tag n = written (end n)

abbrev pub escaped : ℕ → List ℕ
escaped c = written (character c)

-- characters as text
abbrev pub characters : List ℕ → List Piece
characters [] = []
characters (c ∷ cs) = character c ∷ characters cs

abbrev pub text : List ℕ → List ℕ
text cs = render (characters cs)

-- what we may write: characters of the Char set, and names whose tags have at most 32 bytes (a sheet's have 15 bytes at most)
abbrev pub PieceFits : Piece → Type 0
PieceFits (start n) = Name n × (length n ≤ 30)
PieceFits (end n) = Name n × (length n ≤ 29)
PieceFits (character c) = Char c

abbrev pub AllFit : List Piece → Type 0
AllFit [] = Unit {0}
AllFit (p ∷ ps) = PieceFits p × AllFit ps

-- the events of pieces that are written one after the other from `at` on
abbrev pub events_from : ℕ → List Piece → List Event
events_from at ps = events_at at (as_tokens ps)

-- what an event of the stream s stands for: a tag with the name that it points at, an empty tag being a start and an end; or a character
abbrev pub pieces : List ℕ → Event → List Piece
pieces s (Start from len) = start (take len (drop from s)) ∷ []
pieces s (End from len) = end (take len (drop from s)) ∷ []
pieces s (Empty from len) = start (take len (drop from s)) ∷ end (take len (drop from s)) ∷ []
pieces s (Character c literal) = character c ∷ []

abbrev pub all_pieces : List ℕ → List Event → List Piece
all_pieces s [] = []
all_pieces s (e ∷ es) = pieces s e ++ all_pieces s es

-- no CR byte is ever written
abbrev pub NeverCR : Type 0
NeverCR = (ps : List Piece) → AllFit ps → NoCR (render ps)
