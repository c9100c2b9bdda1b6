-- Lines and columns, as people are told them: what ends a line, which bytes start a character, and the place behind the bytes that a file begins with. Definitions.
-- Assumes nothing.
use Rattle.std.specs.Prelude.{◌≡◌, ℕ, zero, suc, ◌+◌, ◌-◌, ◌^◌, ◌<◌, ◌≤◌, Bool, false, cond, not, ◌&&◌, ◌||◌, List, [], ◌∷◌, ◌++◌, length, drop, ◌==◌, nat_le, nat_lt, slice_index}
use Rattle.places.specs.declared.Place.{Place}

-- a character's second, third or fourth byte (RFC 3629, section 3): 80 to BF
abbrev pub goes_on : ℕ → Bool
goes_on b = nat_le 0x80 b && nat_lt b 0xC0

-- an LF comes first
abbrev pub line_feed_first : List ℕ → Bool
line_feed_first [] = false
line_feed_first (b ∷ s) = b == 10

-- a line ends with the byte b, behind which the bytes s come: an LF, or a CR with no LF behind it
unfoldable pub ends_line : ℕ → List ℕ → Bool
ends_line b s = b == 10 || (b == 13 && not (line_feed_first s))

-- how many of some bytes keep a test of a byte and of the bytes behind it
unfoldable pub how_many : (ℕ → List ℕ → Bool) → List ℕ → ℕ
how_many test [] = 0
how_many test (b ∷ s) = cond (test b s) 1 0 + how_many test s

-- how many lines end in some bytes
abbrev pub line_ends : List ℕ → ℕ
line_ends s = how_many ends_line s

-- the bytes behind the last line's end
unfoldable pub last_line : List ℕ → List ℕ
last_line [] = []
last_line (b ∷ s) = cond (line_ends (b ∷ s) == 0) (b ∷ s) (last_line s)

-- the last line starts at r
pub record LastLineAt (s : List ℕ) (r : ℕ) : Type 0 where
  pub within : r ≤ length s
  pub line : drop r s ≡ last_line s

-- a character starts with the byte b, whatever comes behind it
abbrev pub starts : ℕ → List ℕ → Bool
starts b s = not (goes_on b)

-- how many characters start in some bytes
abbrev pub characters_in : List ℕ → ℕ
characters_in s = how_many starts s

-- how many bytes at the start keep a test
unfoldable pub leading : (ℕ → Bool) → List ℕ → ℕ
leading test [] = 0
leading test (b ∷ s) = cond (test b) (1 + leading test s) 0

-- they are r
pub record LeadingIs (test : ℕ → Bool) (s : List ℕ) (r : ℕ) : Type 0 where
  pub within : r ≤ length s
  pub count : r ≡ leading test s

-- a character that starts before some bytes goes on for r of them
abbrev pub GoesOnTo : List ℕ → ℕ → Type 0
GoesOnTo s r = LeadingIs goes_on s r

-- a byte of a line that is not its end's: neither LF nor CR
abbrev pub in_line : ℕ → Bool
in_line b = not (b == 10 || b == 13)

-- the line that some bytes begin with, or go on with, has r of them before its end
abbrev pub LineGoesTo : List ℕ → ℕ → Type 0
LineGoesTo s r = LeadingIs in_line s r

-- where the character starts that the byte i is of: it is sought in k bytes, from i backwards. Where none starts in them it is n
unfoldable pub character_start : List ℕ → ℕ → ℕ → ℕ → ℕ
character_start s n zero i = n
character_start s n (suc k) i = cond (goes_on (slice_index s i)) (character_start s n k (i - 1)) i

-- as many of the first n bytes as cut no character: one has 4 bytes at most
unfoldable pub uncut : List ℕ → ℕ → ℕ
uncut s n = cond (nat_lt n (length s)) (character_start s n 4 n) (length s)

-- they are r
pub record UncutIs (s : List ℕ) (n r : ℕ) : Type 0 where
  pub within : r ≤ length s
  pub most : r ≤ n
  pub same : r ≡ uncut s n

-- the place behind the bytes s that a file begins with: line and column are counted from 1, the column in characters
pub record PlaceIs (s : List ℕ) (p : Place) : Type 0 where
  pub offset : p.offset ≡ length s
  pub line : p.line ≡ 1 + line_ends s
  pub column : p.column ≡ 1 + characters_in (last_line s)

-- where p is the place behind some bytes that a file begins with, and `line` the line behind v more of them, r is the place behind v; no number begins again from 0
abbrev pub Passes : Place → List ℕ → ℕ → Place → Type 0
Passes p v line r =
    (u : List ℕ) → length (u ++ v) + 1 < 2 ^ 64 → PlaceIs u p → line ≡ 1 + line_ends (u ++ v) → PlaceIs (u ++ v) r
