-- What is read in a stream by whether more is to come, a run of tokens there, and the name that a tag's event points at. Definitions.
-- Assumes nothing.
use Rattle.std.specs.Prelude.{ℕ, ◌+◌, ◌≤◌, ◌≡◌, Bool, true, false, List, [], ◌∷◌, ◌++◌, length, take, drop}
use Rattle.limits.specs.Limits.{longest_token}
use Rattle.text.specs.Names.{blank, All, Name}
use Rattle.tokens.specs.declared.Event.{Event}
use Rattle.tokens.specs.declared.Event.TheVariants.{Start, End, Empty, Character}
use Rattle.tokens.specs.declared.Answer.{Answer}
use Rattle.tokens.specs.declared.Answer.TheVariants.{Token, Waiting, Begun, Bad, Long}
use Rattle.tokens.specs.Tokens.{Kind, crlf, cr, Tok, tag, ref, numeric, line, char, opening_bytes, bytes, Good, event_of, front, Means}

-- what a caller makes of an answer, by whether more is to come: what waits is begun while more is to come, and a token where nothing is
abbrev pub settled : (more_to_come : Bool) → Answer → Answer
settled more (Token e next) = Token e next
settled true (Waiting e next) = Begun
settled false (Waiting e next) = Token e next
settled more Begun = Begun
settled more Bad = Bad
settled more Long = Long

-- what is read at `at`, so settled; it never waits
abbrev pub ReadAs : (more_to_come : Bool) → List ℕ → ℕ → Answer → Type 0
ReadAs more s at a = (b : Answer) × Means (front s at) at b × (a ≡ settled more b)

-- reading s from `at` gives these events, one token after the other, and comes to `to`
abbrev pub Reads : (more_to_come : Bool) → List ℕ → ℕ → List Event → ℕ → Type 0
Reads more s at [] to = at ≡ to
Reads more s at (e ∷ es) to = (next : ℕ) × ReadAs more s at (Token e (record { at = next })) × Reads more s next es to

-- the bytes of a list of tokens
abbrev pub flat : List Tok → List ℕ
flat [] = []
flat (t ∷ ts) = bytes t ++ flat ts

-- each is a token
abbrev pub AllGood : List Tok → Type 0
AllGood [] = Unit {0}
AllGood (t ∷ ts) = Good t × AllGood ts

-- each has at most 32 bytes
abbrev pub AllShort : List Tok → Type 0
AllShort [] = Unit {0}
AllShort (t ∷ ts) = (length (bytes t) ≤ longest_token) × AllShort ts

-- t is the token where these bytes follow it: behind a CR alone comes a byte other than LF, or nothing, now or later
abbrev pub Followed : (more_to_come : Bool) → Tok → List ℕ → Type 0
Followed more (tag k n b) rest = Unit {0}
Followed more (ref x) rest = Unit {0}
Followed more (numeric k ds) rest = Unit {0}
Followed more (line crlf) rest = Unit {0}
Followed more (line cr) [] = more ≡ false
Followed more (line cr) (x ∷ rest) = x ≡ 10 → ⊥
Followed more (char c) rest = Unit {0}

-- each is the token where the next ones follow it, and then the bytes `rest`
abbrev pub AllWhole : (more_to_come : Bool) → List Tok → (rest : List ℕ) → Type 0
AllWhole more [] rest = Unit {0}
AllWhole more (t ∷ ts) rest = Followed more t (flat ts ++ rest) × AllWhole more ts rest

-- the events of tokens that stand one after the other from `at` on
abbrev pub events_at : ℕ → List Tok → List Event
events_at at [] = []
events_at at (t ∷ ts) = event_of at t ∷ events_at (at + length (bytes t)) ts

-- a tag of this kind stands at `at`, and its name is the len bytes from `from` on
pub record NameAt (k : Kind) (s : List ℕ) (at from len : ℕ) : Type 0 where
  pub name : List ℕ
  pub gap : List ℕ
  pub is_name : Name name
  pub is_gap : All blank gap
  pub place : from ≡ at + length (opening_bytes k)
  pub long : len ≡ length name
  pub within : from + len ≤ length s
  pub same : take len (drop from s) ≡ name
  pub tagged : drop at s ≡ bytes (tag k name gap) ++ drop (at + length (bytes (tag k name gap))) s

-- an event, and an answer, of a part that stands n bytes into the stream
abbrev pub moved_event : ℕ → Event → Event
moved_event n (Start from len) = Start (n + from) len
moved_event n (End from len) = End (n + from) len
moved_event n (Empty from len) = Empty (n + from) len
moved_event n (Character c literal) = Character c literal

abbrev pub moved : ℕ → Answer → Answer
moved n (Token e next) = Token (moved_event n e) (record { at = n + next.at })
moved n (Waiting e next) = Waiting (moved_event n e) (record { at = n + next.at })
moved n Begun = Begun
moved n Bad = Bad
moved n Long = Long
