-- The tag that a name of the stream is, and the run's token of a token of the stream.
-- Assumes nothing.
use Rattle.std.specs.Prelude.{Bool, true, false, ◌&&◌, List, [], ◌∷◌, ℕ, eqb, take, drop}
use Rattle.std.proofs.Math.Option.{Option, none}
use Rattle.text.specs.Numerals.{value_of}
use Rattle.tokens.specs.Tokens.{start, end, empty, Tok, tag, ref, numeric, line, char, stands}
use Rattle.tokens.specs.declared.Event.{Event}
use Rattle.tokens.specs.declared.Event.TheVariants.{Start, End, Empty, Character}
use Rattle.sheet.specs.Sheet.{Sheet}
use Rattle.runs.specs.Lookup.{or_later}
use Rattle.runs.specs.Spells.{Token, start_token, end_token, empty_token, literal, reference}

-- names are compared by bytes
abbrev pub same_name : List ℕ → List ℕ → Bool
same_name [] [] = true
same_name [] (y ∷ m) = false
same_name (x ∷ n) [] = false
same_name (x ∷ n) (y ∷ m) = eqb x y && same_name n m

-- the number of the tag with this name, and none where the sheet has no such tag. A sheet's names all differ, so the first is the only one
abbrev pub tag_named : List (List ℕ) → List ℕ → Option ℕ
tag_named [] n = none
tag_named (m ∷ ms) n = or_later (same_name m n) (tag_named ms n)

-- the run's token of a character, by whether it stood there itself
abbrev pub character_token : (literally : Bool) → ℕ → Token
character_token true c = literal c
character_token false c = reference c

-- the run's token of a token as it is spelled. A line end is the character LF, and literal
abbrev pub token_for : Sheet → Tok → Token
token_for a (tag start n b) = start_token (tag_named a.names n)
token_for a (tag end n b) = end_token (tag_named a.names n)
token_for a (tag empty n b) = empty_token (tag_named a.names n)
token_for a (ref x) = reference (stands x)
token_for a (numeric k ds) = reference (value_of k ds)
token_for a (line x) = literal 10
token_for a (char c) = literal c

abbrev pub tokens_for : Sheet → List Tok → List Token
tokens_for a [] = []
tokens_for a (t ∷ ts) = token_for a t ∷ tokens_for a ts

-- the same of an event that the reader answers in s: a tag's name is the bytes at the event's place
abbrev pub token_of : Sheet → List ℕ → Event → Token
token_of a s (Start from len) = start_token (tag_named a.names (take len (drop from s)))
token_of a s (End from len) = end_token (tag_named a.names (take len (drop from s)))
token_of a s (Empty from len) = empty_token (tag_named a.names (take len (drop from s)))
token_of a s (Character c literally) = character_token literally c
