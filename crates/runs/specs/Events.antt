-- Events, and the tags of the elements that they leave open.
-- Assumes nothing.
use Rattle.std.specs.Prelude.{List, [], ◌∷◌, ℕ}
use Rattle.std.proofs.Math.Option.{Option}

-- a tag is its number, and none where the sheet has no tag of that name
pub data Event : Type 0 where
  starts : Option ℕ → Event  -- a start tag
  ends : Option ℕ → Event  -- an end tag
  letter : ℕ → Event  -- a character

abbrev pub OpenTags : Type 0
OpenTags = List (Option ℕ)

abbrev pub without_first : OpenTags → OpenTags
without_first [] = []
without_first (t ∷ ts) = ts

-- the tags of the open elements, innermost first, after the events from when ts were open
abbrev pub open_after : OpenTags → List Event → OpenTags
open_after ts [] = ts
open_after ts (starts t ∷ xs) = open_after (t ∷ ts) xs
open_after ts (ends t ∷ xs) = open_after (without_first ts) xs
open_after ts (letter c ∷ xs) = open_after ts xs

abbrev pub open_tags : List Event → OpenTags
open_tags xs = open_after [] xs
