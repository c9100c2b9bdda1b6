-- What the tag that some bytes begin with does to the elements that are open. Definitions.
-- Assumes nothing.
use Rattle.std.specs.Prelude.{ℕ, Bool, false, cond, List, [], ◌∷◌, ◌==◌, slice_index}

-- in the bytes behind the byte `last` a slash stands before the first `>`
unfoldable pub slash_before_end : ℕ → List ℕ → Bool
slash_before_end last [] = false
slash_before_end last (b ∷ s) = cond (b == 62) (last == 47) (slash_before_end b s)

-- an empty tag: a slash stands before its end
abbrev pub is_empty_tag : List ℕ → Bool
is_empty_tag s = slash_before_end 0 s

-- an end tag: a slash stands behind its first byte
abbrev pub is_end_tag : List ℕ → Bool
is_end_tag s = slice_index s 1 == 47

-- it opens an element, closes one, or does neither
abbrev pub kind_opening : ℕ
kind_opening = 1

abbrev pub kind_closing : ℕ
kind_closing = 2

abbrev pub kind_neither : ℕ
kind_neither = 0

-- a tag starts with `<`, and with no other byte: an empty one does neither, an end tag closes, any other opens
unfoldable pub tag_kind : List ℕ → ℕ
tag_kind s = cond (slice_index s 0 == 60) (cond (is_empty_tag s) kind_neither (cond (is_end_tag s) kind_closing kind_opening)) kind_neither
