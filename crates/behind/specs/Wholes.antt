-- Bytes that can be passed in parts: no tag and no line end goes on in the next part. Definitions.
-- Assumes nothing.
use Rattle.std.specs.Prelude.{◌≡◌, ℕ, Bool, true, false, cond, List, [], ◌∷◌, ◌==◌}

-- a `>` is among them
unfoldable pub has_end : List ℕ → Bool
has_end [] = false
has_end (b ∷ s) = cond (b == 62) true (has_end s)

-- each tag that starts in them ends in them
abbrev pub Whole : List ℕ → Type 0
Whole [] = Unit
Whole (b ∷ s) = (b ≡ 60 → has_end s ≡ true) × Whole s

-- the last of them is a CR
unfoldable pub ends_in_return : List ℕ → Bool
ends_in_return [] = false
ends_in_return (b ∷ []) = b == 13
ends_in_return (b ∷ (c ∷ s)) = ends_in_return (c ∷ s)
