-- What memory holds that was filled with one byte.
-- Assumes nothing.
use Rattle.std.specs.Prelude.{◌≡◌, List, [], ◌∷◌, ℕ}

-- every byte is b
abbrev pub AllAre : ℕ → List ℕ → Type 0
AllAre b [] = Unit {0}
AllAre b (x ∷ l) = (x ≡ b) × AllAre b l
