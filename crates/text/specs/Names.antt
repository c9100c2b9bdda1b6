-- The bytes of names and of white space. Definitions.
-- Assumes nothing.
use Rattle.std.specs.Prelude.{ℕ, ◌≡◌, Bool, true, ◌&&◌, ◌||◌, List, [], ◌∷◌, leb, eqb}

-- [A-Za-z_]
abbrev pub name_first : ℕ → Bool
name_first b = (leb 65 b && leb b 90) || ((leb 97 b && leb b 122) || eqb b 95)

-- [A-Za-z0-9_.-]
abbrev pub name_byte : ℕ → Bool
name_byte b = name_first b || ((leb 48 b && leb b 57) || (eqb b 46 || eqb b 45))

-- space, tab, CR, LF
abbrev pub blank : ℕ → Bool
blank b = eqb b 32 || (eqb b 9 || (eqb b 13 || eqb b 10))

-- every byte passes
abbrev pub All : (ℕ → Bool) → List ℕ → Type 0
All p [] = Unit {0}
All p (x ∷ l) = (p x ≡ true) × All p l

-- [A-Za-z_][A-Za-z0-9_.-]*
abbrev pub Name : List ℕ → Type 0
Name [] = ⊥
Name (x ∷ n) = (name_first x ≡ true) × All name_byte n
