-- The characters of XML 1.0 and their bytes in UTF-8 (RFC 3629), and what `decode` answers in terms of them. Definitions.
-- Assumes nothing.
use Rattle.std.specs.Prelude.{ℕ, ◌+◌, ◌/◌, ◌%◌, ◌≤◌, ◌≡◌, ◌⊎◌, Bool, true, false, List, [], ◌∷◌, ◌++◌, length, ltb}
use Rattle.text.specs.declared.Decoded.{Decoded}
use Rattle.text.specs.declared.Decoded.TheVariants.{Whole, Begun, Bad}

-- from a to b, both included
abbrev pub In : ℕ → ℕ → ℕ → Type 0
In a c b = (a ≤ c) × (c ≤ b)

-- XML 1.0, production 2: #x9 | #xA | #xD | [#x20-#xD7FF] | [#xE000-#xFFFD] | [#x10000-#x10FFFF]
abbrev pub Char : ℕ → Type 0
Char c = (c ≡ 0x9) ⊎ ((c ≡ 0xA) ⊎ ((c ≡ 0xD) ⊎ (In 0x20 c 0xD7FF ⊎ (In 0xE000 c 0xFFFD ⊎ In 0x10000 c 0x10FFFF))))

-- what `is_char` answers
abbrev pub CharIs : ℕ → Bool → Type 0
CharIs c true = Char c
CharIs c false = Char c → ⊥

-- the first list where the test holds, else the second
abbrev pub pick : Bool → List ℕ → List ℕ → List ℕ
pick true a b = a
pick false a b = b

-- RFC 3629, section 3: the bytes of a character. 64 is six bits, 4096 twelve, 262144 eighteen
unfoldable pub utf8 : ℕ → List ℕ
utf8 c =
    pick (ltb c 0x80) (c ∷ [])
    (pick (ltb c 0x800) ((0xC0 + c / 64) ∷ (0x80 + c % 64) ∷ [])
    (pick (ltb c 0x10000) ((0xE0 + c / 4096) ∷ (0x80 + c / 64 % 64) ∷ (0x80 + c % 64) ∷ [])
    ((0xF0 + c / 262144) ∷ (0x80 + c / 4096 % 64) ∷ (0x80 + c / 64 % 64) ∷ (0x80 + c % 64) ∷ [])))

-- f starts with w
abbrev pub Starts : List ℕ → List ℕ → Type 0
Starts f w = (v : List ℕ) × (f ≡ w ++ v)

-- f begins w: f is w without one byte or more of its end
abbrev pub Begins : List ℕ → List ℕ → Type 0
Begins f w = (v : List ℕ) × (w ≡ f ++ v) × (v ≡ [] → ⊥)

-- neither of the two goes on to the other, so f neither starts with w nor begins it
abbrev pub Apart : List ℕ → List ℕ → Type 0
Apart f w = (v u : List ℕ) → f ++ v ≡ w ++ u → ⊥

-- what `decode` answers of the bytes f
--     Whole c n   f starts with the character c, which takes n bytes
--     Begun       f begins a character
--     Bad         f neither starts with a character nor begins one
abbrev pub DecodedIs : List ℕ → Decoded → Type 0
DecodedIs f (Whole c n) = Char c × Starts f (utf8 c) × (n ≡ length (utf8 c))
DecodedIs f Begun = (c : ℕ) × Char c × Begins f (utf8 c)
DecodedIs f Bad = (c : ℕ) → Char c → Apart f (utf8 c)
