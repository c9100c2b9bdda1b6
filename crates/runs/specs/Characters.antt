-- The characters that bytes spell in UTF-8, where the bytes are whole characters.
-- Assumes nothing.
use Rattle.std.specs.Prelude.{List, [], ◌∷◌, ℕ, zero, suc, ◌+◌, ◌-◌, ◌*◌, ltb}
use Rattle.text.specs.Chars.{pick}

-- `bits` is what has been read of a character of which so many bytes are still to come: a byte below 80 is a character, one from C0, E0 or F0 on
-- starts one of two, three or four bytes, and each later byte adds its six bits
abbrev pub characters_from : ℕ → ℕ → List ℕ → List ℕ
characters_from later bits [] = []
characters_from zero bits (b ∷ bs) =
    pick (ltb b 0x80) (b ∷ characters_from 0 0 bs)
    (pick (ltb b 0xE0) (characters_from 1 (b - 0xC0) bs)
    (pick (ltb b 0xF0) (characters_from 2 (b - 0xE0) bs) (characters_from 3 (b - 0xF0) bs)))
characters_from (suc zero) bits (b ∷ bs) = (bits * 64 + (b - 0x80)) ∷ characters_from 0 0 bs
characters_from (suc (suc later)) bits (b ∷ bs) = characters_from (suc later) (bits * 64 + (b - 0x80)) bs

abbrev pub characters_of : List ℕ → List ℕ
characters_of bs = characters_from 0 0 bs
