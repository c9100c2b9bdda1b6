-- What the tokens of a kind can be in a program of a visit. Assumes nothing.
use Rattle.std.specs.Prelude.{Bool, true, false, ◌&&◌, ◌||◌, ℕ, eqb}
use Rattle.programs.specs.Limits.{Visit, is_first, is_second}
use Rattle.notation.specs.Tokens.{plain, left, right, ECHO, ECHO-OFF, REJECT, Keyword, Sign}
use Rattle.lexemes.specs.Kinds.{mark_number, word_number, sign_number}

abbrev pub is_word : Keyword → ℕ → Bool
is_word w k = eqb k (word_number w)

abbrev pub is_sign : Sign → ℕ → Bool
is_sign s k = eqb k (sign_number s)

-- an attribute that may be assigned: $.a, in a first visit $[.a, in a second $].a
abbrev pub is_target : Visit → ℕ → Bool
is_target v k = eqb k (mark_number plain) || (eqb k (mark_number left) && is_first v || eqb k (mark_number right) && is_second v)

-- a value or an attribute that may be read: besides these, in a second visit $[.a
abbrev pub is_operand : Visit → ℕ → Bool
is_operand v k = eqb k 1 || (is_target v k || eqb k (mark_number left) && is_second v)

-- reject; in a first visit ECHO and ECHO_OFF
abbrev pub is_plain : Visit → ℕ → Bool
is_plain v k = is_word REJECT k || (is_word ECHO k || is_word ECHO-OFF k) && is_first v

-- <t> and </t>, of two bytes; <t/> and strings, of four
abbrev pub is_short_item : ℕ → Bool
is_short_item k = eqb k 6 || eqb k 7

abbrev pub is_long_item : ℕ → Bool
is_long_item k = eqb k 8 || eqb k 9
