-- Fronts at their bounds: a token as it is spelled, a number that no token has, and a token of 33 bytes.
-- Assumes nothing.
use mathlib.Core.Path.{◌≡◌, refl}
use mathlib.Core.Bool.{true, false}
use mathlib.Core.Logic.{inl, inr}
use mathlib.Core.List.{List, [], ◌∷◌, ◌++◌}
use Prim.Native.Nat.{ℕ, zero, suc, ◌≤◌}
use native.Mathlib.Omega.{arith}
use lib.ListN.{length, get_or, take, drop, replicate}
use Rattle.text.specs.Chars.{Char, Begins, utf8}
use Rattle.text.specs.Names.{name_byte, All}
use Rattle.text.specs.Numerals.{Base, decimal, hex, digit_value, Digits, value_of}
use Rattle.text.proofs.Shapes.{cons≢[]}
use Rattle.tokens.specs.declared.Event.{Event}
use Rattle.tokens.specs.declared.Event.TheVariants.{Character}
use Rattle.tokens.specs.declared.Answer.TheVariants.{Bad, Long}
use Rattle.tokens.specs.Tokens.{start, crlf, cr, Tok, tag, numeric, line, char, Good, bytes, front, Means}
use Rattle.tokens.proofs.Theory.{begins_only, no_line}
use Rattle.tokens.proofs.Reading.{begins_length, char_bad}
use Rattle.text.proofs.Decoding.{bad_lead, bad3_surrogate}
use Rattle.tokens.proofs.Numerals.{counted_none, opened_decimal, opened_hex, number_other, number_past}
use Rattle.runs.specs.Examples.{Each}
use Rattle.edges.specs.Edges.{no_digit, over_last, over_32_bits, tag_of_33_bytes, of_fronts}
use Rattle.edges.proofs.Fits.{FirstToken, EdgeFits}

letters : (n : ℕ) → All name_byte (replicate n 97)
letters zero = tt
letters (suc n) = (refl, letters n)

-- a character from the space on
from_space : {c : ℕ} → 0x20 ≤ c → c ≤ 0xD7FF → Char c
from_space l h = inr (inr (inr (inl (l, h))))

-- FF begins no character, and neither does a surrogate
lead_bad : Means (front (0xFF ∷ []) 0) 0 Bad
lead_bad = char_bad (0xFF ∷ []) 0 (omega arith) (λ e. omega arith) (λ e. omega arith) (λ e. omega arith) (λ e. omega arith) (bad_lead 0xFF [] (omega arith) (inr (omega arith)))

surrogate_bad : Means (front (0xED ∷ 0xBF ∷ []) 0) 0 Bad
surrogate_bad =
    char_bad (0xED ∷ 0xBF ∷ []) 0 (omega arith) (λ e. omega arith) (λ e. omega arith) (λ e. omega arith) (λ e. omega arith)
    (bad3_surrogate 0xED 0xBF [] (omega arith) (omega arith) (omega arith) (omega arith) (omega arith))

-- EE 80 80 is E000
first_behind : FirstToken (0xEE ∷ 0x80 ∷ 0x80 ∷ []) (Character 0xE000 true) 3
unfolding utf8
first_behind = record {
  token = char 0xE000;
  rest = [];
  good = (inr (inr (inr (inr (inl (omega arith, omega arith))))), (λ e. omega arith), (λ e. omega arith), (λ e. omega arith), (λ e. omega arith));
  are_bytes = refl;
  followed = tt;
  event = refl;
  taken = refl;
}

-- : is no digit
colon_bad : Means (front no_digit 0) 0 Bad
colon_bad =
    number_other no_digit 0 2 10 (opened_decimal no_digit (omega arith) refl refl (λ e. omega arith)) 2 0 (counted_none no_digit 2 10 (omega arith)) (omega arith) 16 refl (omega arith) (λ e. omega arith)

-- the last digit takes the number past the last character
over_bad : Means (front over_last 0) 0 Bad
over_bad =
    number_past over_last 0 3 16 (opened_hex over_last (omega arith) refl refl refl) 8 (value_of hex (take 5 (drop 3 over_last)))
    (record { run = take 5 (drop 3 over_last); pass = (refl, (refl, (refl, (refl, (refl, tt))))); split = refl; count = refl; within = omega arith; value = refl; small = omega arith })
    (omega arith) (digit_value (get_or over_last 8 0)) refl (omega arith) (omega arith)

-- the seventh of its digits does
wrapped_bad : Means (front over_32_bits 0) 0 Bad
wrapped_bad =
    number_past over_32_bits 0 2 10 (opened_decimal over_32_bits (omega arith) refl refl (λ e. omega arith)) 8 (value_of decimal (take 6 (drop 2 over_32_bits)))
    (record { run = take 6 (drop 2 over_32_bits); pass = (refl, (refl, (refl, (refl, (refl, (refl, tt)))))); split = refl; count = refl; within = omega arith; value = refl; small = omega arith })
    (omega arith) (digit_value (get_or over_32_bits 8 0)) refl (omega arith) (omega arith)

-- a front of 32 bytes that begins a tag of 33
abbrev of_33 : Tok
of_33 = tag start (replicate 31 97) []

long_tag : Means (front tag_of_33_bytes 0) 0 Long
long_tag =
    let f : List ℕ = front tag_of_33_bytes 0 in
    let ok : Good of_33 = ((refl, letters 30), tt) in
    let b : Begins f (bytes of_33) = (62 ∷ [], refl, cons≢[]) in
    (begins_only f of_33 ok (no_line of_33 crlf refl) b, (of_33, ok, b), λ t k h. omega (arith, begins_length f (bytes t) h))

-- a reference by number that is the whole front
by_number : {s : List ℕ} {e : Event} {k : ℕ} (c : Base) (ds : List ℕ) → Digits c ds → Char (value_of c ds) → front s 0 ≡ bytes (numeric c ds) ++ [] →
    e ≡ Character (value_of c ds) false → k ≡ length (bytes (numeric c ds)) → FirstToken s e k
by_number c ds d n b e k = record { token = numeric c ds; rest = []; good = (d, n); are_bytes = b; followed = tt; event = e; taken = k }

pub fronts_fit : Each EdgeFits of_fronts
fronts_fit = (
  record { token = line crlf; rest = 120 ∷ []; good = tt; are_bytes = refl; followed = tt; event = refl; taken = refl },
  (
    record { token = line cr; rest = 120 ∷ []; good = tt; are_bytes = refl; followed = λ e. omega arith; event = refl; taken = refl },
    (
      by_number decimal (54 ∷ 52 ∷ []) (refl, (refl, tt)) (from_space (omega arith) (omega arith)) refl refl refl,
      (
        by_number hex (52 ∷ 48 ∷ []) (refl, (refl, tt)) (from_space (omega arith) (omega arith)) refl refl refl,
        (
          by_number decimal (53 ∷ 56 ∷ []) (refl, (refl, tt)) (from_space (omega arith) (omega arith)) refl refl refl,
          (
            by_number hex (49 ∷ 48 ∷ 70 ∷ 70 ∷ 70 ∷ 70 ∷ []) (refl, (refl, (refl, (refl, (refl, (refl, tt)))))) (inr (inr (inr (inr (inr (omega arith, omega arith)))))) refl refl refl,
            (
              first_behind,
              (
                (Bad, lead_bad, λ more. refl),
                (
                  (Bad, surrogate_bad, λ more. refl),
                  (
                    (Bad, colon_bad, λ more. refl),
                    (
                      (Bad, over_bad, λ more. refl),
                      (
                        (Bad, wrapped_bad, λ more. refl),
                        (
                          record { token = tag start (replicate 30 97) []; rest = []; good = ((refl, letters 29), tt); are_bytes = refl; followed = tt; event = refl; taken = refl },
                          ((Long, long_tag, λ more. refl), tt),
                        ),
                      ),
                    ),
                  ),
                ),
              ),
            ),
          ),
        ),
      ),
    ),
  ),
)
