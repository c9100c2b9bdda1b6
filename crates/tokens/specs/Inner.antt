-- What the reader's inner functions answer: runs of bytes that pass a test, words, digits, and a token that is cut off. Definitions.
-- Assumes nothing.
use Rattle.std.specs.Prelude.{ℕ, ◌+◌, ◌≤◌, ◌<◌, ◌^◌, ◌≡◌, Bool, true, false, List, [], ◌∷◌, ◌++◌, length, get_or, drop, ltb}
use Rattle.limits.specs.Limits.{longest_token}
use Rattle.text.specs.Chars.{Char, Starts, Begins, Apart}
use Rattle.text.specs.Names.{All}
use Rattle.text.specs.Numerals.{Base, decimal, radix, digit_below, value_from}
use Rattle.tokens.specs.Tokens.{base_mark}
use Rattle.tokens.specs.declared.Word.{Word}
use Rattle.tokens.specs.declared.Word.TheVariants.{Whole, No}
use Rattle.tokens.specs.declared.Answer.{Answer}
use Rattle.tokens.specs.declared.Answer.TheVariants.{Long}

-- f is a front at `at`: 32 bytes at most, and no place in it is past what a number can hold
pub record Front (f : List ℕ) (at : ℕ) : Type 0 where
  pub short : length f ≤ longest_token
  pub fits : at + length f < 2 ^ 64

-- the first byte, if there is one, does not pass
abbrev pub Stops : (ℕ → Bool) → List ℕ → Type 0
Stops p [] = Unit {0}
Stops p (x ∷ l) = p x ≡ false

-- the bytes of f from `at` on that pass, up to `to`, where they stop
pub record PassUpTo (p : ℕ → Bool) (f : List ℕ) (at to : ℕ) : Type 0 where
  pub run : List ℕ
  pub pass : All p run
  pub split : drop at f ≡ run ++ drop to f
  pub count : at + length run ≡ to
  pub within : to ≤ length f
  pub stops : Stops p (drop to f)

-- what `compare` answers
abbrev pub WordIs : List ℕ → List ℕ → Word → Type 0
WordIs f w Whole = Starts f w
WordIs f w Word.Begun = Begins f w
WordIs f w No = Apart f w

abbrev pub pick_answer : Bool → Answer → Answer → Answer
pick_answer true a b = a
pick_answer false a b = b

-- what a front is that a token was cut off from, where the shortest such token has n bytes and one more
abbrev pub cut_at : ℕ → Answer
cut_at n = pick_answer (ltb n longest_token) Answer.Begun Long

-- f starts with what opens a reference by number, its digits are of the base r, and they come next, from `from` on
pub record OpensNumeric (f : List ℕ) (from r : ℕ) : Type 0 where
  pub base : Base
  pub radix_is : r ≡ radix base
  pub place : from ≡ 2 + length (base_mark base)
  pub opened : f ≡ 38 ∷ 35 ∷ (base_mark base ++ drop from f)
  pub no_mark : base ≡ decimal → (from < length f) × (get_or f from 0 ≡ 120 → ⊥)

-- the fewest digits that, after those which name n, come to a number of Char, are k
pub record Fewest (r n k : ℕ) : Type 0 where
  pub digits : List ℕ
  pub are_digits : All (digit_below r) digits
  pub name_one : Char (value_from r n digits)
  pub many : length digits ≡ k
  pub fewest : (ds : List ℕ) → All (digit_below r) ds → Char (value_from r n ds) → k ≤ length ds
