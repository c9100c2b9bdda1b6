-- What a host in C is answered in one number, of a call that answers a number of the table and a count: the number, below 256, and 256 times the count. Assumes nothing.
use Rattle.std.specs.Prelude.{◌≡◌, List, ℕ, ◌+◌, ◌*◌, ◌%◌}

-- a count of 2^56 bytes or more, which no machine has, begins again from 0
abbrev pub counts : ℕ
counts = 72057594037927936

-- Answers says what the call answers, and what the lent memory then holds
pub record CountedAs (Answers : ℕ → ℕ → List ℕ → Type 0) (after : List ℕ) (w : ℕ) : Type 0 where
  pub number : ℕ
  pub count : ℕ
  pub answers : Answers number count after
  pub packed : w ≡ 256 * (count % counts) + number

-- where any two answers of a call are equal, so are any two of these
abbrev pub OneCounted : Type 1
OneCounted =
    (Answers : ℕ → ℕ → List ℕ → Type 0) → ((m n j k : ℕ) (x y : List ℕ) → Answers m j x → Answers n k y → (m ≡ n) × (j ≡ k) × (x ≡ y)) →
    (x y : List ℕ) (v w : ℕ) → CountedAs Answers x v → CountedAs Answers y w → (x ≡ y) × (v ≡ w)
