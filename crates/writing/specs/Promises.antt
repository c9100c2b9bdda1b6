-- What is promised of rules written as a sheet. Assumes nothing.
use Rattle.std.specs.Prelude.{◌≡◌, List, ℕ}
use Rattle.writing.specs.Written.{WrittenAs}

-- any two answers allowed are equal
abbrev pub OneWriting : Type 0
OneWriting = (text area : List ℕ) (m n j k : ℕ) (x y : List ℕ) → WrittenAs text area m j x → WrittenAs text area n k y → (m ≡ n) × (j ≡ k) × (x ≡ y)
