-- Rules written as a sheet into lent memory: the number, the count that goes with it, and what the memory then holds. Assumes nothing.
use Rattle.std.specs.Prelude.{List, ◌++◌, ℕ, ◌≤◌, ◌<◌, length, drop}
use Rattle.notation.specs.Rules.{Rules}
use Rattle.notation.specs.RuleText.{RuleText}
use Rattle.notation.specs.Refusal.{ByteOf40}
use Rattle.encoding.specs.Encoded.{Room}
use Rattle.packing.specs.Packed.{sheet_bytes}
use Rattle.writing.specs.TooMany.{ByteOf41}

-- 40 with the byte at which the text is refused; 41 with the byte at which there is no room in a sheet; 43 with the length needed; 0 with the length written,
-- and then every byte past it is as lent. With any other number all bytes are
pub data WrittenAs (text area : List ℕ) : ℕ → ℕ → List ℕ → Type 0 where
  no_rules : {k : ℕ} → ByteOf40 text k → WrittenAs text area 40 k area
  too_many : {k : ℕ} (r : Rules) → RuleText text r → (Room r → ⊥) → ByteOf41 text r k → WrittenAs text area 41 k area
  too_short : (r : Rules) → RuleText text r → Room r → length area < length (sheet_bytes r) → WrittenAs text area 43 (length (sheet_bytes r)) area
  written : (r : Rules) → RuleText text r → Room r → length (sheet_bytes r) ≤ length area → WrittenAs text area 0 (length (sheet_bytes r)) (sheet_bytes r ++ drop (length (sheet_bytes r)) area)
