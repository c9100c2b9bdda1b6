-- Declarations written as a sheet into lent memory: the number, the count that goes with it, and what the memory then holds. Assumes nothing.
use Rattle.std.specs.Prelude.{List, ◌++◌, ℕ, ◌≤◌, ◌<◌, length, drop}
use Rattle.packing.specs.Packed.{sheet_bytes}
use Rattle.models.specs.Models.{Declaration}
use Rattle.models.specs.Answers.{declares, refuses, ReadModels}
use Rattle.declaring.specs.Rules.{rules_of_dtd}

-- 50 to 56 with the byte that goes with it; 43 with the length needed; 0 with the length written, and then every byte past it is as lent.
-- With any other number all bytes are
pub data DeclaredAs (text area : List ℕ) : ℕ → ℕ → List ℕ → Type 0 where
  refused : {n k : ℕ} → ReadModels text (refuses n k) → DeclaredAs text area n k area
  too_short : (ds : List Declaration) → ReadModels text (declares ds) → length area < length (sheet_bytes (rules_of_dtd ds)) → DeclaredAs text area 43 (length (sheet_bytes (rules_of_dtd ds))) area
  written : (ds : List Declaration) → ReadModels text (declares ds) → length (sheet_bytes (rules_of_dtd ds)) ≤ length area
      → DeclaredAs text area 0 (length (sheet_bytes (rules_of_dtd ds))) (sheet_bytes (rules_of_dtd ds) ++ drop (length (sheet_bytes (rules_of_dtd ds))) area)
