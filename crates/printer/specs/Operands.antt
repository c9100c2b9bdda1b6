-- The text of the operand that two bytes of a program are. Assumes nothing.
use Rattle.std.specs.Prelude.{◌≡◌, cond, List, ◌∷◌, [], ◌++◌, ℕ, eqb, get_or}
use Rattle.programs.specs.Program.{Operand, operand_bytes}
use Rattle.notation.specs.Tokens.{decimal, token_bytes}
use Rattle.printed.specs.Conditions.{operand_token}

-- 0 v: a value; 1 a: $.a; 2 a: $[.a
abbrev pub operand_text_at : ℕ → ℕ → List ℕ
operand_text_at k v = cond (eqb k 0) (decimal v) (cond (eqb k 1) (36 ∷ 46 ∷ 97 ∷ [] ++ decimal v) (36 ∷ 91 ∷ 46 ∷ 97 ∷ [] ++ decimal v))

-- it is the operand's, as a condition or an assignment prints it
abbrev pub OperandsAreTheirs : Type 0
OperandsAreTheirs = (x : Operand) → operand_text_at (get_or (operand_bytes x) 0 0) (get_or (operand_bytes x) 1 0) ≡ token_bytes (operand_token x)
