-- The bytes that a condition has so far while it is read, behind bytes xs. Assumes nothing.
use Rattle.std.proofs.Math.Option.{Option, none, some}
use Rattle.std.specs.Prelude.{List, [], ◌∷◌, ◌++◌, ℕ, length, replicate}
use Rattle.programs.specs.Program.{operand_bytes, Condition, condition_bytes}
use Rattle.reading.specs.Conditions.{ConditionLevel, condition_level, Reading, wants, compares, wants_other, after}

-- what stands left of an or, of an and; and all that stands left within one pair of parentheses
abbrev pub or_part : Option Condition → List ℕ
or_part none = []
or_part (some c) = 3 ∷ condition_bytes c

abbrev pub and_part : Option Condition → List ℕ
and_part none = []
and_part (some c) = 2 ∷ condition_bytes c

abbrev pub level_bytes : ConditionLevel → List ℕ
level_bytes l = or_part l.or_left ++ (and_part l.and_left ++ replicate l.nots 1)

-- the levels around, innermost first
abbrev pub levels_on : List ℕ → List ConditionLevel → List ℕ
levels_on xs [] = xs
levels_on xs (l ∷ ls) = levels_on xs ls ++ level_bytes l

abbrev pub reading_on : List ℕ → Reading → List ℕ
reading_on xs (wants l ls) = levels_on xs (l ∷ ls)
reading_on xs (compares x l ls) = levels_on xs (l ∷ ls) ++ 0 ∷ operand_bytes x
reading_on xs (wants_other x l ls) = levels_on xs (l ∷ ls) ++ 0 ∷ operand_bytes x
reading_on xs (after d o ls) = levels_on xs ls ++ (or_part o ++ condition_bytes d)

-- for each level the place of what an or would join, and of what an and would join
abbrev pub ors_on : List ℕ → List ConditionLevel → List ℕ
ors_on xs [] = []
ors_on xs (l ∷ ls) = length (levels_on xs ls) ∷ ors_on xs ls

abbrev pub ands_on : List ℕ → List ConditionLevel → List ℕ
ands_on xs [] = []
ands_on xs (l ∷ ls) = length (levels_on xs ls ++ or_part l.or_left) ∷ ands_on xs ls

abbrev pub levels_in : Reading → List ConditionLevel
levels_in (wants l ls) = l ∷ ls
levels_in (compares x l ls) = l ∷ ls
levels_in (wants_other x l ls) = l ∷ ls
levels_in (after d o ls) = condition_level o none 0 ∷ ls

-- what an operand would be: 2 a comparison's first, 3 its second
abbrev pub mode_of : Reading → ℕ
mode_of (wants l ls) = 2
mode_of (compares x l ls) = 3
mode_of (wants_other x l ls) = 3
mode_of (after d o ls) = 2
