-- The extent of what is put together is that of its parts put together. Assumes nothing.
use mathlib.Core.Path.{◌≡◌, refl, sym, ◌∙◌, ap, ap₂}
use mathlib.Core.Option.{Option, none, some}
use mathlib.Core.List.{List, [], ◌∷◌, ◌++◌}
use Prim.Native.Nat.{ℕ, zero, suc, ◌+◌, ◌-◌, ◌≤◌, max}
use native.Mathlib.Omega.{arith}
use lib.ListN.{length, length-append}
use Rattle.programs.specs.Program.{Operand, constant, current, recalled, Condition, equal, negated, both, either, condition_bytes, program_bytes, statement_bytes}
use Rattle.programs.specs.Limits.{condition_nesting, nesting, statement_nesting}
use Rattle.notation.specs.Program.{TextStatement, branch, TextProgram, done, step, ◌then◌, program_in, statement_in}
use Rattle.notation.specs.Limits.{size_of, nesting_of}
use Rattle.notation.specs.Statements.{only, assigned}
use Rattle.reading.specs.Conditions.{negated_by, disjoined, conjoined}
use Rattle.reading.proofs.ConditionSize.{equal_size}
use Rattle.reading.proofs.StatementSize.{then_size, then_nesting, at_least_one}
use Rattle.outlines.specs.Extents.{Extent, extent, condition_extent, program_extent, comparison, paired, behind_nots, vacant, unnested, in_turn, branching}
use Rattle.outlines.specs.Conditions.{extent_if, paired_with}

same : {a b c d : ℕ} → a ≡ c → b ≡ d → extent a b ≡ extent c d
same e f = ap₂ extent e f

pub equal_extent : (x y : Operand) → condition_extent (equal x y) ≡ comparison
equal_extent x y = same (equal_size x y) refl

both_extent : (c d : Condition) → condition_extent (both c d) ≡ paired (condition_extent c) (condition_extent d)
both_extent c d = same (ap suc (length-append (condition_bytes c) (condition_bytes d))) refl

either_extent : (c d : Condition) → condition_extent (either c d) ≡ paired (condition_extent c) (condition_extent d)
either_extent c d = same (ap suc (length-append (condition_bytes c) (condition_bytes d))) refl

pub nots_extent : (k : ℕ) (c : Condition) → condition_extent (negated_by k c) ≡ behind_nots k (condition_extent c)
nots_extent zero c = same (omega arith) (omega arith)
nots_extent (suc k) c = nots_extent k (negated c) ∙ same (omega arith) (omega arith)

pub or_extent : (o : Option Condition) (d : Condition) → condition_extent (disjoined o d) ≡ paired_with (extent_if o) (condition_extent d)
or_extent none d = refl
or_extent (some c) d = either_extent c d

pub and_extent : (o : Option Condition) (d : Condition) → condition_extent (conjoined o d) ≡ paired_with (extent_if o) (condition_extent d)
and_extent none d = refl
and_extent (some c) d = both_extent c d

pub size_extent : (p : TextProgram) → size_of p ≡ suc (program_extent p).bytes
size_extent p = omega (arith, at_least_one p)

pub then_extent : (p q : TextProgram) → program_extent (p then q) ≡ in_turn (program_extent p) (program_extent q)
then_extent p q = same (omega (arith, then_size p q, at_least_one p, at_least_one q)) (then_nesting p q)

branch_size : (c : Condition) (p q : TextProgram) → size_of (only (branch c p q)) ≡ 2 + (length (condition_bytes c) + (size_of p + size_of q))
branch_size c p q = simp length-append (omega arith)

pub branch_extent : (c : Condition) (p q : TextProgram) → program_extent (only (branch c p q)) ≡ branching (condition_extent c) (program_extent p) (program_extent q)
branch_extent c p q = same (omega (arith, branch_size c p q, at_least_one p, at_least_one q)) (omega arith)

pub assigned_extent : (a : ℕ) (x : Operand) → program_extent (only (assigned a x)) ≡ unnested 3
assigned_extent a (constant v) = refl
assigned_extent a (current b) = refl
assigned_extent a (recalled b) = refl
