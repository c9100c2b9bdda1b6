-- How long a condition or a program is and how deep if, not, and, or nest in it; and both for what is put together of parts.
-- Assumes nothing.
use Rattle.std.specs.Prelude.{ℕ, suc, ◌+◌, ◌-◌, ◌≤◌, max, length}
use Rattle.limits.specs.Limits.{longest_program, deepest_program}
use Rattle.programs.specs.Program.{Condition, condition_bytes}
use Rattle.programs.specs.Limits.{condition_nesting}
use Rattle.notation.specs.Program.{TextProgram}
use Rattle.notation.specs.Limits.{size_of, nesting_of}

pub record Extent : Type 0 where
  pub bytes : ℕ
  pub nested : ℕ

abbrev pub extent : ℕ → ℕ → Extent
extent b n = record { bytes = b; nested = n }

abbrev pub condition_extent : Condition → Extent
condition_extent c = extent (length (condition_bytes c)) (condition_nesting c)

-- without the closing 0
abbrev pub program_extent : TextProgram → Extent
program_extent p = extent (size_of p - 1) (nesting_of p)

-- x = y
abbrev pub comparison : Extent
comparison = extent 5 0

-- c and d, c or d
abbrev pub paired : Extent → Extent → Extent
paired c d = extent (suc (c.bytes + d.bytes)) (suc (max c.nested d.nested))

-- c with so many nots in front
abbrev pub behind_nots : ℕ → Extent → Extent
behind_nots k c = extent (k + c.bytes) (k + c.nested)

-- no statement
abbrev pub vacant : Extent
vacant = extent 0 0

-- a statement that nests nothing, of so many bytes
abbrev pub unnested : ℕ → Extent
unnested b = extent b 0

-- p, and q behind it
abbrev pub in_turn : Extent → Extent → Extent
in_turn p q = extent (p.bytes + q.bytes) (max p.nested q.nested)

-- if c then p else q: 10, and the closing 0 of either branch
abbrev pub branching : Extent → Extent → Extent → Extent
branching c p q = extent (3 + (c.bytes + (p.bytes + q.bytes))) (suc (max c.nested (max p.nested q.nested)))

-- of a program that keeps its limits
pub record ExtentWithin (e : Extent) : Type 0 where
  pub short : suc e.bytes ≤ longest_program
  pub shallow : e.nested ≤ deepest_program
