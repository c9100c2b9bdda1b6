use native.Mathlib.Omega.{arith}
use Rattle.sheet.specs.Defect.{its_size, its_sections}
use Rattle.tells.proofs.Laws.{told, not_told}
use Rattle.layout.proofs.Laws.{laid_out}
use Rattle.sheet.proofs.defect.Goals as goal

-- The bounds are number 1; with them and number 2 the layout is that of a sheet whose parts can be tested.
pub returns-then-s-lt24 : goal.returns-then-s-lt24
returns-then-s-lt24 c = its_size (λ h. let a = h.least in let b = c.if-s-lt24.true in omega arith)

pub returns-then-s-gt27928 : goal.returns-then-s-gt27928
returns-then-s-gt27928 c = its_size (λ h. let a = h.most in let b = c.if-s-gt27928.true in omega arith)

pub returns-then-not-keeps_sections : goal.returns-then-not-keeps_sections
returns-then-not-keeps_sections c = its_sections (record { least = c.if-s-lt24.false; most = c.if-s-gt27928.false }) (not_told c.keeps_sections.ensures c.if-not-keeps_sections.true)

pub defect_of_parts-requires : goal.defect_of_parts-requires
defect_of_parts-requires c = laid_out c.layout_of-l.ensures (record { least = c.if-s-lt24.false; most = c.if-s-gt27928.false }) (told c.keeps_sections.ensures c.if-not-keeps_sections.false)
