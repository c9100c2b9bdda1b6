use native.Mathlib.Omega.{arith}
use Rattle.layout.proofs.Laws.{sections_told}
use Rattle.layout.proofs.keeps_sections.Goals as goal

-- Sums of the trailer's numbers fit, as each is below 65,536. The tests, joined, tell number 2.
pub overflow_add-l-3 : goal.overflow_add-l-3
overflow_add-l-3 c = record { fits = omega (arith, c.requires) }

pub overflow_add-l-4 : goal.overflow_add-l-4
overflow_add-l-4 c = record { fits = omega (arith, c.requires) }

pub overflow_add-trailer : goal.overflow_add-trailer
overflow_add-trailer c = record { fits = omega (arith, c.requires) }

pub overflow_add-trailer-2 : goal.overflow_add-trailer-2
overflow_add-trailer-2 c = record { fits = omega (arith, c.requires) }

pub returns : goal.returns
returns c =
    sections_told c.requires c.follows-tags.ensures c.follows-productions.ensures c.follows-nodes.ensures c.follows-programs.ensures
    c.follows-strings.ensures
