use Rattle.closings.proofs.Sections.{ask_programs, ask_strings, part_programs, part_strings, ask_tags, ask_sections, bound_as}
use borrow.Author.Rules.{rules}
use Rattle.closings.proofs.bound.Goals as goal

-- src/lib.rt:37:9
pub used-c-requires : goal.used-c-requires
used-c-requires c = search (ask_programs, rules)

-- src/lib.rt:38:9
pub used-d-requires : goal.used-d-requires
used-d-requires c = search (ask_strings, rules)

-- src/lib.rt:46:9
pub slice_bounds-seal-end-3 : goal.slice_bounds-seal-end-3
slice_bounds-seal-end-3 c = search (part_programs, rules)

-- src/lib.rt:47:9
pub slice_bounds-seal-end-4 : goal.slice_bounds-seal-end-4
slice_bounds-seal-end-4 c = search (part_strings, rules)

-- src/lib.rt:39:5
pub seal-requires : goal.seal-requires
seal-requires c = search (ask_tags, ask_sections, rules)

-- src/lib.rt:18:1
pub returns : goal.returns
returns c = search (bound_as, rules)
