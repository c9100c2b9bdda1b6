use Rattle.layout.specs.Layout.{node_count}
use Rattle.layout.specs.Records.{first_program_of_node, second_program_of_node}
use Rattle.hoards.proofs.Laws.{EachLeft}
use Rattle.hoards.proofs.keep_nodes.Given as goal

-- The loop is stated by what is left: the records from i on, behind all whose strings are kept.
abbrev pub invariant-loop-i : goal.invariant-loop-i
invariant-loop-i l =
    EachLeft l.s (first_program_of_node l.s) (second_program_of_node l.s) (node_count l.s) l.initial.bytes l.initial.ends l.count l.i l.n l.bytes l.ends
