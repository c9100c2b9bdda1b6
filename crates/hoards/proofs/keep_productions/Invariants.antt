use Rattle.layout.specs.Layout.{production_count}
use Rattle.layout.specs.Records.{first_program_of, second_program_of}
use Rattle.hoards.proofs.Laws.{EachLeft}
use Rattle.hoards.proofs.keep_productions.Given as goal

-- The loop is stated by what is left: the records from q on, behind all whose strings are kept.
abbrev pub invariant-loop-q : goal.invariant-loop-q
invariant-loop-q l =
    EachLeft l.s (first_program_of l.s) (second_program_of l.s) (production_count l.s) l.initial.bytes l.initial.ends l.count l.q l.n l.bytes l.ends
