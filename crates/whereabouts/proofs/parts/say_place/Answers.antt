use Rattle.words.proofs.Laws.{found_inside}
use Rattle.whereabouts.proofs.parts.say_place.Goals as goal

-- The atom that was found is a node of the sheet.
pub say_atom-requires : goal.say_atom-requires
say_atom-requires c =
    record { laid_out = c.requires.laid_out; i_lt_nodes = found_inside c.args.p c.requires.laid_out c.requires.runs_inside c.requires.q_lt_productions (rw c.in-Some.is at c.node_of_atom.ensures) }
