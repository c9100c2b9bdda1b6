use mathlib.Core.Path.{refl}
use native.Mathlib.Omega.{arith}
use Rattle.ways.proofs.Spots.{spot_there}
use Rattle.ways.proofs.Ends.{grounded, atom_none, atom_into, atom_across}
use Rattle.ways.proofs.way_to_atom.Goals as goal

-- `way_to_atom`: a production with no nodes has no atom; else a walk over its tree, from the empty string.
-- Assumes nothing.
pub returns-then-nodes-eq0 : goal.returns-then-nodes-eq0
returns-then-nodes-eq0 c =
    record { atom_way_is = atom_none _ _ _ c.node_count_of-nodes.ensures.is (grounded c.requires.laid_out c.requires.trees c.requires.follows_s c.requires.q_lt_productions c.requires.q_bound) c.if-nodes-eq0.true _ c.requires.most_brackets_in_bounds _ _; line_len_unchanged = refl }

pub into-requires : goal.into-requires
into-requires c =
    let n = c.node_count_of-nodes.ensures.is in
    let g = grounded c.requires.laid_out c.requires.trees c.requires.follows_s c.requires.q_lt_productions c.requires.q_bound in
    record { laid_out = c.requires.laid_out; spot_in = spot_there _ _ _ n c.if-nodes-eq0.false _ c.first_node_of-first.ensures.is refl refl refl g.trees c.requires.runs_inside g.there g.small; nodes_bound = omega (arith, n, c.requires.q_bound) }

pub returns-then-p-eq0 : goal.returns-then-p-eq0
returns-then-p-eq0 c =
    record { atom_way_is = atom_into _ _ _ c.node_count_of-nodes.ensures.is (grounded c.requires.laid_out c.requires.trees c.requires.follows_s c.requires.q_lt_productions c.requires.q_bound) c.if-nodes-eq0.false _ c.first_node_of-first.ensures.is refl refl refl _ c.requires.most_brackets_in_bounds _ _ c.if-p-eq0.true _ _ c.into.ensures; line_len_unchanged = omega (arith, c.into.ensures.kept.long) }

pub across-requires : goal.across-requires
across-requires c =
    let n = c.node_count_of-nodes.ensures.is in
    let g = grounded c.requires.laid_out c.requires.trees c.requires.follows_s c.requires.q_lt_productions c.requires.q_bound in
    record { laid_out = c.requires.laid_out; spot_in = spot_there _ _ _ n c.if-nodes-eq0.false _ c.first_node_of-first.ensures.is refl refl refl g.trees c.requires.runs_inside g.there g.small; nodes_bound = omega (arith, n, c.requires.q_bound) }

pub returns : goal.returns
returns c =
    record { atom_way_is = atom_across _ _ _ c.node_count_of-nodes.ensures.is (grounded c.requires.laid_out c.requires.trees c.requires.follows_s c.requires.q_lt_productions c.requires.q_bound) c.if-nodes-eq0.false _ c.first_node_of-first.ensures.is refl refl refl _ c.requires.most_brackets_in_bounds _ _ c.if-p-eq0.false _ _ c.across.ensures; line_len_unchanged = omega (arith, c.across.ensures.kept.long) }
