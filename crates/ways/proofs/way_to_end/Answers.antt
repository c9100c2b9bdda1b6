use mathlib.Core.Path.{refl}
use native.Mathlib.Omega.{arith}
use Rattle.ways.proofs.Spots.{spot_there}
use Rattle.ways.proofs.Ends.{grounded, end_empty, end_missing, end_through, end_out}
use Rattle.ways.proofs.way_to_end.Goals as goal

-- `way_to_end`: a production with no nodes has the empty string alone; else a walk over its tree, from the empty string.
-- Assumes nothing.
pub returns-then-p-eq0 : goal.returns-then-p-eq0
returns-then-p-eq0 c =
    record { end_way_is = end_empty _ _ _ c.node_count_of-nodes.ensures.is (grounded c.requires.laid_out c.requires.trees c.requires.follows_s c.requires.q_lt_productions c.requires.q_bound) c.if-nodes-eq0.true _ c.requires.most_brackets_in_bounds _ c.if-p-eq0.true; line_len_unchanged = refl }

pub returns-then-nodes-eq0 : goal.returns-then-nodes-eq0
returns-then-nodes-eq0 c =
    record { end_way_is = end_missing _ _ _ c.node_count_of-nodes.ensures.is (grounded c.requires.laid_out c.requires.trees c.requires.follows_s c.requires.q_lt_productions c.requires.q_bound) c.if-nodes-eq0.true _ c.requires.most_brackets_in_bounds _ c.if-p-eq0.false; line_len_unchanged = refl }

pub through-requires : goal.through-requires
through-requires c =
    let n = c.node_count_of-nodes.ensures.is in
    let g = grounded c.requires.laid_out c.requires.trees c.requires.follows_s c.requires.q_lt_productions c.requires.q_bound in
    record { laid_out = c.requires.laid_out; spot_in = spot_there _ _ _ n c.if-nodes-eq0.false _ c.first_node_of-first.ensures.is refl refl refl g.trees c.requires.runs_inside g.there g.small; nodes_bound = omega (arith, n, c.requires.q_bound) }

pub returns-then-p-eq0-2 : goal.returns-then-p-eq0-2
returns-then-p-eq0-2 c =
    record { end_way_is = end_through _ _ _ c.node_count_of-nodes.ensures.is (grounded c.requires.laid_out c.requires.trees c.requires.follows_s c.requires.q_lt_productions c.requires.q_bound) c.if-nodes-eq0.false _ c.first_node_of-first.ensures.is refl refl refl _ c.requires.most_brackets_in_bounds _ c.if-p-eq0-2.true _ _ c.through.ensures; line_len_unchanged = omega (arith, c.through.ensures.kept.long) }

pub out_of-requires : goal.out_of-requires
out_of-requires c =
    let n = c.node_count_of-nodes.ensures.is in
    let g = grounded c.requires.laid_out c.requires.trees c.requires.follows_s c.requires.q_lt_productions c.requires.q_bound in
    record { laid_out = c.requires.laid_out; spot_in = spot_there _ _ _ n c.if-nodes-eq0.false _ c.first_node_of-first.ensures.is refl refl refl g.trees c.requires.runs_inside g.there g.small; nodes_bound = omega (arith, n, c.requires.q_bound) }

pub returns : goal.returns
returns c =
    record { end_way_is = end_out _ _ _ c.node_count_of-nodes.ensures.is (grounded c.requires.laid_out c.requires.trees c.requires.follows_s c.requires.q_lt_productions c.requires.q_bound) c.if-nodes-eq0.false _ c.first_node_of-first.ensures.is refl refl refl _ c.requires.most_brackets_in_bounds _ c.if-p-eq0-2.false _ _ c.out_of.ensures; line_len_unchanged = omega (arith, c.out_of.ensures.kept.long) }
