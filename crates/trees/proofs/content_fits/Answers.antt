use Prim.Native.Nat.{◌<◌}
use native.Mathlib.Omega.{arith}
use Rattle.layout.specs.Layout.{production_count}
use Rattle.trees.proofs.Parses.{content_none, content_bad, content_told}
use Rattle.trees.proofs.content_fits.Goals as goal

-- `content_fits`: a production has its expression where it has no nodes, or where the tree at its first node ends at its last.
-- Assumes nothing.
pub returns-then-nodes-eq0 : goal.returns-then-nodes-eq0
returns-then-nodes-eq0 c = content_none c.args.s.now c.args.q _ c.node_count_of-nodes.ensures.is c.if-nodes-eq0.true

pub parse-requires : goal.parse-requires
parse-requires c =
    let h : c.args.q < production_count c.args.s.now = omega (arith, c.requires.laid_out.layout_is.productions_is) in
    record { laid_out = c.requires.laid_out; left_bound = omega (arith, c.requires.runs_inside.inside c.args.q h, c.requires.laid_out.layout_is.nodes_is, c.first_node_of-first.ensures, c.node_count_of-nodes.ensures) }

pub returns-in_default : goal.returns-in_default
returns-in_default c = content_bad _ _ _ c.node_count_of-nodes.ensures.is c.if-nodes-eq0.false _ c.first_node_of-first.ensures.is (rw c.in_default.is at c.parse.ensures)

pub returns : goal.returns
returns c = content_told _ _ _ c.node_count_of-nodes.ensures.is c.if-nodes-eq0.false _ c.first_node_of-first.ensures.is _ (rw c.in-Some.is at c.parse.ensures)
