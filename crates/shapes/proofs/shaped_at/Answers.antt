use Rattle.shapes.proofs.Walks.{production_there}
use Rattle.shapes.proofs.Telling.{shaped_told}
use Rattle.shapes.proofs.shaped_at.Goals as goal

-- The test of what is read of the production is the definition's.
-- Assumes nothing.
pub returns : goal.returns
returns c =
    shaped_told c.args.s.now c.args.start c.args.n c.args.t c.args.r c.args.q (production_there c.args.s.now c.args.l c.requires.laid_out c.args.q c.requires.q_lt_productions) _ _ _ _ _ _
    c.nonterminal_of-nonterminal.ensures.is c.tag_number_of-tag.ensures.is c.star_over-over.ensures c.eq.ensures c.names-named.ensures c.names-record_named.ensures
