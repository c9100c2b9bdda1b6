use mathlib.Core.Path.{sym, ◌∙◌}
use native.Mathlib.Omega.{arith}
use borrow.Author.Count.{below_more}
use Rattle.wrong.proofs.Laws.{its_nonterminal, is_produced_lem, not_produced}
use Rattle.wrong.proofs.nodes.is_produced.Goals as goal

pub returns-then-small-n : goal.returns-then-small-n
returns-then-small-n c =
    is_produced_lem _ _ c.loop-q.q _ _ _ c.record_of.ensures c.small.ensures
    c.field_of-count.ensures (omega arith) c.if-small-n.true

pub loop-q-preserved : goal.loop-q-preserved
loop-q-preserved c =
    let at = c.loop-q in
    below_more _ _ at.invariant (λ size e. c.if-small-n.false (sym (its_nonterminal _ at.q _ _ c.record_of.ensures c.small.ensures size) ∙ e))

pub returns : goal.returns
returns c = not_produced _ _ c.loop-q.q _ c.field_of-count.ensures (omega arith) c.loop-q.invariant
