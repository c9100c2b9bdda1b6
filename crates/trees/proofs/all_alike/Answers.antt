use mathlib.Core.Path.{◌∙◌}
use native.Mathlib.Omega.{arith}
use Rattle.trees.proofs.Alikes.{none_counted, room_left, counted_one, all_counted}
use Rattle.trees.proofs.all_alike.Goals as goal

pub loop-q-init : goal.loop-q-init
loop-q-init c = none_counted _ _ c.requires.zeros

pub one_alike-requires : goal.one_alike-requires
one_alike-requires c = record { known_len = c.loop-q.auto.known ∙ c.requires.known_len; room_for_one = room_left _ _ _ c.loop-q.invariant (omega arith) }

pub loop-q-preserved : goal.loop-q-preserved
loop-q-preserved c =
    counted_one _ _ _ _ _ _ c.loop-q.invariant c.nonterminal_of-m.ensures.is c.tag_number_of-t.ensures.is c.one_alike.ensures

pub returns : goal.returns
returns c =
    all_counted _ _ _ c.loop-q.invariant (omega (arith, c.requires.laid_out.layout_is.productions_is)) (c.loop-q.auto.known ∙ c.requires.known_len)
