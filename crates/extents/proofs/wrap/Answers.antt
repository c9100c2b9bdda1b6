use Rattle.extents.proofs.Parts.{among_sized, then_sized, else_sized, wrapped_as}
use borrow.Author.Rules.{rules}
use Rattle.extents.proofs.wrap.Goals as goal

-- Each answer by the law that it names. Assumes nothing.
pub in_turn-requires : goal.in_turn-requires
in_turn-requires c = record { small_extent = among_sized _ _ c.in-Among.is c.requires.layer_under; small_extent_2 = c.requires.small_extent }

pub branch-c-requires : goal.branch-c-requires
branch-c-requires c = record { small_extent = then_sized _ _ c.in-Then.is c.requires.layer_under; small_extent_2 = c.requires.small_extent; small_extent_3 = search rules }

pub branch-c-requires-in-Else : goal.branch-c-requires-in-Else
branch-c-requires-in-Else c = let g = else_sized _ _ _ c.in-Else.is c.requires.layer_under in record { small_extent = g.0; small_extent_2 = g.1; small_extent_3 = c.requires.small_extent }

pub returns-in-Among : goal.returns-in-Among
returns-in-Among c = wrapped_as _ _ _ _ c.in-Among.is c.in_turn.ensures

pub returns-in-Then : goal.returns-in-Then
returns-in-Then c = wrapped_as _ _ _ _ c.in-Then.is c.branch-c.ensures

pub returns-in-Else : goal.returns-in-Else
returns-in-Else c = wrapped_as _ _ _ _ c.in-Else.is c.branch-c-in-Else.ensures
