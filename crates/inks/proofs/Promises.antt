-- An ink holds the bytes of the program that the machine reads. Assumes nothing.
use mathlib.Core.Path.{sym, ◌∙◌, subst}
use Rattle.strokes.specs.Promises.{InksAre}
use Rattle.strokes.proofs.Promises.{starts_blank, tokens_draw, items_draw, seals_whole}
use Rattle.inks.specs.Held.{inks_in}
use Rattle.inks.specs.Promises.{StartsInked, PutsInked, ItemsInked, SealsInked, OnePage}

pub starts_inked : StartsInked
starts_inked tag offset i h = record { trim = h.trim; are = subst (InksAre tag offset _) (sym h.same) (starts_blank tag offset) }

pub puts_inked : PutsInked
puts_inked tag offset b q q' t i r h n f k e = record { trim = e.trim; are = subst (InksAre tag offset q') (sym e.same) (tokens_draw tag offset b q q' t (inks_in i) h.are n f k) }

pub items_inked : ItemsInked
items_inked tag offset b q q' t place i r h n f k e =
    record { trim = e.trim; are = subst (InksAre tag offset q') (sym e.same) (items_draw tag offset b q q' t place (inks_in i) h.are n f k) }

pub seals_inked : SealsInked
seals_inked tag offset q p i r h v e = e.text ∙ seals_whole tag offset q p (inks_in i) h.are v

pub one_page : OnePage
one_page xs r t h g = h.text ∙ sym g.text
