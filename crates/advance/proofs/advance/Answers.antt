use mathlib.Core.Path.{refl, sym, ◌∙◌}
use Rattle.advance.proofs.Laws.{advanced_as, full_as}
use Rattle.advance.proofs.advance.Goals as goal

-- src/lib.rt:94:9
pub turn_ink-ink2-requires : goal.turn_ink-ink2-requires
turn_ink-ink2-requires c = c.requires.trim

-- src/lib.rt:47:1
pub shape_of-tags : goal.shape_of-tags
shape_of-tags c = c.in_ok-new.ensures.rowed.tag_room ∙ sym c.requires.rowed.tag_room

-- src/lib.rt:47:1
pub shape_of-tagends : goal.shape_of-tagends
shape_of-tagends c = c.in_ok-new.ensures.rowed.tag_places ∙ sym c.requires.rowed.tag_places

-- src/lib.rt:47:1
pub shape_of-strings : goal.shape_of-strings
shape_of-strings c = c.in_ok-new.ensures.rowed.string_room ∙ sym c.requires.rowed.string_room

-- src/lib.rt:47:1
pub shape_of-stringends : goal.shape_of-stringends
shape_of-stringends c = c.in_ok-new.ensures.rowed.string_places ∙ sym c.requires.rowed.string_places

-- src/lib.rt:47:1
pub shape_of-programs : goal.shape_of-programs
shape_of-programs c = c.in_ok-new.ensures.rowed.program_room ∙ sym c.requires.rowed.program_room

-- src/lib.rt:47:1
pub shape_of-programends : goal.shape_of-programends
shape_of-programends c = c.in_ok-new.ensures.rowed.program_places ∙ sym c.requires.rowed.program_places

-- src/lib.rt:47:1
pub returns : goal.returns
returns c =
    advanced_as c.args.d c.args.before c.args.behind _ c.args.kind c.args.number _ _ _ _ _ _ _ _ _ _ _ _ _ _ _ _ c.spot-here.result c.spot-there.result c.place_of-w.result _
    c.turn_past-past2.result c.turn-slip2.result c.turn_ink-ink2.result c.turn_bed-bed2.result c.requires c.turn_past-past2.auto.productions c.turn_past-past2.auto.nodes c.spot-here.ensures c.spot-there.ensures c.place_of-w.ensures c.in_ok-new.ensures c.turn_past-past2.ensures
    c.turn-slip2.ensures c.turn_ink-ink2.ensures c.turn_bed-bed2.ensures

pub returns-in_err-new : goal.returns-in_err-new
returns-in_err-new c = full_as _ _ _ _ _ _ _ _ _ _ _ _ _ _ _ _ _ _ _ _ _ _ _ c.requires refl refl c.from_residual.ensures c.in_err-new.ensures
