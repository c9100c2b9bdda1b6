use mathlib.Core.Path.{◌≡◌, sym, ◌∙◌, subst}
use Rattle.stages.specs.declared.Fate.{Fate}
use Rattle.scans.specs.Scans.{ByteRead}
use Rattle.scans.proofs.Declaration.{may_note, rooms_now, byte_on, byte_deep, byte_refused, may_conclude, rooms_over, byte_over}
use borrow.Author.Rules.{rules}
use Rattle.scans.proofs.amid.Goals as goal

pub note-k-requires : goal.note-k-requires
note-k-requires c =
    may_note c.args.text.now c.args.at c.args.b c.args.s _ _ _ _ _ _ c.requires.in_text c.requires.out_value c.name_end-end.result c.name_end-end.ensures

pub overflow_cast-filed : goal.overflow_cast-filed
overflow_cast-filed c = search (c.note-k.ensures.small.number_small, rules)

pub shape_of-names-in-On : goal.shape_of-names-in-On
shape_of-names-in-On c = c.note-k.ensures.name_room.room ∙ sym c.requires.in_text.up_to_lem.rooms.name_room.room

pub shape_of-nameends-in-On : goal.shape_of-nameends-in-On
shape_of-nameends-in-On c = c.note-k.ensures.name_room.places ∙ sym c.requires.in_text.up_to_lem.rooms.name_room.places

pub shape_of-tags-in-On : goal.shape_of-tags-in-On
shape_of-tags-in-On c = c.note-k.ensures.tag_room.room ∙ sym c.requires.in_text.up_to_lem.rooms.tag_room.room

pub shape_of-tagends-in-On : goal.shape_of-tagends-in-On
shape_of-tagends-in-On c = c.note-k.ensures.tag_room.places ∙ sym c.requires.in_text.up_to_lem.rooms.tag_room.places

pub returns-in-On : goal.returns-in-On
returns-in-On c =
    record {
      rooms = rooms_now c.args.text.now c.args.at c.args.b c.args.s _ _ _ _ _ _ c.requires.in_text c.requires.out_value c.name_end-end.result c.name_end-end.ensures c.note-k.result _ _ _ _ c.note-k.ensures;
      read = subst (ByteRead c.args.text.now c.args.at _ _ _ _ _ _) (sym c.weigh.ensures.is)
          (byte_on c.args.text.now c.args.at c.args.b c.args.s _ _ _ _ _ _ c.requires.in_text c.requires.out_value c.name_end-end.result c.name_end-end.ensures c.note-k.result _ _ _ _ c.note-k.ensures c.step-moved.result c.step-moved.ensures c.weigh.ensures.size c.in-On.is c.weigh.ensures.sized);
    }

pub conclude-more-requires : goal.conclude-more-requires
conclude-more-requires c =
    may_conclude c.args.text.now c.args.at c.args.b c.args.s _ _ _ _ _ _ c.requires.in_text c.requires.out_value c.name_end-end.result c.name_end-end.ensures c.note-k.result _ _ _ _ c.note-k.ensures c.step-moved.result c.step-moved.ensures c.in-Over.is

pub shape_of-names-in-Over : goal.shape_of-names-in-Over
shape_of-names-in-Over c = c.note-k.ensures.name_room.room ∙ sym c.requires.in_text.up_to_lem.rooms.name_room.room

pub shape_of-nameends-in-Over : goal.shape_of-nameends-in-Over
shape_of-nameends-in-Over c = c.note-k.ensures.name_room.places ∙ sym c.requires.in_text.up_to_lem.rooms.name_room.places

pub shape_of-tags-in-Over : goal.shape_of-tags-in-Over
shape_of-tags-in-Over c = c.note-k.ensures.tag_room.room ∙ sym c.requires.in_text.up_to_lem.rooms.tag_room.room

pub shape_of-tagends-in-Over : goal.shape_of-tagends-in-Over
shape_of-tagends-in-Over c = c.note-k.ensures.tag_room.places ∙ sym c.requires.in_text.up_to_lem.rooms.tag_room.places

pub returns-in-Over : goal.returns-in-Over
returns-in-Over c =
    let o : c.step-moved.result.fate ≡ Fate.Over = c.in-Over.is in
    record {
      rooms = rooms_over c.args.text.now c.args.at c.args.b c.args.s _ _ _ _ _ _ c.requires.in_text c.requires.out_value c.name_end-end.result c.name_end-end.ensures c.note-k.result _ _ _ _ c.note-k.ensures c.step-moved.result c.step-moved.ensures o _ _ c.conclude-more.result c.conclude-more.ensures;
      read = subst (ByteRead c.args.text.now c.args.at _ _ _ _ _ _) (sym c.standing.ensures) (byte_over c.args.text.now c.args.at c.args.b c.args.s _ _ _ _ _ _ c.requires.in_text c.requires.out_value c.name_end-end.result c.name_end-end.ensures c.note-k.result _ _ _ _ c.note-k.ensures c.step-moved.result c.step-moved.ensures o _ _ c.conclude-more.result c.conclude-more.ensures);
    }

pub shape_of-names-in-Refused : goal.shape_of-names-in-Refused
shape_of-names-in-Refused c = c.note-k.ensures.name_room.room ∙ sym c.requires.in_text.up_to_lem.rooms.name_room.room

pub shape_of-nameends-in-Refused : goal.shape_of-nameends-in-Refused
shape_of-nameends-in-Refused c = c.note-k.ensures.name_room.places ∙ sym c.requires.in_text.up_to_lem.rooms.name_room.places

pub shape_of-tags-in-Refused : goal.shape_of-tags-in-Refused
shape_of-tags-in-Refused c = c.note-k.ensures.tag_room.room ∙ sym c.requires.in_text.up_to_lem.rooms.tag_room.room

pub shape_of-tagends-in-Refused : goal.shape_of-tagends-in-Refused
shape_of-tagends-in-Refused c = c.note-k.ensures.tag_room.places ∙ sym c.requires.in_text.up_to_lem.rooms.tag_room.places

pub returns-in-Refused : goal.returns-in-Refused
returns-in-Refused c =
    record {
      rooms = rooms_now c.args.text.now c.args.at c.args.b c.args.s _ _ _ _ _ _ c.requires.in_text c.requires.out_value c.name_end-end.result c.name_end-end.ensures c.note-k.result _ _ _ _ c.note-k.ensures;
      read = subst (ByteRead c.args.text.now c.args.at _ _ _ _ _ _) (sym c.standing-in-Refused.ensures)
          (byte_refused c.args.text.now c.args.at c.args.b c.args.s _ _ _ _ _ _ c.requires.in_text c.requires.out_value c.name_end-end.result c.name_end-end.ensures c.note-k.result _ _ _ _ c.note-k.ensures c.step-moved.result c.step-moved.ensures c.wants_content-content.result c.number_at-number.result c.in-Refused.is c.wants_content-content.ensures c.number_at-number.ensures);
    }

pub shape_of-names-in-Deep : goal.shape_of-names-in-Deep
shape_of-names-in-Deep c = c.note-k.ensures.name_room.room ∙ sym c.requires.in_text.up_to_lem.rooms.name_room.room

pub shape_of-nameends-in-Deep : goal.shape_of-nameends-in-Deep
shape_of-nameends-in-Deep c = c.note-k.ensures.name_room.places ∙ sym c.requires.in_text.up_to_lem.rooms.name_room.places

pub shape_of-tags-in-Deep : goal.shape_of-tags-in-Deep
shape_of-tags-in-Deep c = c.note-k.ensures.tag_room.room ∙ sym c.requires.in_text.up_to_lem.rooms.tag_room.room

pub shape_of-tagends-in-Deep : goal.shape_of-tagends-in-Deep
shape_of-tagends-in-Deep c = c.note-k.ensures.tag_room.places ∙ sym c.requires.in_text.up_to_lem.rooms.tag_room.places

pub returns-in-Deep : goal.returns-in-Deep
returns-in-Deep c =
    record {
      rooms = rooms_now c.args.text.now c.args.at c.args.b c.args.s _ _ _ _ _ _ c.requires.in_text c.requires.out_value c.name_end-end.result c.name_end-end.ensures c.note-k.result _ _ _ _ c.note-k.ensures;
      read = subst (ByteRead c.args.text.now c.args.at _ _ _ _ _ _) (sym c.standing-in-Deep.ensures) (byte_deep c.args.text.now c.args.at c.args.b c.args.s _ _ _ _ _ _ c.requires.in_text c.requires.out_value c.name_end-end.result c.name_end-end.ensures c.note-k.result _ _ _ _ c.note-k.ensures c.step-moved.result c.step-moved.ensures c.in-Deep.is);
    }
