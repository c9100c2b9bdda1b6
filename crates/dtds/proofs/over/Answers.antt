use mathlib.Core.Path.{sym, ◌∙◌}
use native.Mathlib.Omega.{arith}
use Rattle.scans.proofs.Gaps.{read_first}
use Rattle.dtds.proofs.Strides.{byte_halted, byte_onward, at_end}
use Rattle.dtds.proofs.over.Goals as goal

pub loop-at-init : goal.loop-at-init
loop-at-init c =
    read_first c.args.text.now c.fresh-s.result _ _ _ _ _ _ c.fresh-s.ensures c.requires

pub stride-s-requires : goal.stride-s-requires
stride-s-requires c = record { at_in_bounds = omega arith; read_up_to = c.loop-at.invariant }

pub shape_of-names-in-Some : goal.shape_of-names-in-Some
shape_of-names-in-Some c = c.stride-s.ensures.rooms.name_room.room ∙ sym c.requires.name_room.room

pub shape_of-nameends-in-Some : goal.shape_of-nameends-in-Some
shape_of-nameends-in-Some c = c.stride-s.ensures.rooms.name_room.places ∙ sym c.requires.name_room.places

pub shape_of-tags-in-Some : goal.shape_of-tags-in-Some
shape_of-tags-in-Some c = c.stride-s.ensures.rooms.tag_room.room ∙ sym c.requires.tag_room.room

pub shape_of-tagends-in-Some : goal.shape_of-tagends-in-Some
shape_of-tagends-in-Some c = c.stride-s.ensures.rooms.tag_room.places ∙ sym c.requires.tag_room.places

pub shape_of-productions-in-Some : goal.shape_of-productions-in-Some
shape_of-productions-in-Some c = c.stride-s.ensures.rooms.section_room.production_room ∙ sym c.requires.section_room.production_room

pub shape_of-nodes-in-Some : goal.shape_of-nodes-in-Some
shape_of-nodes-in-Some c = c.stride-s.ensures.rooms.section_room.node_room ∙ sym c.requires.section_room.node_room

pub returns-in-Some : goal.returns-in-Some
returns-in-Some c =
    byte_halted c.args.text.now c.loop-at.at c.stride-s.result _ _ _ _ _ _ c.args.area.now c.stride-s.ensures _ c.in-Some.is

pub loop-at-preserved : goal.loop-at-preserved
loop-at-preserved c =
    byte_onward c.args.text.now c.loop-at.at c.stride-s.result _ _ _ _ _ _ c.stride-s.ensures c.in_default.is

pub settle-requires : goal.settle-requires
settle-requires c =
    at_end c.args.text.now c.loop-at.at c.loop-at.s _ _ _ _ _ _ (omega arith) c.loop-at.invariant

pub shape_of-names : goal.shape_of-names
shape_of-names c = c.loop-at.invariant.rooms.name_room.room ∙ sym c.requires.name_room.room

pub shape_of-nameends : goal.shape_of-nameends
shape_of-nameends c = c.loop-at.invariant.rooms.name_room.places ∙ sym c.requires.name_room.places

pub shape_of-tags : goal.shape_of-tags
shape_of-tags c = c.loop-at.invariant.rooms.tag_room.room ∙ sym c.requires.tag_room.room

pub shape_of-tagends : goal.shape_of-tagends
shape_of-tagends c = c.loop-at.invariant.rooms.tag_room.places ∙ sym c.requires.tag_room.places

pub shape_of-productions : goal.shape_of-productions
shape_of-productions c = c.loop-at.invariant.rooms.section_room.production_room ∙ sym c.requires.section_room.production_room

pub shape_of-nodes : goal.shape_of-nodes
shape_of-nodes c = c.loop-at.invariant.rooms.section_room.node_room ∙ sym c.requires.section_room.node_room

pub returns : goal.returns
returns c = c.settle.ensures
