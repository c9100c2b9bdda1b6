use mathlib.Core.Path.{sym}
use Prim.Native.Nat.{◌*◌}
use native.Mathlib.Omega.{arith}
use lib.Seq.{length-take-le}
use Rattle.dtds.proofs.Settled.{settled_amid, settled_passed, settled_none, can_seal_tags, can_seal_sections, settled_sealed}
use Rattle.dtds.proofs.settle.Goals as goal

pub returns-in-Some : goal.returns-in-Some
returns-in-Some c =
    settled_passed c.args.text.now c.args.area.now c.args.s c.args.names.now c.args.nameends.now c.args.tags.now c.args.tagends.now c.args.productions.now c.args.nodes.now c.requires c.if-s.true _ c.in-Some.is

pub returns-then-tally-eq0 : goal.returns-then-tally-eq0
returns-then-tally-eq0 c =
    settled_none c.args.text.now c.args.area.now c.args.s c.args.names.now c.args.nameends.now c.args.tags.now c.args.tagends.now c.args.productions.now c.args.nodes.now c.requires c.if-s.true c.in_default.is c.if-tally-eq0.true

pub slice_bounds-seal-end : goal.slice_bounds-seal-end
slice_bounds-seal-end c =
    sym (length-take-le (12 * c.args.s.docket.tally.productions) c.args.productions.now (omega (arith, c.requires.small.few_productions, c.requires.rooms.section_room.production_room)))

pub slice_bounds-seal-end-then-s : goal.slice_bounds-seal-end-then-s
slice_bounds-seal-end-then-s c =
    sym (length-take-le (6 * c.args.s.docket.tally.nodes) c.args.nodes.now (omega (arith, c.requires.small.few_nodes, c.requires.rooms.section_room.node_room)))

pub seal-o-requires : goal.seal-o-requires
seal-o-requires c =
    record { tag_rows = can_seal_tags c.args.text.now c.args.area.now c.args.s c.args.names.now c.args.nameends.now c.args.tags.now c.args.tagends.now c.args.productions.now c.args.nodes.now c.requires c.if-s.true c.in_default.is c.if-tally-eq0.false; sections_fit = can_seal_sections c.args.text.now c.args.area.now c.args.s c.args.names.now c.args.nameends.now c.args.tags.now c.args.tagends.now c.args.productions.now c.args.nodes.now c.requires c.if-s.true c.in_default.is c.if-tally-eq0.false }

pub returns-then-s : goal.returns-then-s
returns-then-s c =
    settled_sealed c.args.text.now c.args.area.now c.args.s c.args.names.now c.args.nameends.now c.args.tags.now c.args.tagends.now c.args.productions.now c.args.nodes.now c.requires c.if-s.true c.in_default.is c.if-tally-eq0.false _ c.seal-o.result c.seal-o.ensures

pub returns : goal.returns
returns c =
    settled_amid c.args.text.now c.args.area.now c.args.s c.args.names.now c.args.nameends.now c.args.tags.now c.args.tagends.now c.args.productions.now c.args.nodes.now c.requires c.if-s.false
