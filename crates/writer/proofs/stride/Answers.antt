use mathlib.Core.Path.{◌∙◌}
use Rattle.writer.proofs.Walks.{here, reached, reach_last, strode_on, strode_stop}
use borrow.Author.Rules.{rules}
use Rattle.writer.proofs.stride.Goals as goal

-- src/lib.rt:113:14
pub overflow_add-at : goal.overflow_add-at
overflow_add-at c =
    let z = reached c.args.text.now c.args.w c.args.token _ _ _ _ _ _ _ _ c.requires.0 c.requires.1 in
    search (z, rules)

-- src/lib.rt:114:16
pub overflow_add-past : goal.overflow_add-past
overflow_add-past c =
    let z = reached c.args.text.now c.args.w c.args.token _ _ _ _ _ _ _ _ c.requires.0 c.requires.1 in
    search (z, rules)

-- src/lib.rt:119:9
pub slice_bounds-advance-count : goal.slice_bounds-advance-count
slice_bounds-advance-count c =
    let z = reached c.args.text.now c.args.w c.args.token _ _ _ _ _ _ _ _ c.requires.0 c.requires.1 in
    search (z, rules)

-- src/lib.rt:119:9
pub slice_bounds-advance-start : goal.slice_bounds-advance-start
slice_bounds-advance-start c =
    let z = reached c.args.text.now c.args.w c.args.token _ _ _ _ _ _ _ _ c.requires.0 c.requires.1 in
    search (z, rules)

-- src/lib.rt:115:9
pub advance-requires : goal.advance-requires
advance-requires c =
    (here c.args.text.now c.args.w c.args.token _ _ _ _ _ _ _ _ c.requires.0 c.requires.1).firmly

-- src/lib.rt:138:19
pub overflow_add-result : goal.overflow_add-result
overflow_add-result c =
    let z = reach_last c.args.text.now c.args.w c.args.token _ _ _ _ _ _ _ _ c.requires.0 c.requires.1 c.last_of-last.result c.last_of-last.ensures in
    search (z, rules)

-- a store was full
pub returns-in_default : goal.returns-in_default
returns-in_default c =
    let f = (here c.args.text.now c.args.w c.args.token _ _ _ _ _ _ _ _ c.requires.0 c.requires.1).firmly in
    let l = c.advance.auto in
    strode_stop c.args.text.now c.args.w c.args.token _ _ _ _ _ _ _ _ c.requires.0 c.requires.1 _ _ _ _ _ _ _ _ (record {
      tag_room = l.tags ∙ f.rowed.tag_room;
      tag_places = l.tagends ∙ f.rowed.tag_places;
      string_room = l.strings ∙ f.rowed.string_room;
      string_places = l.stringends ∙ f.rowed.string_places;
      program_room = l.programs ∙ f.rowed.program_room;
      program_places = l.programends ∙ f.rowed.program_places;
      production_room = l.productions ∙ f.production_room;
      node_room = l.nodes ∙ f.node_room;
    }) c.in_default.ensures c.last_of-last.result c.last_of-last.ensures

-- src/lib.rt:144:30
pub slice_bounds-look-count : goal.slice_bounds-look-count
slice_bounds-look-count c =
    let z = reached c.args.text.now c.args.w c.args.token _ _ _ _ _ _ _ _ c.requires.0 c.requires.1 in
    search (z, rules)

-- src/lib.rt:144:30
pub slice_bounds-look-start : goal.slice_bounds-look-start
slice_bounds-look-start c =
    let z = reached c.args.text.now c.args.w c.args.token _ _ _ _ _ _ _ _ c.requires.0 c.requires.1 in
    search (z, rules)

-- src/lib.rt:144:9
pub look-requires : goal.look-requires
look-requires c =
    (here c.args.text.now c.args.w c.args.token _ _ _ _ _ _ _ _ c.requires.0 c.requires.1).glance.firm

-- src/lib.rt:94:1
pub returns : goal.returns
returns c =
    strode_on c.args.text.now c.args.w c.args.token _ _ _ _ _ _ _ _ c.requires.0 c.requires.1 _ _ _ _ _ _ _ _ c.in-Some.next c.in-Some.ensures c.look.result c.ahead_of.result c.look.ensures c.ahead_of.ensures
