use Rattle.tells.specs.Tells.{fails}
use Rattle.tells.proofs.Laws.{as_told, told, not_told}
use Rattle.sheet.proofs.FieldLaws.{fill_told, filled_of, productions_told, productions_named, production_inside, nodes_told, nodes_named, node_inside, programs_from}
use Rattle.sheet.proofs.fields.programs_fit.Goals as goal

-- The parts of the sheet are its sections, so the tests tell of the sheet's own programs and fields.
pub returns-then-not-programs_fill : goal.returns-then-not-programs_fill
returns-then-not-programs_fill c =
    let s = c.args.s.now in
    let l = c.args.l in
    let p = c.requires in
    fails (λ h. not_told (fill_told s l p c.programs_fill.ensures) c.if-not-programs_fill.true (filled_of s h))

pub each_named-requires : goal.each_named-requires
each_named-requires c =
    let s = c.args.s.now in
    let l = c.args.l in
    let p = c.requires in
    record { filled = told c.programs_fill.ensures c.if-not-programs_fill.false; by_index = production_inside s l p }

pub returns-then-not-each_named : goal.returns-then-not-each_named
returns-then-not-each_named c =
    let s = c.args.s.now in
    let l = c.args.l in
    let p = c.requires in
    fails (λ h. not_told (productions_told s l p c.each_named.ensures) c.if-not-each_named.true (productions_named s h))

pub each_named-requires-2 : goal.each_named-requires-2
each_named-requires-2 c =
    let s = c.args.s.now in
    let l = c.args.l in
    let p = c.requires in
    record { filled = told c.programs_fill.ensures c.if-not-programs_fill.false; by_index = node_inside s l p }

pub returns : goal.returns
returns c =
    let s = c.args.s.now in
    let l = c.args.l in
    let p = c.requires in
    let filled = told (fill_told s l p c.programs_fill.ensures) c.if-not-programs_fill.false in
    let productions = told (productions_told s l p c.each_named.ensures) c.if-not-each_named.false in
    as_told (programs_from s filled productions) (nodes_named s) (nodes_told s l p c.each_named-2.ensures)
