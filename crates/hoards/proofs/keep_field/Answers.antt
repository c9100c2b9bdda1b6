use native.Mathlib.Omega.{arith}
use Prim.Native.Nat.{◌+◌, ◌-◌}
use lib.ListN.{drop, length-take, length-drop}
use Rattle.hoards.proofs.Laws.{no_field, past_section, its_program}
use Rattle.hoards.proofs.keep_field.Goals as goal

-- The field names none, or no program that lies in the section, or the one at that offset.
pub returns-then-field-eq-NONE : goal.returns-then-field-eq-NONE
returns-then-field-eq-NONE c = no_field c.args.s.now c.args.field c.args.bytes.now c.args.ends.now c.args.count c.if-field-eq-NONE.true c.requires.has_rows

pub returns-then-l-field : goal.returns-then-l-field
returns-then-l-field c = past_section c.args.s.now c.args.field c.args.bytes.now c.args.ends.now c.args.count c.args.l c.requires.laid_out c.if-field-eq-NONE.false c.if-l-field.true c.requires.has_rows

pub keep_list-requires : goal.keep_list-requires
keep_list-requires c =
    let L = c.requires.laid_out in
    let from = c.args.l.programs_at in
    let long = length-take (from + c.args.l.programs - from) (drop from c.args.s.now) in
    let rest = length-drop from c.args.s.now in
    (omega (arith, c.if-l-field.false, long, rest, L.programs_before, L.strings_before), omega (arith, long, L.short_programs), c.requires.has_rows)

pub returns : goal.returns
returns c = its_program c.args.s.now c.args.field c.args.bytes.now c.args.ends.now c.args.count c.args.l c.requires.laid_out c.if-field-eq-NONE.false _ _ _ c.keep_list.ensures
