use borrow.Author.Rules.{rules}
use native.Mathlib.Omega.{arith}
use Rattle.visits.proofs.Performing.{section_length}
use Rattle.asides.proofs.Laws.{no_field, put_in_front, put_behind}
use Rattle.asides.proofs.put_field.Goals as goal

-- The field names none, or the program at that offset of the section, which is put with a space behind it or before it.
pub returns-then-field-eq-NONE : goal.returns-then-field-eq-NONE
returns-then-field-eq-NONE c = no_field c.args.s.now c.args.field c.args.in_front (record { write = c.args.write; lent = c.args.out.now; at = c.args.at }) c.if-field-eq-NONE.true

pub put_program-to-requires : goal.put_program-to-requires
put_program-to-requires c = omega (arith, section_length c.args.s.now c.args.l c.requires.laid_out, c.requires.laid_out.short_programs, c.requires.most_of_an_aside_bound)

pub put_bytes-requires : goal.put_bytes-requires
put_bytes-requires c = omega (arith, c.requires.most_of_an_aside_bound, c.put_program-to.ensures.reach)

pub returns-then-in_front : goal.returns-then-in_front
returns-then-in_front c =
    put_in_front c.args.s.now c.args.field c.args.in_front (record { write = c.args.write; lent = c.args.out.now; at = c.args.at }) c.args.l c.requires.laid_out c.if-field-eq-NONE.false _ _ _ _ c.if-in_front.true c.put_program-to.ensures c.put_bytes.ensures

pub put_program-requires : goal.put_program-requires
put_program-requires c = omega (arith, section_length c.args.s.now c.args.l c.requires.laid_out, c.requires.laid_out.short_programs, c.requires.most_of_an_aside_bound, c.put_bytes-from.ensures.next)

pub returns : goal.returns
returns c =
    put_behind c.args.s.now c.args.field c.args.in_front (record { write = c.args.write; lent = c.args.out.now; at = c.args.at }) c.args.l c.requires.laid_out c.if-field-eq-NONE.false _ _ _ _ c.if-in_front.false c.put_bytes-from.ensures c.put_program.ensures
