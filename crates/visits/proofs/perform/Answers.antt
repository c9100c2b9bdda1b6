use Rattle.visits.proofs.Performing.{no_field, past_section}
use Rattle.visits.proofs.perform.Goals as goal

-- The field names none, or no program that lies in the section, or the one at that offset.
pub returns-then-field-eq-NONE : goal.returns-then-field-eq-NONE
returns-then-field-eq-NONE c = no_field c.args.s.now c.args.l c.requires.laid_out c.args.field c.args.kept c.args.env (record { write = c.args.write; lent = c.args.out.now; at = c.args.at }) c.if-field-eq-NONE.true

pub returns-then-l-field : goal.returns-then-l-field
returns-then-l-field c = past_section c.args.s.now c.args.l c.requires.laid_out c.args.field c.args.kept c.args.env (record { write = c.args.write; lent = c.args.out.now; at = c.args.at }) c.if-field-eq-NONE.false c.if-l-field.true
