use Rattle.state.proofs.bytes.heading_at.Goals as goal

-- Field by field.
pub returns : goal.returns
returns c = rw (c.number_at-2.ensures, c.byte_at.ensures, c.on_at-2.ensures, c.number_at.ensures, c.on_at.ensures, c.values_at-values.ensures)
