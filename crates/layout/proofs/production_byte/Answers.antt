use Rattle.layout.proofs.production_byte.Goals as goal

-- The byte that was read lies at the production's own place, as the layout has the section's offset.
pub returns : goal.returns
returns c = rw c.requires.laid_out.layout_is.productions_at_is.is at c.byte_at.ensures
