use Rattle.layout.proofs.production_word.Goals as goal

-- The number that was read lies at the production's own place, as the layout has the section's offset.
pub returns : goal.returns
returns c = rw c.requires.laid_out.layout_is.productions_at_is.is at c.word_at.ensures
