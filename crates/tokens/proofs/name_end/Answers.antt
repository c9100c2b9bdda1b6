use Rattle.text.specs.Names.{name_byte}
use Rattle.tokens.proofs.name_end.Goals as goal

pub returns : goal.returns
returns c = c.run_end.ensures name_byte (λ x r h e. e)
