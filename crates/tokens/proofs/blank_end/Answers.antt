use Rattle.text.specs.Names.{blank}
use Rattle.tokens.proofs.blank_end.Goals as goal

pub returns : goal.returns
returns c = c.run_end.ensures blank (λ x r h e. e)
