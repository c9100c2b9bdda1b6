-- A rule text, and the rules that it writes. Assumes nothing.
use Rattle.std.specs.Prelude.{List, ℕ}
use Rattle.notation.specs.Rules.{Rules}
use Rattle.notation.specs.Tokens.{TextToken}
use Rattle.notation.specs.Spelled.{TypedAs}
use Rattle.notation.specs.Productions.{RulesAre}
use Rattle.notation.specs.Limits.{WithinLimits}

-- the bytes spell tokens, the tokens are those of rules, and the rules keep the limits
pub record RuleText (text : List ℕ) (rules : Rules) : Type 0 where
  pub tokens : List TextToken
  pub spelled : TypedAs tokens text
  pub grammatical : RulesAre tokens rules
  pub within : WithinLimits rules
