-- What is promised of the mentions of a text that is being read. Assumes nothing.
use Rattle.std.specs.Prelude.{◌≡◌, List, ◌++◌}
use Rattle.std.proofs.Math.Option.{none, some}
use Rattle.notation.specs.Rules.{Rules}
use Rattle.notation.specs.Tokens.{TextToken}
use Rattle.encoding.specs.Mentions.{Mention, in_rules}
use Rattle.reading.specs.Machine.{walk}
use Rattle.reading.specs.Rules.{Progress, beginning, step_rules, value_of_rules}
use Rattle.mentions.specs.SoFar.{so_far, mention_of, Tidy}

-- behind a token: what it mentions stands behind what was mentioned before
pub record Grown (s : Progress) (t : TextToken) (s' : Progress) : Type 0 where
  pub tidy : Tidy s'
  pub grown : so_far s' ≡ so_far s ++ mention_of s t

abbrev pub GrowsByToken : Type 0
GrowsByToken = (s s' : Progress) (t : TextToken) → Tidy s → step_rules s t ≡ some s' → Grown s t s'

-- at the end the text has mentioned what its rules mention
abbrev pub MentionsAll : Type 0
MentionsAll = (s : Progress) (r : Rules) → Tidy s → value_of_rules s ≡ some r → so_far s ≡ in_rules r.productions

-- so what was mentioned before the end is the beginning of that
abbrev pub BeginsAll : Type 0
BeginsAll = (s z : Progress) (ts : List TextToken) (r : Rules) → Tidy s → walk step_rules s ts ≡ some z → value_of_rules z ≡ some r
    → (more : List Mention) × (in_rules r.productions ≡ so_far s ++ more)
