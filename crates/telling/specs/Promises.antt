-- What is promised of every text. Assumes nothing.
use Rattle.std.specs.Prelude.{◌≡◌, List, ℕ}
use Rattle.notation.specs.Rules.{Rules}
use Rattle.notation.specs.RuleText.{RuleText}
use Rattle.notation.specs.Refusal.{Told}

-- of every text it is told which rules it writes, or the byte of 40
abbrev pub TellsTexts : Type 0
TellsTexts = (text : List ℕ) → Told RuleText text

-- a text writes one thing at most
abbrev pub OneRules : Type 0
OneRules = (text : List ℕ) (r q : Rules) → RuleText text r → RuleText text q → r ≡ q
