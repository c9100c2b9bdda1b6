-- What is promised of the text of rules. Assumes nothing.
use Rattle.std.specs.Prelude.{◌≡◌, List, ℕ}
use Rattle.notation.specs.Rules.{Rules}
use Rattle.notation.specs.Limits.{WithinLimits}
use Rattle.notation.specs.RuleText.{RuleText}
use Rattle.encoding.specs.Sound.{SoundRules}
use Rattle.printed.specs.Text.{text_of}

-- rules that can be typed, and keep the limits, are what their printed text writes
abbrev pub PrintedIsText : Type 0
PrintedIsText = (r : Rules) → SoundRules r → WithinLimits r → RuleText (text_of r) r

-- so the rules of every rule text have a printed one
abbrev pub EveryTextIsPrinted : Type 0
EveryTextIsPrinted = (text : List ℕ) (r : Rules) → RuleText text r → RuleText (text_of r) r
