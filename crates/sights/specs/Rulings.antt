-- What is told of a text: that it writes rules, or the byte at which it is refused. Assumes nothing.
use Rattle.std.specs.Prelude.{◌≡◌, Result, Ok, Err, List, ℕ}
use Rattle.notation.specs.Rules.{Rules}
use Rattle.notation.specs.RuleText.{RuleText}
use Rattle.notation.specs.Refusal.{ByteOf40}

abbrev pub Ruling : Type 0
Ruling = Result (Unit {0}) ℕ

pub data RulingIs (text : List ℕ) : Ruling → Type 0 where
  writes_rules : (r : Rules) → RuleText text r → RulingIs text (Ok tt)
  writes_none : {k : ℕ} → ByteOf40 text k → RulingIs text (Err k)

-- of a text one thing is told
abbrev pub OneRuling : Type 0
OneRuling = (text : List ℕ) (a b : Ruling) → RulingIs text a → RulingIs text b → a ≡ b
