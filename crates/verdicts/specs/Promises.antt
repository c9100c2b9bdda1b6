-- What is promised of texts that are judged token by token. Assumes nothing.
use Rattle.std.specs.Prelude.{List, ℕ}
use Rattle.notation.specs.RuleText.{RuleText}
use Rattle.notation.specs.Refusal.{ByteOf40}
use Rattle.reading.specs.Rules.{beginning}
use Rattle.verdicts.specs.Judged.{Verdict, writes, refused_at, Judged}

-- what a verdict says of a text
abbrev pub Says : List ℕ → Verdict → Type 0
Says text (writes r) = RuleText text r
Says text (refused_at k) = ByteOf40 text k

-- a verdict from the machine's start on is true of the text
abbrev pub JudgedRight : Type 0
JudgedRight = (text : List ℕ) (v : Verdict) → Judged beginning text v → Says text v
