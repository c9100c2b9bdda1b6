-- What is promised of a text that is read token by token. Assumes nothing.
use Rattle.std.specs.Prelude.{◌≡◌, List, ◌++◌, ℕ, ◌+◌, drop}
use Rattle.notation.specs.Rules.{Rules}
use Rattle.notation.specs.Tokens.{TextToken}
use Rattle.notation.specs.RuleText.{RuleText}
use Rattle.encoding.specs.Mentions.{Mention, in_rules}
use Rattle.encoding.specs.Encoded.{Room}
use Rattle.reading.specs.Rules.{Progress, beginning}
use Rattle.verdicts.specs.Judged.{writes, refused_at, Judged}
use Rattle.mentions.specs.SoFar.{so_far, Tidy}
use Rattle.writing.specs.TooMany.{last_byte_of}
use Rattle.writing.specs.Written.{WrittenAs}
use Rattle.ledgers.specs.Trodden.{Trodden, TokenAt, LeadsToRules}
use Rattle.ledgers.specs.Space.{SpaceFor}

abbrev pub TroddenFirst : Type 0
TroddenFirst = (text : List ℕ) → Trodden text 0 beginning

-- one token further
abbrev pub TroddenOn : Type 0
TroddenOn = (text : List ℕ) (from at long : ℕ) (s s' : Progress) (t : TextToken) → Trodden text from s → TokenAt s (drop from text) at long t s' → Trodden text (from + (at + long)) s'

-- what is mentioned first is the beginning of what the rules mention
abbrev pub LeadsThrough : Type 0
LeadsThrough = (s : Progress) (r : Rules) → Tidy s → LeadsToRules s r → (more : List Mention) × (in_rules r.productions ≡ so_far s ++ more)

-- at the end of a text: it is a rule text, and its rules are those that every state on the way leads to
pub record EndedWith (text : List ℕ) (s : Progress) (r : Rules) : Type 0 where
  pub is_text : RuleText text r
  pub leads : LeadsToRules s r

abbrev pub TellsRules : Type 0
TellsRules = (text : List ℕ) (from : ℕ) (s : Progress) (r : Rules) → Trodden text from s → Judged s (drop from text) (writes r) → EndedWith text s r

-- number 40
abbrev pub Tells40 : Type 0
Tells40 = (text area : List ℕ) (from k : ℕ) (s : Progress) → Trodden text from s → Judged s (drop from text) (refused_at k) → WrittenAs text area 40 (from + k) area

-- number 41: there was room before a token, and with it there is none
abbrev pub Tells41 : Type 0
Tells41 = (text area : List ℕ) (from at long : ℕ) (s s' : Progress) (t : TextToken) (r : Rules) → Trodden text from s → TokenAt s (drop from text) at long t s'
    → Judged s' (drop (from + (at + long)) text) (writes r) → SpaceFor r (so_far s) → (SpaceFor r (so_far s') → ⊥) → WrittenAs text area 41 (from + at + last_byte_of t) area

-- a sheet has room exactly for what its rules mention
abbrev pub RoomIsSpace : Type 0
RoomIsSpace = (s : Progress) (r : Rules) → in_rules r.productions ≡ so_far s → SpaceFor r (so_far s) → Room r
