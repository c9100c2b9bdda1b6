-- The tokens that were read of a text, a token at a place, and the rules that a state of the machine can still lead to. Assumes nothing.
use Rattle.std.specs.Prelude.{◌≡◌, List, ◌++◌, ℕ, length, drop}
use Rattle.std.proofs.Math.Option.{some}
use Rattle.notation.specs.Rules.{Rules}
use Rattle.notation.specs.Tokens.{TextToken, token_bytes}
use Rattle.notation.specs.Gaps.{Gap}
use Rattle.notation.specs.Spelled.{MayFollow}
use Rattle.notation.specs.Limits.{WithinLimits}
use Rattle.reading.specs.Machine.{walk}
use Rattle.reading.specs.Rules.{Progress, beginning, step_rules, value_of_rules}
use Rattle.lexemes.specs.Kinds.{TokenFits}
use Rattle.verdicts.specs.Judged.{Goes, Verdict, later, Judged}
use Rattle.writing.specs.TooMany.{Placed}

-- the tokens up to a byte, each with its last byte: they lead to the state, and what follows them in the text follows them there
pub record Trodden (text : List ℕ) (from : ℕ) (s : Progress) : Type 0 where
  pub tokens : List TextToken
  pub lasts : List ℕ
  pub as_many : length lasts ≡ length tokens
  pub walked : walk step_rules beginning tokens ≡ some s
  pub placed : (ts : List TextToken) (ks : List ℕ) → Placed from ts (drop from text) ks → Placed 0 (tokens ++ ts) text (lasts ++ ks)
  pub judged : (v : Verdict) → Judged s (drop from text) v → Judged beginning text (later from v)

-- a token that the machine takes, behind a gap of so many bytes, so many bytes long
pub record TokenAt (s : Progress) (x : List ℕ) (at long : ℕ) (t : TextToken) (s' : Progress) : Type 0 where
  pub gap : List ℕ
  pub is_gap : Gap gap
  pub rest : List ℕ
  pub are : x ≡ gap ++ (token_bytes t ++ rest)
  pub follows : MayFollow t rest
  pub at_is : at ≡ length gap
  pub long_is : long ≡ length (token_bytes t)
  pub fits : TokenFits t
  pub goes : Goes s t s'

-- some tokens more, and the text writes the rules
pub record LeadsToRules (s : Progress) (r : Rules) : Type 0 where
  pub tokens : List TextToken
  pub last : Progress
  pub walked : walk step_rules s tokens ≡ some last
  pub value : value_of_rules last ≡ some r
  pub within : WithinLimits r
