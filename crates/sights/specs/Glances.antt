-- What is found behind a gap, from a state of the machine on: a token that it takes, or what is told of the rest. Assumes nothing.
use Rattle.std.specs.Prelude.{◌≡◌, Result, Ok, Err, IfOk, IfErr, MatchResult, List, ℕ, ◌+◌, ◌≤◌, length}
use Rattle.std.proofs.Math.Option.{some}
use Rattle.notation.specs.Rules.{Rules}
use Rattle.notation.specs.Tokens.{TextToken}
use Rattle.notation.specs.Gaps.{Ending}
use Rattle.reading.specs.Rules.{Progress, value_of_rules}
use Rattle.lexemes.specs.Kinds.{token_kind, token_number}
use Rattle.verdicts.specs.Judged.{writes, refused_at, Judged}
use Rattle.rulings.specs.declared.Reader.{Reader}
use Rattle.rulings.specs.Readers.{Holds, Firm}
use Rattle.ledgers.specs.Trodden.{TokenAt}
use Rattle.sights.specs.declared.Token.{Token}
use Rattle.sights.specs.Rulings.{Ruling}

-- a token that the machine takes
pub record Met (s : Progress) (x : List ℕ) (a : Token) : Type 0 where
  pub token : TextToken
  pub next : Progress
  pub stands : TokenAt s x a.at a.long token next
  pub kind_is : a.kind ≡ token_kind token
  pub number_is : a.number ≡ token_number token
  pub onward : 1 ≤ a.long
  pub holds : Holds next a.reader

-- a token, or what is told of the rest
abbrev pub Glance : Type 0
Glance = Result Token Ruling

pub data Seen (s : Progress) (x : List ℕ) : Glance → Type 0 where
  meets : {a : Token} → Met s x a → Seen s x (Ok a)
  writes_rules : (v : Rules) → value_of_rules s ≡ some v → Ending x → Seen s x (Err (Ok tt))
  refuses : {k : ℕ} → Judged s x (refused_at k) → Seen s x (Err (Err k))

-- the token, or the byte of a refusal, lies in the text
abbrev pub SeenWithin : List ℕ → Glance → Type 0
SeenWithin x a = MatchResult a (λ t. t.at + t.long ≤ length x) (λ told. IfErr told (λ k. k ≤ length x))

-- whichever state it is that the reader holds
pub record GlanceIs (x : List ℕ) (r : Reader) (a : Glance) : Type 0 where
  pub high : SeenWithin x a
  pub firm : IfOk a (λ t. Firm t.reader)
  pub told : (s : Progress) → Holds s r → Seen s x a

-- the reader stands somewhere in a text
pub record Somewhere (r : Reader) : Type 0 where
  pub state : Progress
  pub holds : Holds state r

-- what is told of the rest of a text
pub data RestTold (s : Progress) (x : List ℕ) : Ruling → Type 0 where
  rest_writes : (v : Rules) → Judged s x (writes v) → RestTold s x (Ok tt)
  rest_refused : {k : ℕ} → Judged s x (refused_at k) → RestTold s x (Err k)

pub record RestIs (x : List ℕ) (r : Reader) (a : Ruling) : Type 0 where
  pub told : (s : Progress) → Holds s r → RestTold s x a
