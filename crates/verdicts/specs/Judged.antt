-- What is told of bytes from a state of the machine on, token by token. Assumes nothing.
use Rattle.std.specs.Prelude.{◌≡◌, true, false, List, [], ◌∷◌, ◌++◌, ℕ, suc, ◌+◌, length}
use Rattle.std.proofs.Math.Option.{none, some}
use Rattle.text.specs.Names.{blank, All}
use Rattle.notation.specs.Rules.{Rules}
use Rattle.notation.specs.Tokens.{TextToken, token_bytes}
use Rattle.notation.specs.Gaps.{in_comment, Gap, Ending}
use Rattle.notation.specs.Spelled.{MayFollow}
use Rattle.notation.specs.Limits.{WithinLimits}
use Rattle.reading.specs.Rules.{Progress, step_rules, value_of_rules, finished_rules}
use Rattle.lexing.specs.Front.{Stuck}

-- the machine takes the token, and where it then stands the shortest continuation keeps the limits
pub record Goes (s : Progress) (t : TextToken) (s' : Progress) : Type 0 where
  pub taken : step_rules s t ≡ some s'
  pub fits : WithinLimits (finished_rules s')

abbrev pub TakesToken : Progress → TextToken → Type 0
TakesToken s t = (s' : Progress) × Goes s t s'

-- the first byte is no white space and no #
abbrev pub NoGapFirst : List ℕ → Type 0
NoGapFirst [] = ⊥
NoGapFirst (b ∷ x) = (blank b ≡ false) × (b ≡ 35 → ⊥)

pub data Verdict : Type 0 where
  writes : Rules → Verdict
  refused_at : ℕ → Verdict

-- the same, counted from n bytes further in front
abbrev pub later : ℕ → Verdict → Verdict
later n (writes r) = writes r
later n (refused_at k) = refused_at (n + k)

pub data Judged : Progress → List ℕ → Verdict → Type 0 where
  ended : {s : Progress} {x : List ℕ} {r : Rules} → Ending x → value_of_rules s ≡ some r → Judged s x (writes r)
  early : {s : Progress} {x : List ℕ} → Ending x → value_of_rules s ≡ none → Judged s x (refused_at (length x))
  token : {s s' : Progress} {x g rest : List ℕ} {v : Verdict} (t : TextToken) → x ≡ g ++ (token_bytes t ++ rest) → Gap g → Goes s t s' → MayFollow t rest → Judged s' rest v
      → Judged s x (later (length g + length (token_bytes t)) v)
  stuck : {s : Progress} {x g y : List ℕ} {k : ℕ} → x ≡ g ++ y → Gap g → NoGapFirst y → Stuck (TakesToken s) y k → Judged s x (refused_at (length g + k))
  no_comment : {s : Progress} {b : ℕ} {x g : List ℕ} (c y : List ℕ) → x ≡ g ++ 35 ∷ (c ++ b ∷ y) → Gap g → All in_comment c → in_comment b ≡ false → (b ≡ 10 → ⊥)
      → Judged s x (refused_at (length g + suc (length c)))
