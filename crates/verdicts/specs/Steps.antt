-- What a reader that skips gaps and reads one token of the kinds that may stand there has found out, from a state of the machine on. Assumes nothing.
use Rattle.std.specs.Prelude.{◌≡◌, Bool, List, ℕ, ◌+◌, drop}
use Rattle.std.proofs.Math.Option.{none, some}
use Rattle.notation.specs.Rules.{Rules}
use Rattle.notation.specs.Tokens.{TextToken}
use Rattle.reading.specs.Rules.{Progress, value_of_rules}
use Rattle.gaps.specs.declared.Skipped.{Skipped}
use Rattle.gaps.specs.Skipped.{SkippedIs}
use Rattle.lexemes.specs.declared.Lexeme.{Lexeme}
use Rattle.lexemes.specs.Kinds.{token_kind, token_number, MarkedKind, Lexed}
use Rattle.verdicts.specs.Judged.{Goes, TakesToken, Verdict, writes, refused_at, later, Judged}

-- the marked kinds are those that the machine takes
pub record Marks (s : Progress) (may : List Bool) : Type 0 where
  pub taken : (t : TextToken) → MarkedKind may t → TakesToken s t
  pub marked : (t : TextToken) → TakesToken s t → MarkedKind may t

abbrev pub JudgesEnd : Type 0
JudgesEnd = (s : Progress) (x : List ℕ) → SkippedIs x Skipped.End
    → ((r : Rules) → value_of_rules s ≡ some r → Judged s x (writes r)) × (value_of_rules s ≡ none → (k : ℕ) × (Judged s x (refused_at k)))

abbrev pub JudgesComment : Type 0
JudgesComment = (s : Progress) (x : List ℕ) (i : ℕ) → SkippedIs x (Skipped.Bad i) → Judged s x (refused_at i)

abbrev pub JudgesStuck : Type 0
JudgesStuck = (s : Progress) (may : List Bool) (x : List ℕ) (i k : ℕ) → Marks s may → SkippedIs x (Skipped.To i) → Lexed may (drop i x) (Lexeme.Stuck k) → Judged s x (refused_at (i + k))

-- a token that the machine takes; what is told of the rest is told of all
pub record Onward (s : Progress) (x : List ℕ) (k n l : ℕ) : Type 0 where
  pub token : TextToken
  pub kind : k ≡ token_kind token
  pub number : n ≡ token_number token
  pub next : Progress
  pub goes : Goes s token next
  pub judged : (v : Verdict) → Judged next (drop l x) v → Judged s x (later l v)

abbrev pub JudgesToken : Type 0
JudgesToken = (s : Progress) (may : List Bool) (x : List ℕ) (i k n l : ℕ) → Marks s may → SkippedIs x (Skipped.To i) → Lexed may (drop i x) (Lexeme.Token k n l) → Onward s x k n (i + l)
