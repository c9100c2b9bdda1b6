-- `<a/>` and `<a></a>` are equal: of one token and of two, and of streams with the one in place of the other.
-- Assumes nothing.
use Rattle.std.specs.Prelude.{◌≡◌, false, List, [], ◌∷◌, ◌++◌, ◌↔◌, ℕ}
use Rattle.std.proofs.Math.Option.{Option}
use Rattle.tokens.specs.Tokens.{start, end, empty, Tok, tag}
use Rattle.tokens.specs.Stream.{flat, AllGood, AllShort, AllWhole}
use Rattle.sheet.specs.Sheet.{Sheet}
use Rattle.runs.specs.Visits.{Env}
use Rattle.runs.specs.Machine.{Configuration, Answer, took, refused}
use Rattle.runs.specs.Spells.{start_token, end_token, empty_token, step_token}
use Rattle.calls.specs.Accepted.{Accepted}

-- one token after another
abbrev pub then_token : Answer → (Configuration → Answer) → Answer
then_token (took z) f = f z
then_token (refused n) f = refused n

-- an empty tag is answered as its start tag and then its end tag are: with the state, output and visits that the two come to, or with the number
-- of the first of them that is refused
abbrev pub EmptyIsBoth : Sheet → Type 0
EmptyIsBoth a = (z : Configuration) (t : Option ℕ) → step_token a z (empty_token t) ≡ then_token (step_token a z (start_token t)) (λ y. step_token a y (end_token t))

-- a row of tokens as a stream may have them: no CR alone before an LF
abbrev pub Stream : List Tok → Type 0
Stream ts = AllGood ts × AllShort ts × AllWhole false ts []

-- a stream with the one in place of the other, whatever white space the tags hold, is accepted where it is, with the same output, visits and state
abbrev pub EmptyForBoth : Sheet → Type 0
EmptyForBoth a =
    (ts us : List Tok) (n b b₁ b₂ : List ℕ) → Stream (ts ++ tag empty n b ∷ us) → Stream (ts ++ tag start n b₁ ∷ tag end n b₂ ∷ us) → (v : Env) →
    Accepted a (flat (ts ++ tag empty n b ∷ us)) v ↔ Accepted a (flat (ts ++ tag start n b₁ ∷ tag end n b₂ ∷ us)) v
