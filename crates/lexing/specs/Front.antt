-- What bytes begin with, where only some tokens may stand: one of them, or a place at which none of them goes on. Assumes nothing.
use Rattle.std.specs.Prelude.{◌≡◌, List, ◌++◌, ℕ, suc, ◌≤◌, ◌<◌, length, take}
use Rattle.notation.specs.Tokens.{TextToken, token_bytes}
use Rattle.notation.specs.Spelled.{MayFollow}

-- a token that may stand there, and what follows it may do so
pub record WholeToken (May : TextToken → Type 0) (x : List ℕ) (t : TextToken) : Type 0 where
  pub may : May t
  pub rest : List ℕ
  pub are : x ≡ token_bytes t ++ rest
  pub follows : MayFollow t rest

-- some token that may stand there begins so
pub record BeginsToken (May : TextToken → Type 0) (w : List ℕ) : Type 0 where
  pub token : TextToken
  pub may : May token
  pub rest : List ℕ
  pub are : token_bytes token ≡ w ++ rest

-- there is no such token, and the first k bytes begin one, but no more of them
pub record Stuck (May : TextToken → Type 0) (x : List ℕ) (k : ℕ) : Type 0 where
  pub reached : k ≤ length x
  pub begun : 1 ≤ k → BeginsToken May (take k x)
  pub no_further : k < length x → BeginsToken May (take (suc k) x) → ⊥
  pub no_token : (t : TextToken) → WholeToken May x t → ⊥
