-- Where the first token that is wanted stands in a rule text. Assumes nothing.
use Rattle.std.specs.Prelude.{◌≡◌, Option, Some, None, IfSome, true, List, [], ◌∷◌, ◌++◌, ℕ, ◌+◌, ◌≤◌, length}
use Rattle.notation.specs.Rules.{Rules}
use Rattle.notation.specs.Tokens.{TextToken, token_bytes}
use Rattle.notation.specs.Gaps.{Gap}
use Rattle.notation.specs.Spelled.{MayFollow}
use Rattle.notation.specs.RuleText.{RuleText}
use Rattle.rulings.specs.Readers.{Firm}
use Rattle.posts.specs.declared.Wanted.{Wanted}
use Rattle.posts.specs.declared.Halt.{Halt}
use Rattle.posts.specs.Posts.{set_out, passed_all, is_wanted, NoneWanted}

-- these tokens stand at the front of the bytes, and behind them the token, i bytes further
pub data StandsAt : List TextToken → TextToken → List ℕ → ℕ → Type 0 where
  next : {x : List ℕ} {t : TextToken} {i : ℕ} (g rest : List ℕ) → x ≡ g ++ (token_bytes t ++ rest) → Gap g → MayFollow t rest → i ≡ length g → StandsAt [] t x i
  behind : {x : List ℕ} {u t : TextToken} {us : List TextToken} {i j : ℕ} (g rest : List ℕ) → x ≡ g ++ (token_bytes u ++ rest) → Gap g → MayFollow u rest → StandsAt us t rest j
      → i ≡ length g + length (token_bytes u) + j → StandsAt (u ∷ us) t x i

-- the first of these tokens that is wanted
pub record FirstWanted (w : Wanted) (tokens : List TextToken) (text : List ℕ) (i : ℕ) : Type 0 where
  pub before : List TextToken
  pub token : TextToken
  pub after : List TextToken
  pub are : tokens ≡ before ++ token ∷ after
  pub none_before : NoneWanted w set_out before
  pub wanted : is_wanted w (passed_all set_out before) token ≡ true
  pub stands : StandsAt before token text i

pub data WantedTold (w : Wanted) (tokens : List TextToken) (text : List ℕ) : Option ℕ → Type 0 where
  there : {i : ℕ} → FirstWanted w tokens text i → WantedTold w tokens text (Some i)
  nowhere : NoneWanted w set_out tokens → WantedTold w tokens text None

-- of every text the places lie in it, and of a rule text what is told is right
pub record HaltIs (text : List ℕ) (w : Wanted) (r : Halt) : Type 0 where
  pub reached : r.from ≤ length text
  pub high : IfSome r.found (λ at. at ≤ length text)
  pub low : IfSome r.found (λ at. r.from ≤ at)
  pub firm : Firm r.reader
  pub told : (v : Rules) (h : RuleText text v) → WantedTold w h.tokens text r.found
