-- What a call on a stream answers, said of trees: which tokens it takes, the tree, whole or open, that they spell, its output and its visits, and why it stops there.
-- Assumes nothing.
use Rattle.std.specs.Prelude.{◌≡◌, Bool, true, false, List, [], ◌∷◌, ◌++◌, ◌↔◌, ℕ, ◌≤◌, ◌<◌, length}
use Rattle.limits.specs.Limits.{longest_token}
use Rattle.tokens.specs.declared.Answer.TheVariants.{Begun, Bad, Long}
use Rattle.tokens.specs.Tokens.{Tok, Good, bytes}
use Rattle.tokens.specs.Stream.{ReadAs, flat, AllGood, AllShort, Followed, AllWhole}
use Rattle.sheet.specs.Sheet.{Sheet}
use Rattle.output.specs.Escape.{render}
use Rattle.runs.specs.Visits.{most_visits}
use Rattle.runs.specs.Acts.{Store}
use Rattle.runs.specs.Taken.{RootClosed}
use Rattle.runs.specs.SoFar.{SpelledSoFar, events_so_far, TokenRefused}
use Rattle.calls.specs.Names.{token_for, tokens_for}
use Rattle.calls.specs.Held.{fresh_held}
use Rattle.calls.specs.Call.{Result, Called}

-- t is the next token of the bytes that are left, and `rest` comes after it
pub record NextToken (more : Bool) (left : List ℕ) (t : Tok) (rest : List ℕ) : Type 0 where
  pub good : Good t
  pub short : length (bytes t) ≤ longest_token
  pub whole : Followed more t rest
  pub are_bytes : left ≡ bytes t ++ rest

-- why the call stops after the tokens ts, with `left` still to be read, and the number that it answers then
pub data Why (a : Sheet) (more : Bool) (room : ℕ) (ts : List Tok) (left : List ℕ) {m : Store} (so : SpelledSoFar a (tokens_for a ts) m) : ℕ → Type 0 where
  all_taken : more ≡ false → left ≡ [] → RootClosed a (events_so_far so) → Why a more room ts left so 0
  used_up : more ≡ true → ReadAs more left 0 Begun → Why a more room ts left so 16  -- nothing is left, or a begun token, or a CR that waits
  no_space : (t : Tok) (rest : List ℕ) → NextToken more left t rest → (m' : Store) → SpelledSoFar a (tokens_for a (ts ++ t ∷ [])) m' → m'.env.count ≤ most_visits →
      room < length (render m'.env.out) → Why a more room ts left so 17
  begins_none : ReadAs more left 0 Bad → Why a more room ts left so 20
  too_long : ReadAs more left 0 Long → Why a more room ts left so 21
  next_refused : (t : Tok) (rest : List ℕ) (n : ℕ) → NextToken more left t rest → TokenRefused so (token_for a t) n → Why a more room ts left so n  -- 22 to 26
  cut_off : more ≡ false → (left ≡ [] → ⊥) → ReadAs more left 0 Begun → Why a more room ts left so 27
  not_closed : more ≡ false → left ≡ [] → (RootClosed a (events_so_far so) → ⊥) → Why a more room ts left so 27
  too_many : (t : Tok) (rest : List ℕ) → NextToken more left t rest → (m' : Store) → SpelledSoFar a (tokens_for a (ts ++ t ∷ [])) m' → most_visits < m'.env.count →
      Why a more room ts left so 30

-- the number, the bytes taken, the output and the visits of a call on the bytes s from a fresh state, with so much room
pub record Explained (a : Sheet) (s : List ℕ) (more : Bool) (room number taken : ℕ) (output : List ℕ) (visits : ℕ) : Type 0 where
  pub tokens : List Tok
  pub good : AllGood tokens
  pub short : AllShort tokens
  pub left : List ℕ
  pub whole : AllWhole more tokens left
  pub are_bytes : s ≡ flat tokens ++ left
  pub store : Store
  pub so_far_lem : SpelledSoFar a (tokens_for a tokens) store
  pub counts : store.env.count ≤ most_visits
  pub has_room : length (render store.env.out) ≤ room
  pub why : Why a more room tokens left so_far_lem number
  pub is_taken : taken ≡ length (flat tokens)
  pub is_output : output ≡ render store.env.out
  pub is_visits : visits ≡ store.env.count

-- r has this number, these bytes taken, this output and these visits
pub record Answers (r : Result) (number taken : ℕ) (output : List ℕ) (visits : ℕ) : Type 0 where
  pub is_number : r.number ≡ number
  pub is_taken : r.taken ≡ taken
  pub is_output : r.output ≡ output
  pub is_visits : r.held.run.store.env.count ≡ visits

-- demand 2 of every number that a call on a stream answers: it is given exactly when trees say so
abbrev pub ExplainedExactly : Sheet → Type 0
ExplainedExactly a =
    (s : List ℕ) (more : Bool) (room : ℕ) (r : Result) → Called a s more room fresh_held r → (number taken : ℕ) (output : List ℕ) (visits : ℕ) →
    Answers r number taken output visits ↔ Explained a s more room number taken output visits
