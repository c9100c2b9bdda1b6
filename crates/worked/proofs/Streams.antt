-- The streams of the worked examples, as their tokens: the bytes are theirs, and the machine's run over them is computed.
-- Assumes nothing.
use mathlib.Core.Path.{◌≡◌, refl}
use mathlib.Core.Bool.{false}
use mathlib.Core.List.{List, [], ◌∷◌, ◌++◌}
use mathlib.Core.Option.{some}
use Prim.Native.Nat.{ℕ, ◌≤◌}
use native.Mathlib.Omega.{arith}
use lib.ListN.{length}
use Rattle.tokens.specs.Tokens.{start, end, empty, Tok, tag, Good, bytes}
use Rattle.tokens.specs.Stream.{flat, AllGood, AllShort, Followed, AllWhole}
use Rattle.sheet.specs.Sheet.{Sheet}
use Rattle.output.specs.Escape.{render}
use Rattle.runs.specs.Visits.{Env, most_visits}
use Rattle.runs.specs.Machine.{Configuration, fresh_configuration, refused}
use Rattle.runs.specs.Taken.{Passed}
use Rattle.runs.specs.Spells.{step_token, through, run_tokens}
use Rattle.runs.specs.Examples.{book}
use Rattle.runs.proofs.Examples.{of_tokens, tokens_are}
use Rattle.runs.proofs.Spells.{spelled_iff}
use Rattle.calls.specs.Names.{token_for, tokens_for}
use Rattle.calls.specs.Accepted.{Accepted}
use Rattle.calls.specs.Explained.{Explained}
use Rattle.calls.proofs.Explained.{halt_explained}
use Rattle.worked.specs.Worked.{Row, has_faults, is_sheet, accepts, refuses, bib, title, author, year, article, run_smallest, run28, run27, run_rejecting27}

-- the bytes are tokens, over which the run comes to the root's end
pub record TakenWhole (a : Sheet) (s o : List ℕ) (n : ℕ) : Type 0 where
  pub tokens : List Tok
  pub good : AllGood tokens
  pub short : AllShort tokens
  pub whole : AllWhole false tokens []
  pub are_bytes : s ≡ flat tokens
  pub value : Env
  pub runs : of_tokens (run_tokens a fresh_configuration (tokens_for a tokens)) ≡ some value
  pub writes : render value.out ≡ o
  pub visits : value.count ≡ n
  pub few : n ≤ most_visits

pub taken_whole : (a : Sheet) → Passed a → (s o : List ℕ) (n : ℕ) → TakenWhole a s o n → (v : Env) × Accepted a s v × (render v.out ≡ o) × (v.count ≡ n)
taken_whole a ok s o n t = (
  t.value,
  record {
    tokens = t.tokens;
    good = t.good;
    short = t.short;
    whole = t.whole;
    are_bytes = t.are_bytes;
    spells = (spelled_iff a ok (tokens_for a t.tokens) t.value).0 (tokens_are (run_tokens a fresh_configuration (tokens_for a t.tokens)) t.value t.runs);
    counts = omega (arith, t.visits, t.few);
  },
  t.writes,
  t.visits,
)

-- the bytes are tokens, over which the run goes up to one that is refused
pub record RefusedAt (a : Sheet) (s : List ℕ) (k at : ℕ) (o : List ℕ) : Type 0 where
  pub tokens : List Tok
  pub next : Tok
  pub rest : List ℕ
  pub good : AllGood tokens
  pub short : AllShort tokens
  pub next_good : Good next
  pub next_short : length (bytes next) ≤ 32
  pub whole : AllWhole false tokens (bytes next ++ rest)
  pub next_whole : Followed false next rest
  pub are_bytes : s ≡ flat tokens ++ (bytes next ++ rest)
  pub place : length (flat tokens) ≡ at
  pub state : Configuration
  pub runs : run_tokens a fresh_configuration (tokens_for a tokens) ≡ through state
  pub refuses : step_token a state (token_for a next) ≡ refused k
  pub writes : render state.store.env.out ≡ o
  pub few : state.store.env.count ≤ most_visits

pub refused_at : (a : Sheet) → Passed a → (s : List ℕ) (k at : ℕ) (o : List ℕ) → RefusedAt a s k at o → (n : ℕ) × ((room : ℕ) → length o ≤ room → Explained a s false room k at o n)
refused_at a ok s k at o t =
    (t.state.store.env.count, λ room f. halt_explained a ok s false room k at o t.tokens t.good t.short t.next t.rest t.whole (record { good = t.next_good; short = t.next_short; whole = t.next_whole; are_bytes = refl }) t.are_bytes t.state t.runs t.refuses t.few t.place t.writes f)

-- what is computed of a run's row
abbrev pub RunFits : Row → Type 0
RunFits (has_faults g l) = Unit {0}
RunFits (is_sheet s a) = Unit {0}
RunFits (accepts a s o n) = TakenWhole a s o n
RunFits (refuses a s k at o) = RefusedAt a s k at o

-- <a/>
pub smallest_stream : RunFits run_smallest
smallest_stream =
    record {
      tokens = tag empty (97 ∷ []) [] ∷ [];
      good = search arith;
      short = search arith;
      whole = (tt, tt);
      are_bytes = refl;
      value = _;
      runs = refl;
      writes = refl;
      visits = refl;
      few = omega arith;
    }

-- Example 29's input
pub stream28 : RunFits run28
stream28 =
    record {
      tokens =
          tag start bib [] ∷ tag start book [] ∷ tag empty title [] ∷ tag empty author [] ∷ tag empty author [] ∷ tag empty author [] ∷ tag empty year [] ∷ tag end book []
          ∷ tag end bib [] ∷ [];
      good = search arith depth 40 fits 5000;
      short = search arith depth 40 fits 5000;
      whole = search arith depth 40 fits 5000;
      are_bytes = refl;
      value = _;
      runs = refl;
      writes = refl;
      visits = refl;
      few = omega arith;
    }

-- Example 27's
abbrev before_second : List Tok
before_second = tag start bib [] ∷ tag empty article [] ∷ tag empty book [] ∷ []

pub stream27 : RunFits run27
stream27 =
    record {
      tokens = before_second ++ tag empty book [] ∷ tag end bib [] ∷ [];
      good = search arith depth 40 fits 5000;
      short = search arith depth 40 fits 5000;
      whole = search arith depth 40 fits 5000;
      are_bytes = refl;
      value = _;
      runs = refl;
      writes = refl;
      visits = refl;
      few = omega arith;
    }

pub stream27_rejected : RunFits run_rejecting27
stream27_rejected =
    record {
      tokens = before_second;
      next = tag empty book [];
      rest = flat (tag end bib [] ∷ []);
      good = search arith depth 40 fits 5000;
      short = search arith depth 40 fits 5000;
      next_good = search arith depth 40 fits 5000;
      next_short = omega arith;
      whole = search arith depth 40 fits 5000;
      next_whole = tt;
      are_bytes = refl;
      place = refl;
      state = _;
      runs = refl;
      refuses = refl;
      writes = refl;
      few = omega arith;
    }
