-- The first two strings as the code holds them, and what each operation on them hands back.
-- Assumes nothing.
use Rattle.std.specs.Prelude.{◌≡◌, Bool, List, [], ◌∷◌, ◌++◌, ℕ, ◌+◌, ◌≤◌, length, take}
use Rattle.expressions.specs.Words.{Bracket}
use Rattle.parting.specs.Firsts.{Firsts, no_string, one_string, two_strings, either, both, goes_round, when, each_opened, each_closed}
use Rattle.ways.specs.Held.{code_of, codes}
use Rattle.witness.specs.declared.Row.{Row}
use Rattle.witness.specs.declared.Pair.{Pair}

-- the most brackets of a string
abbrev pub longest : ℕ
longest = 192

-- r is the string: it is that long, and its bytes are the first ones
pub record StringIn (α : List Bracket) (r : Row) : Type 0 where
  pub length_is : r.length ≡ length α
  pub bytes_are : take r.length r.bytes ≡ codes α

abbrev pub AreHeld : Firsts → Pair → Type 0
AreHeld no_string r = r.count ≡ 0
AreHeld (one_string α) r = (r.count ≡ 1) × StringIn α r.first
AreHeld (two_strings α β) r = (r.count ≡ 2) × StringIn α r.first × StringIn β r.second

-- r holds the strings, the first in at most a bytes and the second in at most b
pub record HoldsWithin (a b : ℕ) (f : Firsts) (r : Pair) : Type 0 where
  pub few : r.first.length ≤ a
  pub few_more : r.second.length ≤ b
  pub held : AreHeld f r

pub record BracketIs (b : ℕ) (r : Row) : Type 0 where
  pub one : r.length ≡ 1
  pub is : (c : Bracket) → b ≡ code_of c → StringIn (c ∷ []) r

-- where there is room
pub record JoinedAs (a b r : Row) : Type 0 where
  pub long : a.length + b.length ≤ longest → r.length ≡ a.length + b.length
  pub is : a.length + b.length ≤ longest → (α β : List Bracket) → StringIn α a → StringIn β b → StringIn (α ++ β) r

pub record WhenIs (there : Bool) (r : Pair) : Type 0 where
  pub is : (b : Bool) → there ≡ b → HoldsWithin 0 0 (when b) r

pub record OpenedAs (i : ℕ) (f r : Pair) : Type 0 where
  pub is : (k : ℕ) → i ≡ k → (φ : Firsts) (a b : ℕ) → HoldsWithin a b φ f → a + 1 ≤ longest → b + 1 ≤ longest → HoldsWithin (a + 1) (b + 1) (each_opened k φ) r

pub record ClosedAs (i : ℕ) (f r : Pair) : Type 0 where
  pub is : (k : ℕ) → i ≡ k → (φ : Firsts) (a b : ℕ) → HoldsWithin a b φ f → a + 1 ≤ longest → b + 1 ≤ longest → HoldsWithin (a + 1) (b + 1) (each_closed k φ) r

-- both within a and b, where a is at most b
pub record EitherAs (f g r : Pair) : Type 0 where
  pub is : (φ γ : Firsts) (a b : ℕ) → a ≤ b → HoldsWithin a b φ f → HoldsWithin a b γ g → HoldsWithin a b (either φ γ) r

pub record BothAs (f g r : Pair) : Type 0 where
  pub is : (φ γ : Firsts) (a b c d m : ℕ) → HoldsWithin a b φ f → HoldsWithin c d γ g → a + c ≤ m → a + d ≤ m → b + c ≤ m → m ≤ longest → HoldsWithin (a + c) m (both φ γ) r

pub record GoesRoundAs (f g r : Pair) : Type 0 where
  pub is : (φ γ : Firsts) (a b c d m : ℕ) → HoldsWithin a b φ f → HoldsWithin c d γ g → a + c ≤ m → d ≤ m → m ≤ longest → HoldsWithin c m (goes_round φ γ) r
