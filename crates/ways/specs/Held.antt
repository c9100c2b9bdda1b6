-- Bracket strings and ways as the code holds them: the brackets' bytes are the first of the lent ones.
-- Assumes nothing.
use Rattle.std.specs.Prelude.{Option as Past, Some, None, ◌≡◌, Bool, true, false, List, [], ◌∷◌, ◌++◌, ℕ, suc, ◌+◌, ◌*◌, ◌≤◌, length, take}
use Rattle.std.proofs.Math.Option.{Option, none, some}
use Rattle.expressions.specs.Expr.{Atom, nonterminal, anychar}
use Rattle.expressions.specs.Words.{Bracket, opening, closing}
use Rattle.runs.specs.Options.{bind}
use Rattle.runs.specs.Way.{Way as Found}
use Rattle.ways.specs.declared.Way.{Way}

-- a bracket's byte
abbrev pub code_of : Bracket → ℕ
code_of (opening i) = 2 * i
code_of (closing i) = suc (2 * i)

abbrev pub codes : List Bracket → List ℕ
codes [] = []
codes (c ∷ α) = code_of c ∷ codes α

-- whether there is one, and its string: the empty one where there is none
abbrev pub there : Option (List Bracket) → Bool
there none = false
there (some α) = true

abbrev pub string_in : Option (List Bracket) → List Bracket
string_in none = []
string_in (some α) = α

-- n of the lent bytes b hold the string: it is that long and, if they have room for it, those are its bytes
pub record HoldsString (α : List Bracket) (n : ℕ) (b : List ℕ) : Type 0 where
  pub length_is : n ≡ length α
  pub bytes_are : n ≤ length b → take n b ≡ codes α

-- so many of the lent bytes hold the string, or it is said that there is none
pub data LineIs : Option (List Bracket) → Past ℕ → List ℕ → Type 0 where
  no_line : {b : List ℕ} → LineIs none None b
  a_line : {α : List Bracket} {n : ℕ} {b : List ℕ} → HoldsString α n b → LineIs (some α) (Some n) b

-- what the first n of the lent bytes b are stays there
pub record Kept (n : ℕ) (b d : List ℕ) : Type 0 where
  pub long : length d ≡ length b
  pub same : take n d ≡ take n b

-- where there is a string, it is one of n brackets with at most m more behind them
abbrev pub Longer : ℕ → ℕ → Past ℕ → Type 0
Longer n m None = Unit {0}
Longer n m (Some k) = (n ≤ k) × (k ≤ n + m)

-- the string of a way, its place, and the kind and argument of its atom's node
abbrev pub string_of : Option Found → Option (List Bracket)
string_of o = bind o (λ w. some w.string)

abbrev pub length_of : Past Way → Past ℕ
length_of None = None
length_of (Some w) = Some w.length

abbrev pub kind_number : Atom → ℕ
kind_number (nonterminal n) = 1
kind_number anychar = 2

abbrev pub argument_number : Atom → ℕ
argument_number (nonterminal n) = n
argument_number anychar = 0

-- r and the lent bytes b hold the way
pub record HoldsWay (w : Found) (r : Way) (b : List ℕ) : Type 0 where
  pub string_is : HoldsString w.string r.length b
  pub place_is : r.place ≡ w.place
  pub kind_is : r.kind ≡ kind_number w.kind
  pub argument_is : r.argument ≡ argument_number w.kind

-- they hold it, or it is said that there is none
pub data WayIs : Option Found → Past Way → List ℕ → Type 0 where
  no_way : {b : List ℕ} → WayIs none None b
  a_way : {w : Found} {r : Way} {b : List ℕ} → HoldsWay w r b → WayIs (some w) (Some r) b

-- n of the lent bytes b hold a string, and r of the lent bytes d that and then the bracket whose byte is c
pub record PushedBracket (c n : ℕ) (b : List ℕ) (r : ℕ) (d : List ℕ) : Type 0 where
  pub one_more : r ≡ n + 1
  pub kept : Kept n b d
  pub is : (k : Bracket) → c ≡ code_of k → (α : List Bracket) → HoldsString α n b → HoldsString (α ++ k ∷ []) r d

-- the same of bracket i that opens or closes
pub record Bracketed (bracket : ℕ → Bracket) (i n : ℕ) (b : List ℕ) (r : ℕ) (d : List ℕ) : Type 0 where
  pub one_more : r ≡ n + 1
  pub kept : Kept n b d
  pub is : (k : ℕ) → i ≡ k → (α : List Bracket) → HoldsString α n b → HoldsString (α ++ bracket k ∷ []) r d
