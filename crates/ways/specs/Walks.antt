-- What each walk over a tree hands back: the string that n of the lent bytes b hold, and then the way's, for every tree that stands there.
-- Assumes nothing.
use Rattle.std.specs.Prelude.{Option as Past, Some, ◌≡◌, Bool, List, [], ℕ, ◌*◌}
use Rattle.std.proofs.Math.Option.{some}
use Rattle.expressions.specs.Expr.{Atom, Exp, atom}
use Rattle.expressions.specs.Words.{Bracket}
use Rattle.expressions.specs.Grammar.{Production, tags_of, can_be}
use Rattle.runs.specs.Options.{when_true}
use Rattle.runs.specs.Way.{joined, led, through, into, out_of_lem, across}
use Rattle.trees.specs.declared.Symbol.{Symbol}
use Rattle.trees.specs.GrammarAt.{GrammarIs}
use Rattle.trees.specs.Symbol.{next_of}
use Rattle.ways.specs.declared.Spot.{Spot}
use Rattle.ways.specs.declared.Way.{Way}
use Rattle.ways.specs.Held.{kind_number, argument_number, HoldsString, LineIs, Kept, Longer, length_of, WayIs}
use Rattle.ways.specs.Spot.{At}

-- whether the atom of a node of this kind and argument can be x
pub record CanIs (s : List ℕ) (kind n : ℕ) (x : Symbol) (r : Bool) : Type 0 where
  pub is : (g : List Production) → GrammarIs s g → (k : Atom) → kind ≡ kind_number k → n ≡ argument_number k → r ≡ can_be (tags_of g) k (next_of x)

-- to the atom itself
pub record AtomWay (s : List ℕ) (t : Spot) (x : Symbol) (n : ℕ) (b : List ℕ) (r : Past Way) : Type 0 where
  pub few : Longer n 0 (length_of r)
  pub is : (g : List Production) → GrammarIs s g → (k : Atom) (i j : ℕ) → At s t (atom k) i j → (α : List Bracket) → HoldsString α n b →
      WayIs (led (some α) (when_true (can_be (tags_of g) k (next_of x)) (record { string = []; place = j; kind = k }))) r b

pub record Through (s : List ℕ) (t : Spot) (n : ℕ) (b : List ℕ) (r : Past ℕ) (d : List ℕ) : Type 0 where
  pub few : Longer n (2 * t.nodes) r
  pub kept : Kept n b d
  pub is : (e : Exp) (i j : ℕ) → At s t e i j → (α : List Bracket) → HoldsString α n b → LineIs (joined (some α) (through e i)) r d

pub record Into (s : List ℕ) (t : Spot) (x : Symbol) (n : ℕ) (b : List ℕ) (r : Past Way) (d : List ℕ) : Type 0 where
  pub few : Longer n (2 * t.nodes) (length_of r)
  pub kept : Kept n b d
  pub is : (g : List Production) → GrammarIs s g → (e : Exp) (i j : ℕ) → At s t e i j → (α : List Bracket) → HoldsString α n b →
      WayIs (led (some α) (into (tags_of g) e i j (next_of x))) r d

-- where the kind is a concatenation's it is the way through; else nothing is added
pub record IfJoined (s : List ℕ) (kind : ℕ) (t : Spot) (n : ℕ) (b : List ℕ) (r : Past ℕ) (d : List ℕ) : Type 0 where
  pub few : Longer n (2 * t.nodes) r
  pub kept : Kept n b d
  pub through_is : kind ≡ 3 → Through s t n b r d
  pub same : (kind ≡ 3 → ⊥) → (r ≡ Some n) × (d ≡ b)

pub record OutOf (s : List ℕ) (t : Spot) (p n : ℕ) (b : List ℕ) (r : Past ℕ) (d : List ℕ) : Type 0 where
  pub few : Longer n (2 * t.nodes) r
  pub kept : Kept n b d
  pub is : (e : Exp) (i j : ℕ) → At s t e i j → (α : List Bracket) → HoldsString α n b → LineIs (joined (some α) (out_of_lem e i j p)) r d

pub record Across (s : List ℕ) (t : Spot) (p : ℕ) (x : Symbol) (n : ℕ) (b : List ℕ) (r : Past Way) (d : List ℕ) : Type 0 where
  pub few : Longer n (4 * t.nodes) (length_of r)
  pub kept : Kept n b d
  pub is : (g : List Production) → GrammarIs s g → (e : Exp) (i j : ℕ) → At s t e i j → (α : List Bracket) → HoldsString α n b →
      WayIs (led (some α) (across (tags_of g) e i j p (next_of x))) r d
