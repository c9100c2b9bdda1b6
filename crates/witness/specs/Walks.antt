-- What each walk over a tree hands back: the first two strings, for every tree that stands there.
-- Assumes nothing.
use Rattle.std.specs.Prelude.{List, ℕ, ◌*◌}
use Rattle.expressions.specs.Expr.{Exp}
use Rattle.expressions.specs.Grammar.{Production, Nth, tags_of}
use Rattle.parting.specs.Firsts.{firsts_through, firsts_into, firsts_out_of, firsts_across, firsts_to_end, firsts_to_atom, firsts}
use Rattle.trees.specs.declared.Symbol.{Symbol}
use Rattle.trees.specs.GrammarAt.{GrammarIs}
use Rattle.trees.specs.Symbol.{next_of}
use Rattle.ways.specs.declared.Spot.{Spot}
use Rattle.ways.specs.Spot.{At}
use Rattle.witness.specs.declared.Pair.{Pair}
use Rattle.witness.specs.Held.{AreHeld, HoldsWithin}

pub record FirstsThrough (s : List ℕ) (t : Spot) (r : Pair) : Type 0 where
  pub is : (e : Exp) (i j : ℕ) → At s t e i j → HoldsWithin (2 * t.nodes) (2 * t.nodes) (firsts_through e i) r

pub record FirstsInto (s : List ℕ) (t : Spot) (x : Symbol) (r : Pair) : Type 0 where
  pub is : (g : List Production) → GrammarIs s g → (e : Exp) (i j : ℕ) → At s t e i j → HoldsWithin (2 * t.nodes) (4 * t.nodes) (firsts_into (tags_of g) e i (next_of x)) r

pub record FirstsOutOf (s : List ℕ) (t : Spot) (p : ℕ) (r : Pair) : Type 0 where
  pub is : (e : Exp) (i j : ℕ) → At s t e i j → HoldsWithin (2 * t.nodes) (4 * t.nodes) (firsts_out_of e i j p) r

pub record FirstsAcross (s : List ℕ) (t : Spot) (p : ℕ) (x : Symbol) (r : Pair) : Type 0 where
  pub is : (g : List Production) → GrammarIs s g → (e : Exp) (i j : ℕ) → At s t e i j → HoldsWithin (4 * t.nodes) (6 * t.nodes) (firsts_across (tags_of g) e i j p (next_of x)) r

-- the first two strings from the place p of production q to its end, to its atoms that can be x, and to the symbol x
pub record ToEnd (s : List ℕ) (q p : ℕ) (r : Pair) : Type 0 where
  pub is : (g : List Production) → GrammarIs s g → (d : Production) → Nth g q d → AreHeld (firsts_to_end d.content p) r

pub record ToAtom (s : List ℕ) (q p : ℕ) (x : Symbol) (r : Pair) : Type 0 where
  pub is : (g : List Production) → GrammarIs s g → (d : Production) → Nth g q d → AreHeld (firsts_to_atom (tags_of g) d.content p (next_of x)) r

pub record FirstsAre (s : List ℕ) (q p : ℕ) (x : Symbol) (r : Pair) : Type 0 where
  pub is : (g : List Production) → GrammarIs s g → (d : Production) → Nth g q d → AreHeld (firsts (tags_of g) d.content p (next_of x)) r
