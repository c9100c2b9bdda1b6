-- What each walk over a tree adds to a row of atoms.
-- Assumes nothing.
use Rattle.std.specs.Prelude.{◌≡◌, List, [], ◌∷◌, ◌++◌, ℕ, ◌+◌, ◌≤◌}
use Rattle.expressions.specs.Expr.{Exp}
use Rattle.ways.specs.declared.Spot.{Spot}
use Rattle.ways.specs.Spot.{At}
use Rattle.shortest.specs.declared.Row.{Row}
use Rattle.shortest.specs.Rows.{shortest_word, shortest_in}
use Rattle.shortest.specs.Held.{RowIs}

-- one atom more
pub record Longer (w : Row) (atom : ℕ) (r : Row) : Type 0 where
  pub long : r.length ≡ w.length + 1
  pub is : (row : List ℕ) → RowIs row w → RowIs (row ++ atom ∷ []) r

-- a shortest word of the tree at t, behind what there is
pub record WordBehind (s : List ℕ) (t : Spot) (w r : Row) : Type 0 where
  pub few : r.length ≤ w.length + t.nodes
  pub is : (e : Exp) (i j : ℕ) → At s t e i j → (row : List ℕ) → RowIs row w → RowIs (row ++ shortest_word e j) r

-- the atoms of the tree at t up to its atom p, behind what there is
pub record AtomBehind (s : List ℕ) (t : Spot) (p : ℕ) (w r : Row) : Type 0 where
  pub is : (e : Exp) (i j : ℕ) → At s t e i j → (row : List ℕ) → RowIs row w → RowIs (row ++ shortest_in e j p) r
