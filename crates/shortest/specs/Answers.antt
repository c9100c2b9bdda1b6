-- What is answered of a place: a shortest row of atoms up to it; or nothing, where there is no such place.
-- Assumes nothing.
use Rattle.std.specs.Prelude.{List, [], ℕ, ◌<◌}
use Rattle.expressions.specs.Expr.{places}
use Rattle.expressions.specs.Grammar.{Production, Nth}
use Rattle.sheet.specs.Sheet.{Sheet, grammar_of, IsSheet}
use Rattle.shortest.specs.declared.Row.{Row}
use Rattle.shortest.specs.Leads.{Shortest}
use Rattle.shortest.specs.Rows.{shortest_to}
use Rattle.shortest.specs.Held.{RowIs}

-- the bytes are a sheet whose production q is d, and p is a place of it
pub record PlaceOf (s : List ℕ) (q p : ℕ) (d : Production) : Type 0 where
  pub sheet : Sheet
  pub is_sheet : IsSheet s sheet
  pub production : Nth (grammar_of sheet.rules) q d
  pub place : p < places d.content

-- of a place the row by the tree, which is a shortest one; else no atom
pub data ShortestAs (s : List ℕ) (q p : ℕ) (r : Row) : Type 0 where
  a_place : (d : Production) → PlaceOf s q p d → Shortest d.content p (shortest_to d.content p) → RowIs (shortest_to d.content p) r → ShortestAs s q p r
  no_place : ((d : Production) → PlaceOf s q p d → ⊥) → RowIs [] r → ShortestAs s q p r
