-- What is promised of the row by the tree: it leads to its place, and none that does is shorter; and that an answer is one.
-- Assumes nothing.
use Rattle.std.specs.Prelude.{◌≡◌, List, ℕ, ◌<◌}
use Rattle.expressions.specs.Expr.{Content, places}
use Rattle.shortest.specs.declared.Row.{Row}
use Rattle.shortest.specs.Leads.{Shortest}
use Rattle.shortest.specs.Rows.{shortest_to}
use Rattle.shortest.specs.Answers.{ShortestAs}

abbrev pub ShortestLeads : Type 0
ShortestLeads = (e : Content) (p : ℕ) → p < places e → Shortest e p (shortest_to e p)

abbrev pub OneRow : Type 0
OneRow = (s : List ℕ) (q p : ℕ) (r r' : Row) → ShortestAs s q p r → ShortestAs s q p r' → r ≡ r'
