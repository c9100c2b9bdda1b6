-- What is promised of the nodes of an expression: they are a sheet's, and stay as they are while a program is read. Assumes nothing.
use Rattle.std.specs.Prelude.{◌≡◌, List, ℕ, ◌*◌, length}
use Rattle.std.proofs.Math.Option.{Option, some}
use Rattle.expressions.specs.Expr.{nodes_of}
use Rattle.notation.specs.Program.{TextProgram}
use Rattle.notation.specs.Rules.{Tree, content_inside, Rules}
use Rattle.notation.specs.Limits.{WithinLimits}
use Rattle.notation.specs.Tokens.{TextToken}
use Rattle.reading.specs.Statements.{Listing}
use Rattle.reading.specs.Expressions.{Parsing, step_expression}
use Rattle.reading.specs.Rules.{Head, within, finished_rules}
use Rattle.packing.specs.Packed.{field, content_bytes}
use Rattle.sketches.specs.Sketched.{listing_in}
use Rattle.beds.specs.declared.Row.{Row}
use Rattle.beds.specs.declared.Bed.{Bed}
use Rattle.beds.specs.Nodes.{content_nodes}
use Rattle.beds.specs.Bedded.{Lays, Bedded, FewNodesRead}

-- with the fields of rules they are the bytes that the sheet of these rules has
abbrev pub SheetNodes : Type 0
SheetNodes = (r : Rules) (e : Option Tree) → content_nodes (λ p. field r (some p)) e ≡ content_bytes r e

-- six for each node
abbrev pub SixEach : Type 0
SixEach = (field : TextProgram → ℕ) (e : Option Tree) → length (content_nodes field e) ≡ 6 * nodes_of (content_inside e)

-- a program goes on
abbrev pub StaysInPrograms : Type 0
StaysInPrograms = (field : TextProgram → ℕ) (x x' : Parsing) (t : TextToken) (q q' : Listing) (b : Bed) → listing_in x ≡ some q → listing_in x' ≡ some q' → step_expression x t ≡ some x' → Bedded field x b
    → Bedded field x' b

-- a text that keeps its limits has few nodes here
abbrev pub FewWithin : Type 0
FewWithin = (x : Parsing) (f : Option TextProgram) (u : List ℕ) (h : Head) → WithinLimits (finished_rules (within x f u h)) → FewNodesRead x

-- a bed's nodes are one list only
abbrev pub OneLaid : Type 0
OneLaid = (l m : List ℕ) (r : Row) → Lays l r → Lays m r → l ≡ m
