-- What a bed holds of an expression that is being read, and what each of its functions hands back. Assumes nothing.
use Rattle.std.specs.Prelude.{◌≡◌, Bool, true, false, List, [], ◌∷◌, ◌++◌, ℕ, zero, suc, ◌+◌, ◌*◌, ◌/◌, ◌%◌, ◌≤◌, length, take, get_or}
use Rattle.std.proofs.Math.Option.{Option, none, some}
use Rattle.limits.specs.Limits.{nodes_at_most}
use Rattle.expressions.specs.Expr.{Atom, nodes_of}
use Rattle.programs.specs.Parsed.{which_visit}
use Rattle.notation.specs.Program.{TextProgram}
use Rattle.notation.specs.Rules.{Tree, content_inside}
use Rattle.notation.specs.Statements.{parentheses}
use Rattle.notation.specs.Tokens.{TextToken, sign, UNBRACE}
use Rattle.reading.specs.Statements.{Listing, list_start, value_of_list}
use Rattle.reading.specs.Expressions.{ExpressionPart, a_leaf, leaf_form, ExpressionLevel, fresh_expression, whole_expression, fronted, Parsing, wants, in_front, after, behind, over, step_piece, step_expression, value_of_content, finished_content}
use Rattle.lexemes.specs.Kinds.{token_kind, token_number}
use Rattle.packing.specs.Packed.{kind as node_kind, argument as node_argument}
use Rattle.sketches.specs.Figures.{present}
use Rattle.sketches.specs.Moves.{program_at}
use Rattle.sketches.specs.Sketched.{point_of, levels_of, listing_in}
use Rattle.beds.specs.declared.Row.{Row}
use Rattle.beds.specs.declared.Pair.{Pair}
use Rattle.beds.specs.declared.Bed.{Bed}
use Rattle.beds.specs.Nodes.{field_of, bare_node, content_nodes, up_to_union, up_to_cat, up_to_operand, nodes_read}

-- six for each node
abbrev pub most_bed_bytes : ℕ
most_bed_bytes = 6 * nodes_at_most

-- r holds these bytes
pub record Lays (l : List ℕ) (r : Row) : Type 0 where
  pub short : length l ≤ most_bed_bytes
  pub length_is : r.length ≡ length l
  pub bytes_are : take r.length r.bytes ≡ l

-- a node comes in between
pub record NodeIn (a : Row) (at kind argument : ℕ) (r : Row) : Type 0 where
  pub is : (u v : List ℕ) → Lays (u ++ v) a → at ≡ length u → length (u ++ (bare_node kind argument ++ v)) ≤ most_bed_bytes → Lays (u ++ (bare_node kind argument ++ v)) r

-- two bytes take the place of two
pub record FieldIn (a : Row) (at low high : ℕ) (r : Row) : Type 0 where
  pub is : (u v : List ℕ) (x y : ℕ) → Lays (u ++ (x ∷ y ∷ v)) a → at ≡ length u → Lays (u ++ (low ∷ high ∷ v)) r

-- one pair of parentheses: where its parts begin, and the field of the program in front
abbrev pub pair_at : (TextProgram → ℕ) → ExpressionLevel → List ExpressionLevel → Pair
pair_at field l ls = record {
  union = length (up_to_union field ls);
  cat = length (up_to_cat field l ls);
  operand = length (up_to_operand field l ls);
  fronted = present l.before;
  low = field_of field l.before % 256;
  high = field_of field l.before / 256;
}

abbrev pub pairs_of : (TextProgram → ℕ) → List ExpressionLevel → List Pair
pairs_of field [] = []
pairs_of field (l ∷ ls) = pair_at field l ls ∷ pairs_of field ls

-- a pair that was just opened
abbrev pub just_opened : ℕ → Pair
just_opened n = record { union = n; cat = n; operand = n; fronted = false; low = 255; high = 255 }

-- what stands past the end
abbrev pub no_pair : Pair
no_pair = record { union = 0; cat = 0; operand = 0; fronted = false; low = 0; high = 0 }

-- the first n, the last of them first
abbrev pub stacked : List Pair → ℕ → List Pair
stacked ps zero = []
stacked ps (suc n) = get_or ps n no_pair ∷ stacked ps n

-- the innermost pair; where a program is being read, as if it had just been opened
abbrev pub level_in : Parsing → ExpressionLevel
level_in (wants b l ls) = l
level_in (in_front q ls) = fresh_expression
level_in (after e l ls) = l
level_in (behind q f k ls) = fresh_expression
level_in (over e ls) = fresh_expression

-- where a program may still stand in front, nothing has been read
abbrev pub Begun : Parsing → Type 0
Begun (wants true l ls) = l ≡ fresh_expression
Begun (wants false l ls) = Unit {0}
Begun (in_front q ls) = Unit {0}
Begun (after e l ls) = Unit {0}
Begun (behind q f k ls) = Unit {0}
Begun (over e ls) = Unit {0}

pub record Bedded (field : TextProgram → ℕ) (x : Parsing) (b : Bed) : Type 0 where
  pub begun : Begun x
  pub few_open : b.«open» ≤ parentheses
  pub laid : Lays (nodes_read field x) b.row
  pub here_is : b.here ≡ pair_at field (level_in x) (levels_of x)
  pub around_are : stacked b.around b.«open» ≡ pairs_of field (levels_of x)

-- the shortest continuation has no more nodes than a production may have
abbrev pub FewNodesRead : Parsing → Type 0
FewNodesRead x = nodes_of (content_inside (finished_content x)) ≤ nodes_at_most

-- just behind the tag's own parenthesis
pub record FreshIs (r : Bed) : Type 0 where
  pub is : (field : TextProgram → ℕ) → Bedded field (wants true fresh_expression []) r

-- what a token is in an expression, outside programs
pub record PieceIs (b : Bed) (k : ExpressionPart) (r : Bed) : Type 0 where
  pub is : (field : TextProgram → ℕ) (x x' : Parsing) → step_piece x k ≡ some x' → FewNodesRead x' → Bedded field x b → Bedded field x' r

pub record LeafIs (b : Bed) (kind argument : ℕ) (r : Bed) : Type 0 where
  pub is : (k : Option Atom) → kind ≡ node_kind (leaf_form k) → argument ≡ node_argument (leaf_form k) → PieceIs b (a_leaf k) r

-- what the innermost pair holds, with the program in front
abbrev pub held_in : Parsing → Option Tree
held_in (wants b l ls) = none
held_in (in_front q ls) = none
held_in (after e l ls) = fronted l.before (whole_expression l e)
held_in (behind q f k ls) = none
held_in (over e ls) = some e

-- as behind a program behind it; or, where nothing has been read, as in a program in front
pub record SettledIs (b r : Bed) : Type 0 where
  pub some_held : (field : TextProgram → ℕ) (x : Parsing) (e : Tree) → held_in x ≡ some e → Bedded field x b → Bedded field (over e (levels_of x)) r
  pub none_held : (field : TextProgram → ℕ) (l : ExpressionLevel) (ls : List ExpressionLevel) → Bedded field (wants true l ls) b → Bedded field (in_front list_start ls) r

-- a token outside programs, by its kind and number
pub record BedStepIs (b : Bed) (kind number : ℕ) (r : Bed) : Type 0 where
  pub is : (field : TextProgram → ℕ) (x x' : Parsing) (t : TextToken) → token_kind t ≡ kind → token_number t ≡ number → listing_in x ≡ none → step_expression x t ≡ some x' → FewNodesRead x' → Bedded field x b
      → Bedded field x' r

-- the } behind a program, whose field is n
pub record UnbracedIs (b : Bed) (second : Bool) (n : ℕ) (r : Bed) : Type 0 where
  pub is : (field : TextProgram → ℕ) (x x' : Parsing) (q : Listing) (p : TextProgram) → program_at (point_of x) ≡ some (which_visit second) → listing_in x ≡ some q → value_of_list q ≡ some p
      → step_expression x (sign UNBRACE) ≡ some x' → n ≡ field p → n ≤ 0xFFFF → Bedded field x b → Bedded field x' r

-- the tag's own closing parenthesis
pub record FinishedIs (b : Bed) (r : Row) : Type 0 where
  pub is : (field : TextProgram → ℕ) (x : Parsing) (e : Option Tree) → value_of_content x ≡ some e → Bedded field x b → Lays (content_nodes field e) r
