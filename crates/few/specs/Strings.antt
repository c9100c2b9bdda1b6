-- What is promised of bracket strings where rule S finds no fault: from a place to a next symbol each opening and each closing bracket stands at most once,
-- so there are at most two for each node of the expression.
-- Assumes nothing.
use Rattle.std.specs.Prelude.{◌≡◌, List, ℕ, ◌*◌, ◌≤◌, length}
use Rattle.std.proofs.Math.Option.{Option, some}
use Rattle.limits.specs.Limits.{nodes_at_most}
use Rattle.expressions.specs.Expr.{Content, nodes_of}
use Rattle.expressions.specs.Words.{Bracket, Sym}
use Rattle.expressions.specs.Grammar.{Next, tag, character, end}
use Rattle.expressions.specs.Fault.{UpTo, GoesOn, Fault}
use Rattle.runs.specs.Options.{bind}
use Rattle.runs.specs.Way.{atom_way, end_way}
use Rattle.few.specs.Once.{Once}

-- an expression of a sheet has at most 32 nodes, so a string at most 64 brackets
abbrev pub most_brackets : ℕ
most_brackets = 2 * nodes_at_most

pub record FewBrackets (c : Content) (α : List Bracket) : Type 0 where
  pub once : Once α
  pub few : length α ≤ 2 * nodes_of c

-- of every string that leads, in a word of the bracketed expression, from a place to an atom that can be x, or to the end
abbrev pub StringsFew : Type 0
StringsFew =
    (tags : ℕ → List ℕ) (c : Content) (place : ℕ) (x : Next) → (Fault tags c place x → ⊥) → (u : List Sym) → UpTo place u → (α : List Bracket) →
    GoesOn tags c u x α → FewBrackets c α

-- of the string that the machine goes by
abbrev pub string_to : (ℕ → List ℕ) → Content → ℕ → Next → Option (List Bracket)
string_to tags c place (tag t) = bind (atom_way tags c place (tag t)) (λ w. some w.string)
string_to tags c place character = bind (atom_way tags c place character) (λ w. some w.string)
string_to tags c place end = end_way c place

abbrev pub WaysFew : Type 0
WaysFew =
    (tags : ℕ → List ℕ) (c : Content) (place : ℕ) (x : Next) → (Fault tags c place x → ⊥) → (α : List Bracket) → string_to tags c place x ≡ some α → FewBrackets c α
