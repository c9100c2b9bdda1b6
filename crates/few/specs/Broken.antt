-- A sheet with S faults can break the ceiling, and is never run: in (k*)*, after k, strings of any length lead to k again.
-- Assumes nothing.
use Rattle.std.specs.Prelude.{◌≡◌, true, List, ℕ, ◌≤◌, length}
use Rattle.expressions.specs.Expr.{Atom, atom, star, Content, tree}
use Rattle.expressions.specs.Words.{Bracket, Sym}
use Rattle.expressions.specs.Grammar.{Next, can_be}
use Rattle.expressions.specs.Fault.{UpTo, Leads}

abbrev pub starred_twice : Atom → Content
starred_twice k = tree (star (star (atom k)))

abbrev pub NoCeiling : Type 0
NoCeiling =
    (tags : ℕ → List ℕ) (k : Atom) (x : Next) → can_be tags k x ≡ true →
    (u : List Sym) × UpTo 1 u × ((m : ℕ) → (α : List Bracket) × Leads tags (starred_twice k) u x α × (m ≤ length α))
