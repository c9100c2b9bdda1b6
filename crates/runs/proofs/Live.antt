-- An element that is open can go on.
-- Assumes nothing.
use mathlib.Core.Path.{subst}
use mathlib.Core.List.{List, [], ◌∷◌, ◌++◌}
use Prim.Native.Nat.{ℕ}
use Rattle.expressions.specs.Expr.{Atom, Content, nothing, tree}
use Rattle.expressions.specs.Words.{Bracket, Sym, at, ◌▷◌, only, Words}
use Rattle.expressions.proofs.Rule.{Rest, rest_of}
use Rattle.expressions.proofs.Tree.{some_word}
use Rattle.expressions.proofs.Rule.{begin}
use Rattle.runs.proofs.Atoms.{atom_pos}
use Rattle.runs.proofs.Complete.{past, up_to_past}

abbrev Text : Type 0
Text = List Sym

abbrev Str : Type 0
Str = List Bracket

pub start_live : (e : Content) → (w : Text) × Rest e 0 w
start_live nothing = ([], only)
start_live (tree e) = some_word e 1 1

-- what comes after an atom
pub rest_on : (e : Content) (p : ℕ) (α : Str) (j : ℕ) (k : Atom) (s : Text) → Rest e p (α ▷ at j k ∷ s) → Rest e j s
rest_on e p α j k s a =
    let b = begin e p (α ▷ at j k ∷ s) a in
    rest_of e j (b.0 ++ (α ▷ at j k ∷ [])) s (up_to_past b.0 α j k (atom_pos e p α j k s a))
    (subst (Words e) (past b.0 α (at j k) s) (b.2 (α ▷ at j k ∷ s) a))
