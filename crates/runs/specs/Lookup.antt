-- A production's tag and nonterminal by its number, and a production by its nonterminal and tag.
-- Assumes nothing.
use Rattle.std.specs.Prelude.{Bool, true, false, ◌&&◌, List, [], ◌∷◌, ℕ, zero, suc, eqb}
use Rattle.std.proofs.Math.Option.{Option, none, some}
use Rattle.expressions.specs.Grammar.{Production}
use Rattle.runs.specs.Options.{bind}

abbrev pub tag_of : List Production → ℕ → ℕ
tag_of [] q = 0
tag_of (d ∷ ds) zero = d.tagno
tag_of (d ∷ ds) (suc q) = tag_of ds q

-- production q is there, and is of nonterminal n
abbrev pub produces : List Production → ℕ → ℕ → Bool
produces [] n q = false
produces (d ∷ ds) n zero = eqb n d.nonterm
produces (d ∷ ds) n (suc q) = produces ds n q

-- the first production of nonterminal n with tag t
abbrev pub or_later : Bool → Option ℕ → Option ℕ
or_later true o = some 0
or_later false o = bind o (λ q. some (suc q))

abbrev pub find : List Production → ℕ → ℕ → Option ℕ
find [] n t = none
find (d ∷ ds) n t = or_later (eqb n d.nonterm && eqb t d.tagno) (find ds n t)
