-- When a run fits a sheet: what number 29 asks of a state, said of the run that the state stands for.
-- Assumes nothing.
use Rattle.std.specs.Prelude.{◌≡◌, List, [], ◌∷◌, ℕ, T}
use Rattle.std.proofs.Math.Option.{some}
use Rattle.expressions.specs.Grammar.{Production, content_of}
use Rattle.sheet.specs.Sheet.{Sheet}
use Rattle.runs.specs.Lookup.{produces}
use Rattle.runs.specs.Visits.{grammar}
use Rattle.runs.specs.Nodes.{KeptAt}
use Rattle.runs.specs.Fits.{StoreFits}
use Rattle.runs.specs.Machine.{Open, Control, before, inside, after, Configuration}
use Rattle.fit.specs.Fit.{child_at}

-- an open element and those around it, innermost first: each is of the nonterminal that the place of the one around it has, the root of the start
abbrev pub Chain : List Production → ℕ → Open → List Open → Type 0
Chain g n o [] = T (produces g n o.production)
Chain g n o (p ∷ os) = (m : ℕ) × (child_at (content_of g p.production) p.place ≡ some m) × T (produces g m o.production) × Chain g n p os

abbrev pub ChainAt : List Production → ℕ → Control → Type 0
ChainAt g n before = Unit {0}
ChainAt g n (inside o os) = Chain g n o os
ChainAt g n after = Unit {0}

-- its open elements are as their places say, as much is kept of each, and the values are within their limits
pub record RunFits (a : Sheet) (m : Configuration) : Type 0 where
  pub chain : ChainAt (grammar a) a.start_nonterminal m.control
  pub kept : KeptAt (grammar a) m.control m.store.kept
  pub store : StoreFits m.store
