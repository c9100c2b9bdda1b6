-- When a state handed in fits a sheet's grammar: number 29 of document 01. Nothing is asked of frames and sets that are not in use.
-- Assumes nothing.
use Rattle.std.specs.Prelude.{◌≡◌, cond, List, [], ◌∷◌, ◌⊎◌, ℕ, zero, suc, ◌+◌, ◌≤◌, T, ltb, eqb, length, take}
use Rattle.std.proofs.Math.Option.{Option, none, some}
use Rattle.expressions.specs.Expr.{Atom, nonterminal, anychar, Exp, atom, cat, alt, star, empty, atoms, Content, nothing, tree}
use Rattle.expressions.specs.Grammar.{Production, content_of}
use Rattle.programs.specs.Limits.{Value}
use Rattle.runs.specs.Closing.{Closing}
use Rattle.runs.specs.Visits.{most_visits}
use Rattle.runs.specs.Options.{when_true}
use Rattle.runs.specs.Lookup.{produces}
use Rattle.runs.specs.Nodes.{open_nodes}
use Rattle.runs.specs.Machine.{most}
use Rattle.state.specs.Changes.{not_closed}
use Rattle.state.specs.Meaning.{Every}
use Rattle.state.specs.declared.Saved.{Saved}
use Rattle.state.specs.declared.Frame.{Frame}
use Rattle.state.specs.declared.State.{State}

-- the atom numbered p, where the expression has it; its first atom is j
abbrev pub atom_in : Exp → ℕ → ℕ → Option Atom
atom_in (atom k) j p = when_true (eqb p j) k
atom_in (cat l r) j p = cond (ltb p (j + atoms l)) (atom_in l j p) (atom_in r (j + atoms l) p)
atom_in (alt l r) j p = cond (ltb p (j + atoms l)) (atom_in l j p) (atom_in r (j + atoms l) p)
atom_in (star e) j p = atom_in e j p
atom_in empty j p = none

-- the atom that a place is: none at the start
abbrev pub atom_at : Content → ℕ → Option Atom
atom_at e zero = none
atom_at nothing (suc p) = none
atom_at (tree e) (suc p) = atom_in e 1 (suc p)

-- the nonterminal that an element open at a place is of: none at the start and at a character
abbrev pub child_of : Option Atom → Option ℕ
child_of none = none
child_of (some (nonterminal n)) = some n
child_of (some anychar) = none

abbrev pub child_at : Content → ℕ → Option ℕ
child_at e p = child_of (atom_at e p)

-- no value of a set is over the highest
abbrev pub SetFits : Saved → Type 0
SetFits k = Every Value k.values

-- an open element: its production is one of the nonterminal that it may be of, its place one of that production's; of each node open at that
-- place, and of the production, a set is in use, and no more
pub record FrameFits (g : List Production) (may : Option ℕ) (f : Frame) : Type 0 where
  pub nonterm : ℕ
  pub allowed : may ≡ some nonterm
  pub production : T (produces g nonterm f.production)
  pub nodes : List ℕ
  pub place : open_nodes (content_of g f.production) f.place ≡ some nodes
  pub sets : f.«open» ≡ suc (length nodes)
  pub values : Every SetFits (take f.«open» f.saved)

-- open elements, the outermost first, each as the place of the one around it can have it
abbrev pub FramesFit : List Production → Option ℕ → List Frame → Type 0
FramesFit g may [] = Unit {0}
FramesFit g may (f ∷ fs) = FrameFits g may f × FramesFit g (child_at (content_of g f.production) f.place) fs

-- open, or closed by one of the numbers that close
abbrev pub ClosingFits : ℕ → Type 0
ClosingFits c = (c ≡ not_closed) ⊎ Closing c

-- the state z fits the grammar g with the start n
pub record Fit (g : List Production) (n : ℕ) (z : State) : Type 0 where
  pub few : z.depth ≤ most
  pub closing : ClosingFits z.closed
  pub count : z.count ≤ most_visits
  pub values : Every Value z.values
  pub frames : FramesFit g (some n) (take z.depth z.frames)
