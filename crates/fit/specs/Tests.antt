-- What the tests of number 29 tell of a sheet's bytes: of every grammar that the bytes are, and there is one.
-- Assumes nothing.
use Rattle.std.specs.Prelude.{◌≡◌, Bool, true, false, List, ℕ, suc, ◌+◌, ◌≤◌, ◌<◌, length}
use Rattle.std.proofs.Math.Option.{Option, none, some}
use Rattle.limits.specs.Limits.{deepest_tree}
use Rattle.expressions.specs.Expr.{Exp, nodes, atoms}
use Rattle.expressions.specs.Grammar.{Production, content_of}
use Rattle.tells.specs.Tells.{Tells}
use Rattle.layout.specs.Layout.{node_count, start}
use Rattle.trees.specs.Trees.{TreeAt}
use Rattle.trees.specs.GrammarAt.{GrammarIs}
use Rattle.runs.specs.Nodes.{nodes_at, open_nodes}
use Rattle.state.specs.declared.Frame.{Frame}
use Rattle.state.specs.declared.State.{State}
use Rattle.fit.specs.declared.Spot.{Spot}
use Rattle.fit.specs.declared.Walked.{Walked}
use Rattle.fit.specs.declared.Fitted.{Fitted}
use Rattle.fit.specs.Fit.{atom_in, child_of, child_at, FrameFits, FramesFit, Fit}

-- a child as a number: 256, which no byte is, for none
abbrev pub child_number : Option ℕ → ℕ
child_number none = 256
child_number (some n) = n

-- r says whether the expression has the place, and if so how many nodes are open there and which child it can have
pub data SpotOf (r : Spot) : Option (List ℕ) → Option ℕ → Type 0 where
  here : {ns : List ℕ} {child : Option ℕ} → r.there ≡ true → r.«open» ≡ length ns → r.child ≡ child_number child → SpotOf r (some ns) child
  nowhere : {child : Option ℕ} → r.there ≡ false → SpotOf r none child

-- what a walk over the tree at node `at`, whose first atom is j, answers of atom p; the node past the tree, and the atom past its atoms
pub record WalkedAs (s : List ℕ) (p at j : ℕ) (r : Walked) : Type 0 where
  pub on : at < r.next
  pub few : at + r.spot.«open» ≤ node_count s
  pub next_is : (e : Exp) → TreeAt s at e → r.next ≡ at + nodes e
  pub atom_is : (e : Exp) → TreeAt s at e → r.atom ≡ j + atoms e
  pub finds : (e : Exp) → TreeAt s at e → (i : ℕ) → SpotOf r.spot (nodes_at e i j p) (child_of (atom_in e j p))

-- what is at the place p of production q
pub record SpotIs (s : List ℕ) (q p : ℕ) (r : Spot) : Type 0 where
  pub few : r.there ≡ true → r.«open» ≤ deepest_tree
  pub is : (g : List Production) → GrammarIs s g → SpotOf r (open_nodes (content_of g q) p) (child_at (content_of g q) p)

-- whether an open element fits where the child numbered `may` can be; and the child that its own place can have
pub record FrameTold (s : List ℕ) (may : ℕ) (f : Frame) (r : Fitted) : Type 0 where
  pub tells : (g : List Production) → GrammarIs s g → (child : Option ℕ) → may ≡ child_number child → Tells (FrameFits g child f) r.ok
  pub then : r.ok ≡ true → (g : List Production) → GrammarIs s g → r.child ≡ child_number (child_at (content_of g f.production) f.place)

pub record FramesTold (s : List ℕ) (frames : List Frame) (r : Bool) : Type 0 where
  pub tells : (g : List Production) → GrammarIs s g → Tells (FramesFit g (some (start s)) frames) r

-- whether a state fits the sheet
pub record FitTold (s : List ℕ) (z : State) (r : Bool) : Type 0 where
  pub tells : (g : List Production) → GrammarIs s g → Tells (Fit g (start s) z) r

-- an atom, one node deep
pub record AtomWalked (there : Bool) (child next atom_past : ℕ) (r : Walked) : Type 0 where
  pub there_is : r.spot.there ≡ there
  pub child_is : r.spot.child ≡ child
  pub one_open : r.spot.«open» ≡ 1
  pub next_of : r.next ≡ next
  pub atom_of : r.atom ≡ atom_past

-- one more node around what was found
pub record AroundOf (inner : Spot) (next atom_past : ℕ) (r : Walked) : Type 0 where
  pub there_is : r.spot.there ≡ inner.there
  pub child_is : r.spot.child ≡ inner.child
  pub one_more : r.spot.«open» ≡ suc inner.«open»
  pub next_of : r.next ≡ next
  pub atom_of : r.atom ≡ atom_past
