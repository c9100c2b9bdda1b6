-- The sketch that a draft is, and what a step of it says. Assumes nothing.
use Rattle.std.specs.Prelude.{Option as Taken, Some, None, IfSome, ◌≡◌, Bool, true, false, List, [], ◌∷◌, ℕ, zero, suc, ◌≤◌, length, get_or}
use Rattle.std.proofs.Math.Option.{Option, none, some}
use Rattle.programs.specs.Limits.{Visit}
use Rattle.programs.specs.Parsed.{which_visit}
use Rattle.sketches.specs.declared.Paren.{Paren}
use Rattle.sketches.specs.declared.Point.{Point}
use Rattle.sketches.specs.declared.Point.TheVariants.{Beginning, FirstWord, Named, Defined, OwnFront, WantsTag, Tagged, Wants, InFront, After, Behind, Over, Closed, OwnBack, Complete}
use Rattle.sketches.specs.declared.Move.{Move}
use Rattle.sketches.specs.Figures.{bare, just_opened}
use Rattle.sketches.specs.Moves.{Sketch, sketched, step_sketch, nodes_there, depth_there, program_at, unbraced, text_ends}
use Rattle.drafts.specs.declared.Draft.{Draft}
use Rattle.drafts.specs.declared.Place.{Place}
use Rattle.paces.specs.Small.{tight, loose, Counted, SmallFigure, SmallParen, SmallPoint, SmallSketch}

-- the first n, the last of them first
abbrev pub stacked : List Paren → ℕ → List Paren
stacked ps zero = []
stacked ps (suc n) = get_or ps n (just_opened bare) ∷ stacked ps n

abbrev pub sketch_of : Draft → Sketch
sketch_of d = sketched d.point (stacked d.around d.open) d.productions d.earlier

abbrev pub SteppedIs : Option Sketch → Taken Draft → Type 0
SteppedIs o None = o ≡ none
SteppedIs o (Some d) = o ≡ some (sketch_of d)

pub record SoundDraft (d : Draft) : Type 0 where
  pub few_open : d.open ≤ tight
  pub small : SmallSketch (sketch_of d)

-- what a point's size does not count, or not where no pair of parentheses is around it, is small by itself
abbrev pub SmallUncounted : Point → Type 0
SmallUncounted Beginning = Unit {0}
SmallUncounted FirstWord = Unit {0}
SmallUncounted Named = Unit {0}
SmallUncounted Defined = Unit {0}
SmallUncounted OwnFront = Unit {0}
SmallUncounted WantsTag = Unit {0}
SmallUncounted Tagged = Unit {0}
SmallUncounted (Wants true p) = SmallParen tight p
SmallUncounted (Wants false p) = Counted p.union × Counted p.cat
SmallUncounted (InFront m) = Unit {0}
SmallUncounted (After e p) = Unit {0}
SmallUncounted (Behind e m) = Unit {0}
SmallUncounted (Over e m) = Unit {0}
SmallUncounted (Closed n) = Unit {0}
SmallUncounted (OwnBack n) = Unit {0}
SmallUncounted (Complete n) = Unit {0}

abbrev pub SmallMove : Move → Type 0
SmallMove Move.Refused = Unit {0}
SmallMove (Move.To p) = SmallPoint loose p × SmallUncounted p
SmallMove (Move.Opened p) = SmallParen tight p
SmallMove (Move.Closed e) = SmallFigure loose e
SmallMove Move.Emptied = Unit {0}
SmallMove (Move.Next n) = n ≤ tight

pub record SizeIs (p : Point) (unclosed : ℕ) (nodes depth : ℕ) : Type 0 where
  pub nodes_are : (ps : List Paren) → length ps ≡ unclosed → nodes ≡ nodes_there p ps
  pub depth_is : (ps : List Paren) → length ps ≡ unclosed → depth ≡ depth_there p ps

-- a token of a kind, outside programs: the draft behind it, where it is taken
pub record DraftStepIs (d : Draft) (kind : ℕ) (r : Taken Draft) : Type 0 where
  pub same : SteppedIs (step_sketch (sketch_of d) kind) r
  pub sound : IfSome r SoundDraft

pub record DraftIs (k : Sketch) (d : Draft) : Type 0 where
  pub same : sketch_of d ≡ k
  pub sound : SoundDraft d

abbrev pub program_if : Bool → Bool → Option Visit
program_if true second = some (which_visit second)
program_if false second = none

abbrev pub plainly : Point → Bool → Place
plainly p e = record { reads = false; second = false; ends = e; behind = p }

abbrev pub reading : Bool → Point → Place
reading b p = record { reads = true; second = b; ends = false; behind = p }

-- whether a program is being read, for which visit, whether a text may end, and the point behind the program
pub record PointIs (p : Point) (r : Place) : Type 0 where
  pub program : program_at p ≡ program_if r.reads r.second
  pub ends : r.ends ≡ text_ends p
  pub behind : r.behind ≡ unbraced p
