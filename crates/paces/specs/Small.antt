-- How large the numbers of a draft are at most, and of what a step makes of them before it is known to keep the limits. Assumes nothing.
use Rattle.std.specs.Prelude.{◌≡◌, Bool, true, false, List, [], ◌∷◌, ℕ, ◌+◌, ◌≤◌}
use Rattle.limits.specs.Limits.{most_productions, most_nodes}
use Rattle.sketches.specs.declared.Figure.{Figure}
use Rattle.sketches.specs.declared.Beside.{Beside}
use Rattle.sketches.specs.declared.Surround.{Surround}
use Rattle.sketches.specs.declared.Paren.{Paren}
use Rattle.sketches.specs.declared.Point.{Point}
use Rattle.sketches.specs.declared.Point.TheVariants.{Beginning, FirstWord, Named, Defined, OwnFront, WantsTag, Tagged, Wants, InFront, After, Behind, Over, Closed, OwnBack, Complete}
use Rattle.sketches.specs.declared.Move.{Move}
use Rattle.sketches.specs.Moves.{Sketch}

-- what a draft holds, what one step may make of it, and what is computed of that
abbrev pub tight : ℕ
tight = 32

abbrev pub loose : ℕ
loose = 1000

abbrev pub vast : ℕ
vast = 10000

pub record SmallFigure (most : ℕ) (e : Figure) : Type 0 where
  pub nodes : e.nodes ≤ most
  pub depth : e.depth ≤ most

pub record SmallBeside (most : ℕ) (b : Beside) : Type 0 where
  pub nodes : b.nodes ≤ most
  pub depth : b.depth ≤ most

pub record SmallSurround (most : ℕ) (m : Surround) : Type 0 where
  pub nodes : m.nodes ≤ most
  pub depth : m.depth ≤ most
  pub least : m.least ≤ most

-- its parts to the left and what lies around it
pub record SmallParen (most : ℕ) (p : Paren) : Type 0 where
  pub union : SmallBeside most p.union
  pub cat : SmallBeside most p.cat
  pub surround : SmallSurround most p.surround

-- what is large stands there, and so counts among the nodes
abbrev pub Counted : Beside → Type 0
Counted b = b.there ≡ false → SmallBeside tight b

abbrev pub SmallPoint : ℕ → Point → Type 0
SmallPoint most Beginning = Unit {0}
SmallPoint most FirstWord = Unit {0}
SmallPoint most Named = Unit {0}
SmallPoint most Defined = Unit {0}
SmallPoint most OwnFront = Unit {0}
SmallPoint most WantsTag = Unit {0}
SmallPoint most Tagged = Unit {0}
SmallPoint most (Wants b p) = SmallParen most p
SmallPoint most (InFront m) = SmallSurround tight m
SmallPoint most (After e p) = SmallFigure most e × SmallParen tight p
SmallPoint most (Behind e m) = SmallFigure most e × SmallSurround tight m
SmallPoint most (Over e m) = SmallFigure most e × SmallSurround tight m
SmallPoint most (Closed n) = n ≤ most
SmallPoint most (OwnBack n) = n ≤ most
SmallPoint most (Complete n) = n ≤ most

abbrev pub AllSmall : List Paren → Type 0
AllSmall [] = Unit {0}
AllSmall (p ∷ ps) = SmallParen tight p × AllSmall ps

pub record SmallSketch (k : Sketch) : Type 0 where
  pub point : SmallPoint tight k.point
  pub around : AllSmall k.around
  pub productions : k.productions ≤ most_productions
  pub earlier : k.earlier ≤ most_nodes
