-- What each function of figures makes, with how large it is at most. Assumes nothing.
use Rattle.std.specs.Prelude.{◌≡◌, Bool, ◌&&◌, ℕ, ◌+◌, ◌≤◌}
use Rattle.sketches.specs.declared.Figure.{Figure}
use Rattle.sketches.specs.declared.Beside.{Beside}
use Rattle.sketches.specs.declared.Surround.{Surround}
use Rattle.sketches.specs.declared.Paren.{Paren}
use Rattle.sketches.specs.Figures.{bit_of, joined_to, whole_in, sealed_by, held_in, fronting, beyond}

pub record BitIs (a b : Bool) (r : ℕ) : Type 0 where
  pub same : r ≡ bit_of (a && b)
  pub small : r ≤ 1

pub record JoinedIs (b : Beside) (e r : Figure) : Type 0 where
  pub same : r ≡ joined_to b e
  pub nodes : r.nodes ≤ b.nodes + e.nodes + 1
  pub depth : r.depth ≤ b.depth + e.depth + 1

pub record WholeIs (p : Paren) (e r : Figure) : Type 0 where
  pub same : r ≡ whole_in p e
  pub nodes : r.nodes ≤ p.union.nodes + p.cat.nodes + e.nodes + 2
  pub depth : r.depth ≤ p.union.depth + p.cat.depth + e.depth + 2

pub record FigureSealedIs (before : Bool) (e r : Figure) : Type 0 where
  pub same : r ≡ sealed_by before e
  pub nodes : r.nodes ≤ e.nodes + 1
  pub depth : r.depth ≤ e.depth + 1

pub record HeldIs (p : Paren) (e r : Figure) : Type 0 where
  pub same : r ≡ held_in p e
  pub nodes : r.nodes ≤ p.union.nodes + p.cat.nodes + e.nodes + 3
  pub depth : r.depth ≤ p.union.depth + p.cat.depth + e.depth + 3

pub record FrontingIs (before : Bool) (m r : Surround) : Type 0 where
  pub same : r ≡ fronting before m
  pub nodes : r.nodes ≤ m.nodes + 1
  pub depth : r.depth ≤ m.depth + 1
  pub least : r.least ≤ m.least

pub record BeyondIs (b : Beside) (m r : Surround) : Type 0 where
  pub same : r ≡ beyond b m
  pub nodes : r.nodes ≤ b.nodes + m.nodes + 1
  pub depth : r.depth ≤ m.depth + 1
  pub least : r.least ≤ b.depth + m.depth + m.least + 1
