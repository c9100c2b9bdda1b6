-- What regrouping concatenations leaves of a parse: the number of its nodes, its depth, its events and their marks, as one thing.
-- Assumes nothing.
use mathlib.Core.Path.{◌≡◌}
use mathlib.Core.Bool.{Bool}
use mathlib.Core.List.{List, ◌++◌, append_assoc}
use Prim.Native.Nat.{ℕ, suc, ◌+◌, max}
use native.Mathlib.Omega.{arith}
use Rattle.expressions.specs.Expr.{Exp, Content}
use Rattle.expressions.specs.Grammar.{Production}
use Rattle.runs.specs.Events.{Event}
use Rattle.runs.specs.Parse.{Element, Children, Parse, Parses, yield, yield_C, yield_P, yield_ps, size, size_C, size_P, size_ps, element_depth, depth_C, depth_P, depth_ps}
use Rattle.runs.specs.Spells.{Mark, marks, marks_C, marks_P, marks_ps}

pub record Shape : Type 0 where
  pub nodes : ℕ
  pub deep : ℕ
  pub events : List Event
  pub flags : Bool → List Mark

-- of two parts, one after the other; and of a part with a node around it
abbrev pub joined : Shape → Shape → Shape
joined x y = record { nodes = x.nodes + y.nodes; deep = max x.deep y.deep; events = x.events ++ y.events; flags = λ b. x.flags b ++ y.flags b }

abbrev pub around : Shape → Shape
around x = record { nodes = suc x.nodes; deep = x.deep; events = x.events; flags = x.flags }

module _ {g : List Production} where
  abbrev pub shape : {n : ℕ} → Element g n → Shape
  shape t = record { nodes = size t; deep = element_depth t; events = yield t; flags = λ b. marks t b }

  abbrev pub shape_c : {c : Content} → Children g c → Shape
  shape_c t = record { nodes = size_C t; deep = depth_C t; events = yield_C t; flags = λ b. marks_C t b }

  abbrev pub shape_P : {e : Exp} → Parse g e → Shape
  shape_P p = record { nodes = size_P p; deep = depth_P p; events = yield_P p; flags = λ b. marks_P p b }

  abbrev pub shape_ps : {e : Exp} → Parses g e → Shape
  shape_ps ps = record { nodes = size_ps ps; deep = depth_ps ps; events = yield_ps ps; flags = λ b. marks_ps ps b }

nodes_same : (a b c : ℕ) → suc (suc (a + b) + c) ≡ suc (a + suc (b + c))
nodes_same a b c = omega arith

max_assoc : (a b c : ℕ) → max (max a b) c ≡ max a (max b c)
max_assoc a b c = omega arith

-- a concatenation regrouped
pub shape_regrouped : (x y z : Shape) → around (joined (around (joined x y)) z) ≡ around (joined x (around (joined y z)))
shape_regrouped x y z i = record {
  nodes = nodes_same x.nodes y.nodes z.nodes i;
  deep = max_assoc x.deep y.deep z.deep i;
  events = append_assoc x.events y.events z.events i;
  flags = λ b. append_assoc (x.flags b) (y.flags b) (z.flags b) i;
}
