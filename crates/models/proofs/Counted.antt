-- Nodes and depth of the expression of a content model, as the marks count them. Assumes nothing.
use mathlib.Core.Path.{◌≡◌, refl, sym, ◌∙◌, ap, ap₂}
use mathlib.Core.List.{List, [], ◌∷◌}
use Prim.Native.Nat.{ℕ, suc, ◌+◌, ◌*◌, ◌≤◌, max}
use native.Mathlib.Omega.{arith}
use lib.ListN.{length}
use Rattle.expressions.specs.Expr.{nonterminal, anychar, Exp, atom, alt, nodes, depth}
use Rattle.models.specs.Models.{Model, called, sequence, choice, optional, any_number, at_least_one, nothing_inside, mixed, children}
use Rattle.models.specs.Expressions.{model_expression, or_names, model_nodes, model_depth}
use Rattle.models.specs.Promises.{NodesCounted, DepthCounted}

module _ (number : List ℕ → ℕ) where
  pub counted : (x : Model) → nodes (model_expression number x) ≡ model_nodes x
  counted (called n) = refl
  counted (sequence x y) = omega (arith, counted x, counted y)
  counted (choice x y) = omega (arith, counted x, counted y)
  counted (optional x) = omega (arith, counted x)
  counted (any_number x) = omega (arith, counted x)
  counted (at_least_one x) = omega (arith, counted x)

  deep : (x : Model) → (depth (model_expression number x) ≡ model_depth x) × (1 ≤ model_depth x)
  deep (called n) = (refl, omega arith)
  deep (sequence x y) = let h = deep x in let k = deep y in (rw (h.0, k.0) (omega arith), omega arith)
  deep (choice x y) = let h = deep x in let k = deep y in (rw (h.0, k.0) (omega arith), omega arith)
  deep (optional x) = let h = deep x in (rw h.0 (omega (arith, h.1)), omega arith)
  deep (any_number x) = let h = deep x in (rw h.0 (omega arith), omega arith)
  deep (at_least_one x) = let h = deep x in (rw h.0 (omega arith), omega arith)

  or_nodes : (e : Exp) (names : List (List ℕ)) → nodes (or_names number e names) ≡ 2 * length names + nodes e
  or_nodes e [] = omega arith
  or_nodes e (n ∷ names) = omega (arith, or_nodes (alt e (atom (nonterminal (number n)))) names)

  or_depth : (e : Exp) (names : List (List ℕ)) → 1 ≤ depth e → depth (or_names number e names) ≡ length names + depth e
  or_depth e [] h = omega arith
  or_depth e (n ∷ names) h = omega (arith, or_depth (alt e (atom (nonterminal (number n)))) names (omega arith))

pub nodes_counted : NodesCounted
nodes_counted number nothing_inside = refl
nodes_counted number (mixed names) = omega (arith, or_nodes number (atom anychar) names)
nodes_counted number (children x) = counted number x

pub depth_counted : DepthCounted
depth_counted number nothing_inside = refl
depth_counted number (mixed names) = omega (arith, or_depth number (atom anychar) names (omega arith))
depth_counted number (children x) = (deep number x).0
