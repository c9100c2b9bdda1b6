-- The numbers of a tree that is put together are those that the parts' numbers give. Assumes nothing.
use mathlib.Core.Path.{◌≡◌, refl, sym, ◌∙◌, ap}
use mathlib.Core.Bool.{Bool, true, false, ◌&&◌}
use mathlib.Core.Option.{Option, none, some}
use mathlib.Core.List.{List, [], ◌∷◌}
use Prim.Native.Nat.{ℕ, suc, ◌+◌, max}
use native.Mathlib.Numerals.{add-one}
use native.Mathlib.Omega.{arith}
use Rattle.expressions.specs.Expr.{nodes, depth}
use Rattle.notation.specs.Program.{TextProgram}
use Rattle.notation.specs.Rules.{Tree, node, Form, star, expression}
use Rattle.reading.specs.Expressions.{ExpressionLevel, joined_cat, joined_alt, whole_expression, sealed, around_expression}
use Rattle.sketches.specs.declared.Figure.{Figure}
use Rattle.sketches.specs.declared.Beside.{Beside}
use Rattle.sketches.specs.declared.Surround.{Surround}
use Rattle.sketches.specs.declared.Paren.{Paren}
use Rattle.sketches.specs.Figures.{present, bit_of, figure, beside, surround, first_of, figure_of, beside_of, starred, joined_if, joined_to, whole_in, starred_if, sealed_by, held_in, nodes_with, depth_with, fronting, beyond_if, beyond, inner_of, paren_in, surround_of, paren_of}

pub cat_figure : (c : Option Tree) (e : Tree) → figure_of (joined_cat c e) ≡ joined_to (beside_of c) (figure_of e)
cat_figure none e = refl
cat_figure (some c) e = simp add-one

pub alt_figure : (a : Option Tree) (e : Tree) → figure_of (joined_alt a e) ≡ joined_to (beside_of a) (figure_of e)
alt_figure none e = refl
alt_figure (some a) e = simp add-one

pub star_figure : (e : Tree) → figure_of (node none none (star e)) ≡ starred (figure_of e)
star_figure e = simp add-one

pub sealed_figure : (b : Option TextProgram) (t : Tree) → figure_of (sealed b t) ≡ sealed_by (present b) (figure_of t)
sealed_figure none (node f g k) = refl
sealed_figure (some p) (node none g k) = refl
sealed_figure (some p) (node (some f) g k) = simp add-one

pub whole_figure : (l : ExpressionLevel) (m : Surround) (e : Tree) → figure_of (whole_expression l e) ≡ whole_in (paren_in l m) (figure_of e)
whole_figure l m e = alt_figure l.alt_left (joined_cat l.cat_left e) ∙ ap (joined_to (beside_of l.alt_left)) (cat_figure l.cat_left e)

pub held_figure : (l : ExpressionLevel) (m : Surround) (e : Tree) → figure_of (sealed l.before (whole_expression l e)) ≡ held_in (paren_in l m) (figure_of e)
held_figure l m e = sealed_figure l.before (whole_expression l e) ∙ ap (sealed_by (present l.before)) (whole_figure l m e)

-- one part further in
fronting_nodes : (b f : Bool) (m : Surround) (n d : ℕ) (g : Bool) → nodes_with (fronting b m) (figure n d f g) ≡ nodes_with m (sealed_by b (figure n d f g))
fronting_nodes true true m n d g = omega arith
fronting_nodes true false m n d g = omega arith
fronting_nodes false f m n d g = refl

fronting_depth : (b f : Bool) (m : Surround) (n d : ℕ) (g : Bool) → depth_with (fronting b m) (figure n d f g) ≡ depth_with m (sealed_by b (figure n d f g))
fronting_depth true true m n d g = omega arith
fronting_depth true false m n d g = omega arith
fronting_depth false f m n d g = refl

no_first : (f : Bool) → bit_of (f && false) ≡ 0
no_first true = refl
no_first false = refl

beyond_nodes : (t : Bool) (n d : ℕ) (m : Surround) (e : Figure) → nodes_with (beyond (beside t n d) m) e ≡ nodes_with m (joined_to (beside t n d) e)
beyond_nodes true n d m e = omega (arith, no_first e.first)
beyond_nodes false n d m e = refl

beyond_depth : (t : Bool) (n d : ℕ) (m : Surround) (e : Figure) → depth_with (beyond (beside t n d) m) e ≡ depth_with m (joined_to (beside t n d) e)
beyond_depth true n d m e = omega (arith, no_first e.first)
beyond_depth false n d m e = refl

pub inner_nodes : (p : Paren) (e : Figure) → nodes_with (inner_of p) e ≡ nodes_with p.surround (held_in p e)
inner_nodes p e =
    let u = p.union in
    let c = p.cat in
    let m = fronting p.before p.surround in
    let w = whole_in p e in
    beyond_nodes c.there c.nodes c.depth (beyond u m) e
    ∙ beyond_nodes u.there u.nodes u.depth m (joined_to c e)
    ∙ fronting_nodes p.before w.first p.surround w.nodes w.depth w.second

pub inner_depth : (p : Paren) (e : Figure) → depth_with (inner_of p) e ≡ depth_with p.surround (held_in p e)
inner_depth p e =
    let u = p.union in
    let c = p.cat in
    let m = fronting p.before p.surround in
    let w = whole_in p e in
    beyond_depth c.there c.nodes c.depth (beyond u m) e
    ∙ beyond_depth u.there u.nodes u.depth m (joined_to c e)
    ∙ fronting_depth p.before w.first p.surround w.nodes w.depth w.second

pub around_nodes : (ls : List ExpressionLevel) (e : Tree) → nodes (expression (around_expression ls e)) ≡ nodes_with (surround_of ls) (figure_of e)
around_nodes [] e = omega (arith, no_first (first_of e))
around_nodes (l ∷ ls) e =
    around_nodes ls (sealed l.before (whole_expression l e)) ∙ ap (nodes_with (surround_of ls)) (held_figure l (surround_of ls) e) ∙ sym (inner_nodes (paren_of l ls) (figure_of e))

pub around_depth : (ls : List ExpressionLevel) (e : Tree) → depth (expression (around_expression ls e)) ≡ depth_with (surround_of ls) (figure_of e)
around_depth [] e = omega (arith, no_first (first_of e))
around_depth (l ∷ ls) e =
    around_depth ls (sealed l.before (whole_expression l e)) ∙ ap (depth_with (surround_of ls)) (held_figure l (surround_of ls) e) ∙ sym (inner_depth (paren_of l ls) (figure_of e))
