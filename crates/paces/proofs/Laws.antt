-- What each answer of the functions of figures comes to. Assumes nothing.
use mathlib.Core.Path.{◌≡◌, refl, sym, ◌∙◌, ap, subst}
use mathlib.Core.Bool.{Bool, true, false, ◌&&◌, ◌||◌, or-true}
use Prim.Native.Nat.{ℕ, ◌+◌, ◌≤◌, max}
use native.Mathlib.Omega.{arith}
use Rattle.sketches.specs.declared.Figure.{Figure}
use Rattle.sketches.specs.declared.Beside.{Beside}
use Rattle.sketches.specs.declared.Surround.{Surround}
use Rattle.sketches.specs.declared.Paren.{Paren}
use Rattle.sketches.specs.declared.Point.TheVariants.{Wants, InFront, After, Behind}
use Rattle.sketches.specs.declared.Inside.{Inside}
use Rattle.sketches.specs.declared.Outside.{Outside}
use Rattle.sketches.specs.declared.Move.{Move}
use Rattle.sketches.specs.declared.Point.{Point}
use Rattle.sketches.specs.Moves.{inside_of, outside_of, move_as, move_of, wanted, dotted, barred, shut, backed_by, behind_operand, finishing, choice}
use Rattle.sketches.specs.Figures.{beside, paren, lone, left_of, bit_of, figure, surround, joined_if, joined_to, whole_in, starred_if, sealed_by, held_in, fronting, beyond_if, beyond, inner_of}
use Rattle.paces.specs.Small.{tight, SmallFigure, SmallParen, SmallPoint}
use Rattle.paces.specs.Made.{BitIs, JoinedIs, WholeIs, FigureSealedIs, HeldIs, FrontingIs, BeyondIs}

pub joined_there : (b : Beside) (e : Figure) (m : ℕ) → b.there ≡ true → m ≡ max b.depth e.depth → JoinedIs b e (figure (b.nodes + e.nodes + 1) (m + 1) false false)
joined_there b e m h i = record {
  same = ap (λ x. figure (b.nodes + e.nodes + 1) (x + 1) false false) i ∙ sym (ap (λ x. joined_if x b e) h);
  nodes = omega arith;
  depth = omega (arith, i);
}

pub sealed_twice : (b : Bool) (e : Figure) → b ≡ true → e.first ≡ true → FigureSealedIs b e (figure (e.nodes + 1) (e.depth + 1) true false)
sealed_twice b e h i = record { same = sym (ap (λ x. sealed_by x e) h ∙ ap (λ x. starred_if x e) i); nodes = omega arith; depth = omega arith }

pub sealed_once : (b : Bool) (e : Figure) → b ≡ true → e.first ≡ false → FigureSealedIs b e (figure e.nodes e.depth true e.second)
sealed_once b e h i = record { same = sym (ap (λ x. sealed_by x e) h ∙ ap (λ x. starred_if x e) i); nodes = omega arith; depth = omega arith }

pub whole_of : (p : Paren) (e c u : Figure) → JoinedIs p.cat e c → JoinedIs p.union c u → WholeIs p e u
whole_of p e c u h i = record { same = i.same ∙ ap (joined_to p.union) h.same; nodes = omega arith; depth = omega arith }

pub held_of : (p : Paren) (e w r : Figure) → WholeIs p e w → FigureSealedIs p.before w r → HeldIs p e r
held_of p e w r h i = record { same = i.same ∙ ap (sealed_by p.before) h.same; nodes = omega arith; depth = omega arith }

pub fronting_there : (b : Bool) (m : Surround) (s : ℕ) → b ≡ true → BitIs true m.star s → FrontingIs b m (surround (m.nodes + s) (m.depth + s) m.least true)
fronting_there b m s h i = record {
  same = ap (λ x. surround (m.nodes + x) (m.depth + x) m.least true) i.same ∙ sym (ap (λ x. fronting x m) h);
  nodes = omega arith;
  depth = omega arith;
  least = omega arith;
}

pub beyond_there : (b : Beside) (m : Surround) (l : ℕ) → b.there ≡ true → l ≡ max (b.depth + m.depth + 1) m.least → BeyondIs b m (surround (b.nodes + m.nodes + 1) (m.depth + 1) l false)
beyond_there b m l h i = record {
  same = ap (λ x. surround (b.nodes + m.nodes + 1) (m.depth + 1) x false) i ∙ sym (ap (λ x. beyond_if x b m) h);
  nodes = omega arith;
  depth = omega arith;
  least = omega (arith, i);
}

pub inner_of_lem : (p : Paren) (f u r : Surround) → FrontingIs p.before p.surround f → BeyondIs p.union f u → BeyondIs p.cat u r → r ≡ inner_of p
inner_of_lem p f u r h i j = j.same ∙ ap (beyond p.cat) (i.same ∙ ap (beyond p.union) h.same)

-- what a token does
pub choice_nonterminal : (o : Outside) (n t d p b : Move) → o ≡ Outside.Nonterminal → n ≡ choice o n t d p b
choice_nonterminal o n t d p b h = rw h

pub choice_name : (o : Outside) (n t d p b : Move) → o ≡ Outside.Name → t ≡ choice o n t d p b
choice_name o n t d p b h = rw h

pub choice_definition : (o : Outside) (n t d p b : Move) → o ≡ Outside.Definition → d ≡ choice o n t d p b
choice_definition o n t d p b h = rw h

pub choice_open : (o : Outside) (n t d p b : Move) → o ≡ Outside.Open → p ≡ choice o n t d p b
choice_open o n t d p b h = rw h

pub choice_brace : (o : Outside) (n t d p b : Move) → o ≡ Outside.Brace → b ≡ choice o n t d p b
choice_brace o n t d p b h = rw h

pub choice_other : (o : Outside) (n t d p b : Move) → o ≡ Outside.Other → Move.Refused ≡ choice o n t d p b
choice_other o n t d p b h = rw h

pub finishing_close : (e : Figure) (i : Inside) → i ≡ Inside.Close → Move.Closed e ≡ finishing e i
finishing_close e i h = rw h

pub wanted_open : (b : Bool) (p : Paren) (i : Inside) → i ≡ Inside.Open → Move.Opened p ≡ wanted b p i
wanted_open b p i h = rw h

pub wanted_leaf : (b : Bool) (p : Paren) (i : Inside) → i ≡ Inside.Leaf → Move.To (After lone p) ≡ wanted b p i
wanted_leaf b p i h = rw h

pub wanted_brace : (b : Bool) (p : Paren) (i : Inside) → b ≡ true → i ≡ Inside.Brace → Move.To (InFront p.surround) ≡ wanted b p i
wanted_brace b p i h j = rw (j, h)

pub shut_once : (b : Bool) (e : Figure) → b ≡ true → e.first ≡ false → Move.Closed (figure e.nodes e.depth true e.second) ≡ shut b e
shut_once b e h i = rw (h, i)

pub shut_bare : (b : Bool) (e : Figure) → b ≡ false → Move.Closed e ≡ shut b e
shut_bare b e h = rw h

pub backed_second : (b : Bool) (m : Surround) (e : Figure) → e.second ≡ true → Move.Refused ≡ backed_by b m e
backed_second b m e h = rw (h, or-true)

pub backed_once : (b : Bool) (m : Surround) (e : Figure) → e.second ≡ false → b ≡ true → e.first ≡ false → Move.To (Behind (figure e.nodes e.depth true true) m) ≡ backed_by b m e
backed_once b m e h i j = rw (h, i, j)

pub backed_bare : (b : Bool) (m : Surround) (e : Figure) → e.second ≡ false → b ≡ false → Move.To (Behind (figure e.nodes e.depth e.first true) m) ≡ backed_by b m e
backed_bare b m e h i = rw (h, i)

pub dotted_of : (e c : Figure) (p : Paren) → JoinedIs p.cat e c → paren p.before p.union (beside true c.nodes c.depth) p.surround ≡ dotted e p
dotted_of e c p h = ap (λ x. paren p.before p.union (left_of x) p.surround) h.same

pub barred_of : (e w : Figure) (p : Paren) → WholeIs p e w → paren p.before (beside true w.nodes w.depth) (beside false 0 0) p.surround ≡ barred e p
barred_of e w p h = ap (λ x. paren p.before (left_of x) (beside false 0 0) p.surround) h.same

pub operand_star : (e : Figure) (p : Paren) (i : Inside) → i ≡ Inside.Star → Move.To (After (figure (e.nodes + 1) (e.depth + 1) false false) p) ≡ behind_operand e p i
operand_star e p i h = rw h

pub operand_dot : (e : Figure) (p q : Paren) (i : Inside) → i ≡ Inside.Dot → q ≡ dotted e p → Move.To (Wants false q) ≡ behind_operand e p i
operand_dot e p q i h j = rw (h, j)

pub operand_bar : (e : Figure) (p q : Paren) (i : Inside) → i ≡ Inside.Bar → q ≡ barred e p → Move.To (Wants false q) ≡ behind_operand e p i
operand_bar e p q i h j = rw (h, j)

pub operand_close : (e w : Figure) (p : Paren) (i : Inside) (m : Move) → i ≡ Inside.Close → WholeIs p e w → m ≡ shut p.before w → m ≡ behind_operand e p i
operand_close e w p i m h j k = k ∙ ap (shut p.before) j.same ∙ sym (ap (behind_operand e p) h)

pub operand_brace : (e w : Figure) (p : Paren) (i : Inside) (m : Move) → i ≡ Inside.Brace → WholeIs p e w → m ≡ backed_by p.before p.surround w → m ≡ behind_operand e p i
operand_brace e w p i m h j k = k ∙ ap (backed_by p.before p.surround) j.same ∙ sym (ap (behind_operand e p) h)

pub operand_leaf : (e : Figure) (p : Paren) (i : Inside) → i ≡ Inside.Leaf → Move.Refused ≡ behind_operand e p i
operand_leaf e p i h = rw h

pub operand_open : (e : Figure) (p : Paren) (i : Inside) → i ≡ Inside.Open → Move.Refused ≡ behind_operand e p i
operand_open e p i h = rw h

pub operand_other : (e : Figure) (p : Paren) (i : Inside) → i ≡ Inside.Other → Move.Refused ≡ behind_operand e p i
operand_other e p i h = rw h

pub move_as_lem : (p q : Point) (k : ℕ) (o : Outside) (i : Inside) (r : Move) → p ≡ q → o ≡ outside_of k → i ≡ inside_of k → r ≡ move_as q o i → r ≡ move_of p k
move_as_lem p q k o i r h a b e = e ∙ cc

pub small_after : (p : Point) (e : Figure) (q : Paren) → SmallPoint tight p → p ≡ After e q → SmallFigure tight e × SmallParen tight q
small_after p e q h i = subst (SmallPoint tight) i h
