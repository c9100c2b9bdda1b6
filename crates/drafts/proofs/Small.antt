-- From a small place every move is ready to be made, and leads to numbers that can be counted with. Assumes nothing.
use mathlib.Core.Bool.{Bool, true, false, ◌||◌, true≢false}
use Prim.Native.Nat.{ℕ, ◌+◌, ◌≤◌}
use native.Mathlib.Omega.{arith}
use Rattle.sketches.specs.declared.Figure.{Figure}
use Rattle.sketches.specs.declared.Beside.{Beside}
use Rattle.sketches.specs.declared.Paren.{Paren}
use Rattle.sketches.specs.declared.Point.{Point}
use Rattle.sketches.specs.declared.Point.TheVariants.{Beginning, FirstWord, Named, Defined, OwnFront, WantsTag, Tagged, Wants, InFront, After, Behind, Over, Closed, OwnBack, Complete}
use Rattle.sketches.specs.declared.Inside.{Inside}
use Rattle.sketches.specs.declared.Outside.{Outside}
use Rattle.sketches.specs.declared.Move.{Move}
use Rattle.sketches.specs.Figures.{figure, beside, bare, just_opened, lone, joined_if, joined_to, whole_in, clash, fronted_by}
use Rattle.sketches.specs.Moves.{inside_of, outside_of, move_if, unless, wanted, behind_operand, finishing, choice, move_of}
use Rattle.paces.specs.Small.{tight, loose, SmallFigure, SmallBeside, SmallParen, SmallPoint}
use Rattle.drafts.specs.Drafted.{SmallMove}

joined_small : (t : Bool) (n d : ℕ) (e : Figure) (x : ℕ) → n ≤ 32 → d ≤ 32 → SmallFigure x e
    → ((joined_if t (record { there = t; nodes = n; depth = d }) e).nodes ≤ x + 33) × ((joined_if t (record { there = t; nodes = n; depth = d }) e).depth ≤ x + 33)
joined_small true n d e x a b h = (omega arith, omega arith)
joined_small false n d e x a b h = (omega arith, omega arith)

join_small : (b : Beside) (e : Figure) (x : ℕ) → SmallBeside tight b → SmallFigure x e → SmallFigure (x + 33) (joined_to b e)
join_small b e x s h = let k = joined_small b.there b.nodes b.depth e x s.nodes s.depth h in record { nodes = k.0; depth = k.1 }

whole_small : (p : Paren) (e : Figure) → SmallParen tight p → SmallFigure tight e → SmallFigure 98 (whole_in p e)
whole_small p e s h =
    let c = join_small p.cat e 32 s.cat h in
    let u = join_small p.union (joined_to p.cat e) 65 s.union c in
    record { nodes = omega arith; depth = omega arith }

pub looser : (p : Paren) → SmallParen tight p → SmallParen loose p
looser p s =
    let u = s.union in
    let c = s.cat in
    let m = s.surround in
    record { union = record { nodes = omega arith; depth = omega arith }; cat = record { nodes = omega arith; depth = omega arith }; surround = record { nodes = omega arith; depth = omega arith; least = omega arith } }

nothing_small : SmallBeside tight (beside false 0 0)
nothing_small = record { nodes = omega arith; depth = omega arith }

lone_small : SmallFigure loose lone
lone_small = record { nodes = omega arith; depth = omega arith }

if_ready : (b : Bool) (m : Move) → SmallMove m → SmallMove (move_if b m)
if_ready true m h = h
if_ready false m h = tt

unless_ready : (b : Bool) (m : Move) → SmallMove m → SmallMove (unless b m)
unless_ready true m h = tt
unless_ready false m h = h

wanted_ready : (b : Bool) (p : Paren) (i : Inside) → SmallParen tight p → SmallMove (wanted b p i)
wanted_ready b p Inside.Leaf s = ((lone_small, s), tt)
wanted_ready b p Inside.Star s = tt
wanted_ready b p Inside.Dot s = tt
wanted_ready b p Inside.Bar s = tt
wanted_ready b p Inside.Open s = s
wanted_ready b p Inside.Close s = if_ready b Move.Emptied tt
wanted_ready b p Inside.Brace s = if_ready b (Move.To (InFront p.surround)) (s.surround, tt)
wanted_ready b p Inside.Other s = tt

operand_ready : (e : Figure) (p : Paren) (i : Inside) → SmallFigure tight e → SmallParen tight p → SmallMove (behind_operand e p i)
operand_ready e p Inside.Leaf h s = tt
operand_ready e p Inside.Star h s = ((record { nodes = omega arith; depth = omega arith }, s), tt)
operand_ready e p Inside.Dot h s =
    let c = join_small p.cat e 32 s.cat h in
    (record { union = (looser p s).union; cat = record { nodes = omega arith; depth = omega arith }; surround = (looser p s).surround }, (λ z. s.union, λ z. absurd (true≢false z)))
operand_ready e p Inside.Bar h s =
    let w = whole_small p e s h in
    (record { union = record { nodes = omega arith; depth = omega arith }; cat = record { nodes = omega arith; depth = omega arith }; surround = (looser p s).surround }, (λ z. absurd (true≢false z), λ z. nothing_small))
operand_ready e p Inside.Open h s = tt
operand_ready e p Inside.Close h s =
    let w = whole_small p e s h in
    unless_ready (clash p.before (whole_in p e)) (Move.Closed (fronted_by p.before (whole_in p e))) (record { nodes = omega arith; depth = omega arith })
operand_ready e p Inside.Brace h s =
    let w = whole_small p e s h in
    unless_ready (clash p.before (whole_in p e) || (whole_in p e).second)
    (Move.To (Behind (figure (whole_in p e).nodes (whole_in p e).depth (p.before || (whole_in p e).first) true) p.surround)) ((record { nodes = omega arith; depth = omega arith }, s.surround), tt)
operand_ready e p Inside.Other h s = tt

finishing_ready : (e : Figure) (i : Inside) → SmallFigure tight e → SmallMove (finishing e i)
finishing_ready e Inside.Leaf h = tt
finishing_ready e Inside.Star h = tt
finishing_ready e Inside.Dot h = tt
finishing_ready e Inside.Bar h = tt
finishing_ready e Inside.Open h = tt
finishing_ready e Inside.Close h = record { nodes = omega arith; depth = omega arith }
finishing_ready e Inside.Brace h = tt
finishing_ready e Inside.Other h = tt

choice_ready : (o : Outside) (n t d p b : Move) → SmallMove n → SmallMove t → SmallMove d → SmallMove p → SmallMove b → SmallMove (choice o n t d p b)
choice_ready Outside.Nonterminal n t d p b v w x y z = v
choice_ready Outside.Name n t d p b v w x y z = w
choice_ready Outside.Definition n t d p b v w x y z = x
choice_ready Outside.Open n t d p b v w x y z = y
choice_ready Outside.Brace n t d p b v w x y z = z
choice_ready Outside.Other n t d p b v w x y z = tt

opened_small : SmallParen tight (just_opened bare)
opened_small = record {
  union = record { nodes = omega arith; depth = omega arith };
  cat = record { nodes = omega arith; depth = omega arith };
  surround = record { nodes = omega arith; depth = omega arith; least = omega arith };
}

pub ready_move : (p : Point) (k : ℕ) → SmallPoint tight p → SmallMove (move_of p k)
ready_move Beginning k h = choice_ready (outside_of k) _ _ _ _ _ (tt, tt) tt tt tt tt
ready_move FirstWord k h = choice_ready (outside_of k) _ _ _ _ _ (tt, tt) tt (tt, tt) tt tt
ready_move Named k h = choice_ready (outside_of k) _ _ _ _ _ tt tt (tt, tt) tt tt
ready_move Defined k h = choice_ready (outside_of k) _ _ _ _ _ tt (tt, tt) tt tt (tt, tt)
ready_move OwnFront k h = tt
ready_move WantsTag k h = choice_ready (outside_of k) _ _ _ _ _ tt (tt, tt) tt tt tt
ready_move Tagged k h = choice_ready (outside_of k) _ _ _ _ _ tt tt tt (looser (just_opened bare) opened_small, opened_small) tt
ready_move (Wants b p) k h = wanted_ready b p (inside_of k) h
ready_move (InFront m) k h = tt
ready_move (After e p) k h = operand_ready e p (inside_of k) h.0 h.1
ready_move (Behind e m) k h = tt
ready_move (Over e m) k h = finishing_ready e (inside_of k) h.0
ready_move (Closed n) k h = choice_ready (outside_of k) _ _ _ _ _ h tt tt tt (omega arith, tt)
ready_move (OwnBack n) k h = tt
ready_move (Complete n) k h = choice_ready (outside_of k) _ _ _ _ _ h tt tt tt tt
