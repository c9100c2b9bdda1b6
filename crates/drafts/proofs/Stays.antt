-- What a move leads to can be counted with, and where it keeps the limits of a text it is small again. Assumes nothing.
use mathlib.Core.Path.{◌≡◌, refl, sym, ◌∙◌, ap, subst}
use mathlib.Core.Bool.{Bool, true, false, ◌&&◌, true≢false}
use Rattle.std.specs.Prelude.{Some, None}
use mathlib.Core.Option.{Option, none, some}
use mathlib.Core.List.{List, [], ◌∷◌}
use Prim.Native.Nat.{ℕ, ◌+◌, ◌≤◌, ◌<◌}
use native.Mathlib.Omega.{arith}
use lib.Dec.{ltb}
use lib.ListN.{length}
use borrow.Author.Tests.{ltb-true}
use Rattle.notation.specs.Statements.{parentheses}
use Rattle.programs.specs.Parsed.{which_visit}
use Rattle.lexemes.specs.Kinds.{kinds}
use Rattle.sketches.specs.declared.Figure.{Figure}
use Rattle.sketches.specs.declared.Beside.{Beside}
use Rattle.sketches.specs.declared.Surround.{Surround}
use Rattle.sketches.specs.declared.Paren.{Paren}
use Rattle.sketches.specs.declared.Point.{Point}
use Rattle.sketches.specs.declared.Point.TheVariants.{Beginning, FirstWord, Named, Defined, OwnFront, WantsTag, Tagged, Wants, InFront, After, Behind, Over, Closed, OwnBack, Complete}
use Rattle.sketches.specs.declared.Move.{Move}
use Rattle.sketches.specs.Figures.{bit_of, figure, beside, lone, joined_if, joined_to, whole_in, sealed_by, held_in, nodes_with, depth_with, fronting, beyond_if, beyond, inner_of, just_opened}
use Rattle.sketches.specs.Moves.{Sketch, sketched, opened_if, closed_in, emptied_in, after_move_lem, nodes_there, depth_there, sketch_fits, sketch_if, where_fit, step_sketch, move_of, program_at, text_ends, unbraced, unbraced_sketch}
use Rattle.paces.specs.Small.{tight, loose, Counted, SmallFigure, SmallBeside, SmallSurround, SmallParen, SmallPoint, AllSmall, SmallSketch}
use Rattle.drafts.specs.declared.Draft.{Draft}
use Rattle.drafts.specs.declared.Place.{Place}
use Rattle.drafts.specs.Drafted.{stacked, sketch_of, SoundDraft, SmallMove, SmallUncounted, DraftStepIs, DraftIs, plainly, reading, PointIs}
use Rattle.drafts.proofs.Laws.{stacked_length}
use Rattle.drafts.proofs.Small.{ready_move}

-- what lies around, one part further in
bit_small : (b : Bool) → bit_of b ≤ 1
bit_small true = omega arith
bit_small false = omega arith

fronting_small : (b : Bool) (m : Surround) → SmallSurround tight m → SmallSurround 33 (fronting b m)
fronting_small false m s = record { nodes = omega arith; depth = omega arith; least = omega arith }
fronting_small true m s =
    let b = bit_small m.star in
    record { nodes = omega (arith, s.nodes, b); depth = omega (arith, s.depth, b); least = omega (arith, s.least) }

beyond_if_lem : (t : Bool) (b : Beside) (m : Surround) (x : ℕ) → SmallBeside tight b → SmallSurround x m → SmallSurround (x + 33) (beyond_if t b m)
beyond_if_lem true b m x h s = record { nodes = omega (arith, h.nodes, s.nodes); depth = omega (arith, s.depth); least = omega (arith, h.depth, s.depth, s.least) }
beyond_if_lem false b m x h s = record { nodes = omega (arith, s.nodes); depth = omega (arith, s.depth); least = omega (arith, s.least) }

inner_small : (p : Paren) → SmallParen tight p → SmallSurround loose (inner_of p)
inner_small p s =
    let f = fronting_small p.before p.surround s.surround in
    let u = beyond_if_lem p.union.there p.union (fronting p.before p.surround) 33 s.union f in
    let c = beyond_if_lem p.cat.there p.cat (beyond p.union (fronting p.before p.surround)) 66 s.cat u in
    record { nodes = omega (arith, c.nodes); depth = omega (arith, c.depth); least = omega (arith, c.least) }

-- a tree that is small with what lies around it is small, and so is that
pub with_small : (m : Surround) (e : Figure) → nodes_with m e ≤ tight → depth_with m e ≤ tight → SmallSurround tight m × SmallFigure tight e
with_small m e h i = (record { nodes = omega (arith, h); depth = omega (arith, i); least = omega (arith, i) }, record { nodes = omega (arith, h); depth = omega (arith, i) })

joined_parts : (t : Bool) (n d : ℕ) (e : Figure) → (t ≡ false → SmallBeside tight (beside t n d)) → SmallFigure tight (joined_if t (beside t n d) e) → SmallBeside tight (beside t n d) × SmallFigure tight e
joined_parts true n d e h s = (record { nodes = omega (arith, s.nodes); depth = omega (arith, s.depth) }, record { nodes = omega (arith, s.nodes); depth = omega (arith, s.depth) })
joined_parts false n d e h s = (h refl, s)

join_parts : (b : Beside) (e : Figure) → Counted b → SmallFigure tight (joined_to b e) → SmallBeside tight b × SmallFigure tight e
join_parts b e h s = joined_parts b.there b.nodes b.depth e h s

sealed_parts : (b : Bool) (n d : ℕ) (f g : Bool) → SmallFigure tight (sealed_by b (figure n d f g)) → SmallFigure tight (figure n d f g)
sealed_parts false n d f g s = s
sealed_parts true n d true g s = record { nodes = omega (arith, s.nodes); depth = omega (arith, s.depth) }
sealed_parts true n d false g s = record { nodes = s.nodes; depth = s.depth }

sealed_small : (b : Bool) (e : Figure) → SmallFigure tight (sealed_by b e) → SmallFigure tight e
sealed_small b e s = sealed_parts b e.nodes e.depth e.first e.second s

pub held_small : (p : Paren) (e : Figure) → Counted p.union → Counted p.cat → SmallFigure tight (held_in p e) → (SmallBeside tight p.union × SmallBeside tight p.cat) × SmallFigure tight e
held_small p e u c s =
    let w = join_parts p.union (joined_to p.cat e) u (sealed_small p.before (whole_in p e) s) in
    let v = join_parts p.cat e c w.1 in
    ((w.0, v.0), v.1)

-- a point whose size is small
pub point_small : (p : Point) (ps : List Paren) → SmallPoint loose p → SmallUncounted p → nodes_there p ps ≤ tight → depth_there p ps ≤ tight → SmallPoint tight p
point_small Beginning ps h u n d = tt
point_small FirstWord ps h u n d = tt
point_small Named ps h u n d = tt
point_small Defined ps h u n d = tt
point_small OwnFront ps h u n d = tt
point_small WantsTag ps h u n d = tt
point_small Tagged ps h u n d = tt
point_small (Wants true p) ps h u n d = u
point_small (Wants false p) ps h u n d =
    let m = with_small p.surround (held_in p lone) n d in
    let k = held_small p lone u.0 u.1 m.1 in
    record { union = k.0.0; cat = k.0.1; surround = m.0 }
point_small (InFront m) ps h u n d = h
point_small (After e p) ps h u n d =
    ((held_small p e (λ z. h.1.union) (λ z. h.1.cat) (with_small p.surround (held_in p e) n d).1).1, h.1)
point_small (Behind e m) ps h u n d = ((with_small m e n d).1, h.1)
point_small (Over e m) ps h u n d = ((with_small m e n d).1, h.1)
point_small (Closed x) ps h u n d = n
point_small (OwnBack x) ps h u n d = n
point_small (Complete x) ps h u n d = n

-- what is known of the place behind a move before it is known to keep the limits
pub record Countable (k : Sketch) : Type 0 where
  pub point : SmallPoint loose k.point
  pub around : AllSmall k.around
  pub few : length k.around ≤ tight
  pub earlier : k.earlier ≤ loose
  pub tightens : nodes_there k.point k.around ≤ tight → depth_there k.point k.around ≤ tight → SmallPoint tight k.point

pub data Led : Option Sketch → Type 0 where
  nowhere : Led none
  there : (k : Sketch) → Countable k → Led (some k)

opened_led : (p : Paren) (k : Sketch) (b : Bool) → (b ≡ true → length k.around < parentheses) → SmallSketch k → SmallParen tight p → Led (opened_if b p k)
opened_led p k false l h s = nowhere
opened_led p k true l h s =
    let m = inner_small p s in
    let f = l refl in
    there (sketched (Wants true (just_opened (inner_of p))) (p ∷ k.around) k.productions k.earlier) (record {
      point = record { union = record { nodes = omega arith; depth = omega arith }; cat = record { nodes = omega arith; depth = omega arith }; surround = m };
      around = (s, h.around);
      few = omega (arith, f);
      earlier = omega (arith, h.earlier);
      tightens = λ n d. record { union = record { nodes = omega arith; depth = omega arith }; cat = record { nodes = omega arith; depth = omega arith }; surround = (with_small (inner_of p) lone n d).0 };
    })

closed_led : (ps : List Paren) (e : Figure) (k : Sketch) → AllSmall ps → length ps ≤ tight → k.earlier ≤ loose → SmallFigure loose e → Led (closed_in ps e k)
closed_led [] e k a l m h = there (sketched (Closed e.nodes) [] k.productions k.earlier) (record { point = h.nodes; around = tt; few = omega arith; earlier = m; tightens = λ n d. n })
closed_led (p ∷ ps) e k a l m h = there (sketched (After e p) ps k.productions k.earlier) (record { point = (h, a.0); around = a.1; few = omega (arith, l); earlier = m; tightens = λ n d. point_small (After e p) ps (h, a.0) tt n d })

emptied_led : (ps : List Paren) (k : Sketch) → k.earlier ≤ loose → Led (emptied_in ps k)
emptied_led [] k m = there (sketched (Closed 0) [] k.productions k.earlier) (record { point = omega arith; around = tt; few = omega arith; earlier = m; tightens = λ n d. n })
emptied_led (p ∷ ps) k m = nowhere

pub led : (k : Sketch) (m : Move) → SmallSketch k → length k.around ≤ tight → SmallMove m → Led (after_move_lem k m)
led k Move.Refused h l r = nowhere
led k (Move.To p) h l r = there (sketched p k.around k.productions k.earlier) (record { point = r.0; around = h.around; few = l; earlier = omega (arith, h.earlier); tightens = λ n d. point_small p k.around r.0 r.1 n d })
led k (Move.Opened p) h l r = opened_led p k (ltb (length k.around) parentheses) (λ z. ltb-true (length k.around) parentheses z) h r
led k (Move.Closed e) h l r = closed_led k.around e k h.around l (omega (arith, h.earlier)) r
led k Move.Emptied h l r = emptied_led k.around k (omega (arith, h.earlier))
led k (Move.Next n) h l r = there (sketched Named k.around (k.productions + 1) (k.earlier + n)) (record { point = tt; around = h.around; few = l; earlier = omega (arith, h.earlier, r); tightens = λ x y. tt })

-- the four tests
all_four : (a b c d : Bool) → (a && (b && (c && d))) ≡ true → ((a ≡ true) × (b ≡ true)) × ((c ≡ true) × (d ≡ true))
all_four true true true d h = ((refl, refl), (refl, h))
all_four true true false d h = absurd (true≢false (sym h))
all_four true false c d h = absurd (true≢false (sym h))
all_four false b c d h = absurd (true≢false (sym h))

pub small_again : (k : Sketch) → Countable k → sketch_fits k ≡ true → SmallSketch k
small_again k c h =
    let n = nodes_there k.point k.around in
    let d = depth_there k.point k.around in
    let f = all_four (ltb k.productions 64) (ltb (k.earlier + n) 257) (ltb n 33) (ltb d 13) h in
    let a = ltb-true k.productions 64 f.0.0 in
    let b = ltb-true (k.earlier + n) 257 f.0.1 in
    let x = ltb-true n 33 f.1.0 in
    let y = ltb-true d 13 f.1.1 in
    record { point = c.tightens (omega (arith, x)) (omega (arith, y)); around = c.around; productions = omega (arith, a); earlier = omega (arith, b) }

-- the step of a draft
pub asks_move : (d : Draft) (kind : ℕ) → (kind < kinds) × SoundDraft d → (kind < kinds) × SmallPoint tight d.point
asks_move d kind h = (h.0, h.1.small.point)

pub asks_after_move : (d : Draft) (kind : ℕ) (m : Move) → (kind < kinds) × SoundDraft d → m ≡ move_of d.point kind → SoundDraft d × SmallMove m
asks_after_move d kind m h e = (h.1, subst SmallMove (sym e) (ready_move d.point kind h.1.small.point))

led_some : (o : Option Sketch) (k : Sketch) → Led o → o ≡ some k → Countable k
led_some none k l e = let y : ◌≡◌ {A = ℕ} 0 1 = cc in absurd (omega arith)
led_some (some x) k (there y c) e = let z : y ≡ k = cc in subst Countable z c

countable : (d : Draft) (kind : ℕ) (m : Move) (k : Draft) → (kind < kinds) × SoundDraft d → m ≡ move_of d.point kind → after_move_lem (sketch_of d) m ≡ some (sketch_of k) → Countable (sketch_of k)
countable d kind m k h e t =
    led_some (after_move_lem (sketch_of d) m) (sketch_of k)
    (led (sketch_of d) m h.1.small (subst (λ n. n ≤ tight) (sym (stacked_length d.around d.«open»)) h.1.few_open) (asks_after_move d kind m h e).1)
    t

pub asks_fits : (d : Draft) (kind : ℕ) (m : Move) (k : Draft) → (kind < kinds) × SoundDraft d → m ≡ move_of d.point kind → after_move_lem (sketch_of d) m ≡ some (sketch_of k) → SmallPoint loose k.point × (k.earlier ≤ loose)
asks_fits d kind m k h e t = let c = countable d kind m k h e t in (c.point, c.earlier)

-- the step by what the move leads to
stepped_by : (d : Draft) (kind : ℕ) (m : Move) (o : Option Sketch) → m ≡ move_of d.point kind → after_move_lem (sketch_of d) m ≡ o → step_sketch (sketch_of d) kind ≡ where_fit o
stepped_by d kind m o e t = ap (λ x. where_fit (after_move_lem (sketch_of d) x)) (sym e) ∙ ap where_fit t

pub step_taken : (d : Draft) (kind : ℕ) (m : Move) (k : Draft) (f : Bool) → (kind < kinds) × SoundDraft d → m ≡ move_of d.point kind → after_move_lem (sketch_of d) m ≡ some (sketch_of k) → f ≡ sketch_fits (sketch_of k) → f ≡ true
    → DraftStepIs d kind (Some k)
step_taken d kind m k f h e t g z =
    let c = countable d kind m k h e t in
    record {
      same = stepped_by d kind m _ e t ∙ ap (λ b. sketch_if b (sketch_of k)) (sym g ∙ z);
      sound = record { few_open = subst (λ n. n ≤ tight) (stacked_length k.around k.«open») c.few; small = small_again (sketch_of k) c (sym g ∙ z) };
    }

pub step_unfit : (d : Draft) (kind : ℕ) (m : Move) (k : Draft) (f : Bool) → m ≡ move_of d.point kind → after_move_lem (sketch_of d) m ≡ some (sketch_of k) → f ≡ sketch_fits (sketch_of k) → f ≡ false → DraftStepIs d kind None
step_unfit d kind m k f e t g z = record { same = stepped_by d kind m _ e t ∙ ap (λ b. sketch_if b (sketch_of k)) (sym g ∙ z); sound = tt }

pub step_refused : (d : Draft) (kind : ℕ) (m : Move) → m ≡ move_of d.point kind → after_move_lem (sketch_of d) m ≡ none → DraftStepIs d kind None
step_refused d kind m e t = record { same = stepped_by d kind m _ e t; sound = tt }

-- the place of a point, and the point behind a program
pub place_plain : (p q : Point) (e : Bool) (r : Place) → p ≡ q → r ≡ plainly p e → program_at q ≡ none → e ≡ text_ends q → q ≡ unbraced q → PointIs p r
place_plain p q e r h i a b c = subst (PointIs p) (sym i) (subst (λ x. PointIs x (plainly x e)) (sym h) (record { program = a; ends = b; behind = c }))

pub place_program : (p q z : Point) (b : Bool) (r : Place) → p ≡ q → r ≡ reading b z → program_at q ≡ some (which_visit b) → false ≡ text_ends q → z ≡ unbraced q → PointIs p r
place_program p q z b r h i a e c = subst (PointIs p) (sym i) (subst (λ x. PointIs x (reading b z)) (sym h) (record { program = a; ends = e; behind = c }))

unbraced_small : (p : Point) → SmallPoint tight p → SmallPoint tight (unbraced p)
unbraced_small Beginning h = h
unbraced_small FirstWord h = h
unbraced_small Named h = h
unbraced_small Defined h = h
unbraced_small OwnFront h = h
unbraced_small WantsTag h = h
unbraced_small Tagged h = h
unbraced_small (Wants b p) h = h
unbraced_small (InFront m) h = record { union = record { nodes = omega arith; depth = omega arith }; cat = record { nodes = omega arith; depth = omega arith }; surround = h }
unbraced_small (After e p) h = h
unbraced_small (Behind e m) h = h
unbraced_small (Over e m) h = h
unbraced_small (Closed n) h = h
unbraced_small (OwnBack n) h = h
unbraced_small (Complete n) h = h

pub unbraced_is : (d : Draft) (q : Point) → SoundDraft d → q ≡ unbraced d.point → DraftIs (unbraced_sketch (sketch_of d)) (record { point = q; around = d.around; «open» = d.«open»; productions = d.productions; earlier = d.earlier })
unbraced_is d q h e = record {
  same = ap (λ x. sketched x (stacked d.around d.«open») d.productions d.earlier) e;
  sound = record { few_open = h.few_open; small = record { point = subst (SmallPoint tight) (sym e) (unbraced_small d.point h.small.point); around = h.small.around; productions = h.small.productions; earlier = h.small.earlier } };
}
