-- What the array of open parentheses is as a list, and what each answer of a move comes to. Assumes nothing.
use mathlib.Core.Path.{◌≡◌, refl, sym, ◌∙◌, ap, subst}
use mathlib.Core.Bool.{Bool, true, false, ◌&&◌, and-true, and-false}
use Rattle.std.specs.Prelude.{Option as Taken, Some, None}
use mathlib.Core.Option.{Option, none, some}
use mathlib.Core.List.{List, [], ◌∷◌, map}
use Prim.Native.Nat.{ℕ, zero, suc, ◌+◌, ◌-◌, ◌≤◌, ◌<◌}
use native.Mathlib.Numerals.{add-one, sub-one}
use native.Mathlib.Omega.{arith}
use lib.Dec.{ltb}
use lib.ListN.{length, length-map, get_or, set}
use lib.Seq.{get_or-set_same, get_or-set_other}
use borrow.Author.Tests.{lt-ltb, le-ltb}
use Rattle.notation.specs.Statements.{parentheses}
use Rattle.sketches.specs.declared.Figure.{Figure}
use Rattle.sketches.specs.declared.Surround.{Surround}
use Rattle.sketches.specs.declared.Paren.{Paren}
use Rattle.sketches.specs.declared.Point.{Point}
use Rattle.sketches.specs.declared.Point.TheVariants.{Wants, InFront, After, Behind, Over, Closed}
use Rattle.sketches.specs.declared.Move.{Move}
use Rattle.sketches.specs.Figures.{bare, inner_of, just_opened, figure, lone, nodes_with, depth_with}
use Rattle.sketches.specs.Moves.{Sketch, sketched, opened_if, closed_in, emptied_in, after_move_lem, nodes_there, depth_there, keeps, sketch_fits}
use Rattle.paces.specs.Small.{tight, loose, vast, SmallFigure, SmallSurround, SmallParen, SmallPoint}
use Rattle.paces.specs.Made.{HeldIs}
use Rattle.drafts.specs.declared.Size.{Size}
use Rattle.drafts.specs.declared.Draft.{Draft}
use Rattle.drafts.specs.Drafted.{stacked, sketch_of, SteppedIs, SoundDraft, SmallMove, SizeIs}

-- how long a field that is an array of structs is: its relation speaks of the mapped list
pub length_of_mapped : {X Y : Type 0} (f : X → Y) (l : List X) (n : ℕ) → length (map f l) ≡ n → length l ≡ n
length_of_mapped f l n p = sym (length-map l f) ∙ p

abbrev blank : Paren
blank = just_opened bare

abbrev draft : Point → List Paren → ℕ → ℕ → ℕ → Draft
draft p a o q n = record { point = p; around = a; «open» = o; productions = q; earlier = n }

pub stacked_length : (ps : List Paren) (n : ℕ) → length (stacked ps n) ≡ n
stacked_length ps zero = refl
stacked_length ps (suc n) = ap suc (stacked_length ps n)

stacked_set : (ps : List Paren) (n m : ℕ) (p : Paren) → m ≤ n → stacked (set ps n p) m ≡ stacked ps m
stacked_set ps n zero p h = refl
stacked_set ps n (suc m) p h =
    let a : get_or (set ps n p) m blank ≡ get_or ps m blank = get_or-set_other ps n m p blank (omega arith) in
    let b = stacked_set ps n m p (omega arith) in
    cc

stacked_push : (ps : List Paren) (n : ℕ) (p : Paren) → n < length ps → stacked (set ps n p) (n + 1) ≡ p ∷ stacked ps n
stacked_push ps n p h =
    let a : get_or (set ps n p) n blank ≡ p = get_or-set_same ps n p blank h in
    let b = stacked_set ps n n p (omega arith) in
    rw add-one (cc)

pub opened_yes : (d : Draft) (p : Paren) (m : Surround) → d.«open» < 32 → length d.around ≡ 32 → m ≡ inner_of p
    → after_move_lem (sketch_of d) (Move.Opened p) ≡ some (sketch_of (draft (Wants true (just_opened m)) (set d.around d.«open» p) (d.«open» + 1) d.productions d.earlier))
opened_yes d p m h l e =
    let a : length (stacked d.around d.«open») < parentheses = omega (arith, stacked_length d.around d.«open») in
    let b = stacked_push d.around d.«open» p (omega arith) in
    ap (λ x. opened_if x p (sketch_of d)) (lt-ltb (length (stacked d.around d.«open»)) parentheses a)
    ∙ ap (λ x. some (sketched (Wants true (just_opened x)) (p ∷ stacked d.around d.«open») d.productions d.earlier)) (sym e)
    ∙ ap (λ x. some (sketched (Wants true (just_opened m)) x d.productions d.earlier)) (sym b)

pub opened_no : (d : Draft) (p : Paren) → 32 ≤ d.«open» → after_move_lem (sketch_of d) (Move.Opened p) ≡ none
opened_no d p h =
    let a : parentheses ≤ length (stacked d.around d.«open») = omega (arith, stacked_length d.around d.«open») in
    ap (λ x. opened_if x p (sketch_of d)) (le-ltb (length (stacked d.around d.«open»)) parentheses a)

empty_stack : (d : Draft) → d.«open» ≡ 0 → stacked d.around d.«open» ≡ []
empty_stack d h = ap (stacked d.around) h

-- what is said of a step's answer is said of its equals
stepped_as : (o p : Option Sketch) (r : Taken Draft) → o ≡ p → SteppedIs p r → SteppedIs o r
stepped_as o p None h s = h ∙ s
stepped_as o p (Some d) h s = h ∙ s

pub closed_last : (d : Draft) (e : Figure) (r : Taken Draft) → d.«open» ≡ 0 → SteppedIs (after_move_lem (sketch_of d) (Move.To (Closed e.nodes))) r → SteppedIs (after_move_lem (sketch_of d) (Move.Closed e)) r
closed_last d e r h s =
    let a = empty_stack d h in
    stepped_as _ _ r (ap (λ x. closed_in x e (sketch_of d)) a ∙ ap (λ x. some (sketched (Closed e.nodes) x d.productions d.earlier)) (sym a)) s

pub emptied_last : (d : Draft) (r : Taken Draft) → d.«open» ≡ 0 → SteppedIs (after_move_lem (sketch_of d) (Move.To (Closed 0))) r → SteppedIs (after_move_lem (sketch_of d) Move.Emptied) r
emptied_last d r h s =
    let a = empty_stack d h in
    stepped_as _ _ r (ap (λ x. emptied_in x (sketch_of d)) a ∙ ap (λ x. some (sketched (Closed 0) x d.productions d.earlier)) (sym a)) s

one_less : (ps : List Paren) (n : ℕ) → (n ≡ 0 → ⊥) → stacked ps n ≡ get_or ps (n - 1) blank ∷ stacked ps (n - 1)
one_less ps zero h = absurd (h refl)
one_less ps (suc n) h = rw sub-one

pub closed_more : (d : Draft) (e : Figure) → (d.«open» ≡ 0 → ⊥)
    → after_move_lem (sketch_of d) (Move.Closed e) ≡ some (sketch_of (draft (After e (get_or d.around (d.«open» - 1) blank)) d.around (d.«open» - 1) d.productions d.earlier))
closed_more d e h = ap (λ x. closed_in x e (sketch_of d)) (one_less d.around d.«open» h)

pub emptied_more : (d : Draft) → (d.«open» ≡ 0 → ⊥) → after_move_lem (sketch_of d) Move.Emptied ≡ none
emptied_more d h = ap (λ x. emptied_in x (sketch_of d)) (one_less d.around d.«open» h)

-- of a move by what it is
pub moved_as : (d : Draft) (m n : Move) (r : Taken Draft) → m ≡ n → SteppedIs (after_move_lem (sketch_of d) n) r → SteppedIs (after_move_lem (sketch_of d) m) r
moved_as d m n r h s = stepped_as _ _ r (ap (after_move_lem (sketch_of d)) h) s

pub ready_opened : (m : Move) (p : Paren) → SmallMove m → m ≡ Move.Opened p → SmallParen tight p
ready_opened m p h e = subst SmallMove e h

pub ready_next : (d : Draft) (m : Move) (n : ℕ) → SoundDraft d → SmallMove m → m ≡ Move.Next n → (d.productions ≤ loose) × ((d.earlier ≤ loose) × (n ≤ loose))
ready_next d m n w h e =
    let k : n ≤ tight = subst SmallMove e h in
    (omega (arith, w.small.productions), (omega (arith, w.small.earlier), omega arith))

-- the size of what a point asks for
pub size_as : (p q : Point) (u n d : ℕ) → p ≡ q → SizeIs q u n d → SizeIs p u n d
size_as p q u n d h s = subst (λ x. SizeIs x u n d) (sym h) s

pub size_here : (p : Point) (u n d : ℕ) → ((ps : List Paren) → n ≡ nodes_there p ps) → ((ps : List Paren) → d ≡ depth_there p ps) → SizeIs p u n d
size_here p u n d h i = record { nodes_are = λ ps e. h ps; depth_is = λ ps e. i ps }

none_open : (ps : List Paren) (p : Paren) → length ps ≡ 0 → (0 ≡ nodes_there (Wants true p) ps) × (0 ≡ depth_there (Wants true p) ps)
none_open [] p h = (refl, refl)
none_open (q ∷ ps) p h = absurd (omega arith)

some_open : (ps : List Paren) (p : Paren) → (length ps ≡ 0 → ⊥) → (nodes_with p.surround lone ≡ nodes_there (Wants true p) ps) × (depth_with p.surround lone ≡ depth_there (Wants true p) ps)
some_open [] p h = absurd (h refl)
some_open (q ∷ ps) p h = (refl, refl)

pub size_empty : (p : Point) (b : Bool) (q : Paren) (u : ℕ) → p ≡ Wants b q → b ≡ true → u ≡ 0 → SizeIs p u 0 0
size_empty p b q u h i j =
    size_as p (Wants true q) u 0 0 (h ∙ ap (λ x. Wants x q) i) (record { nodes_are = λ ps e. (none_open ps q (e ∙ j)).0; depth_is = λ ps e. (none_open ps q (e ∙ j)).1 })

pub size_open : (p : Point) (b : Bool) (q : Paren) (u : ℕ) (r : Size) → p ≡ Wants b q → b ≡ true → (u ≡ 0 → ⊥) → (r.nodes ≡ nodes_with q.surround lone) × (r.depth ≡ depth_with q.surround lone)
    → SizeIs p u r.nodes r.depth
size_open p b q u r h i j s =
    size_as p (Wants true q) u r.nodes r.depth (h ∙ ap (λ x. Wants x q) i)
    (record { nodes_are = λ ps e. s.0 ∙ (some_open ps q (λ z. j (sym e ∙ z))).0; depth_is = λ ps e. s.1 ∙ (some_open ps q (λ z. j (sym e ∙ z))).1 })

pub size_wants : (p : Point) (b : Bool) (q : Paren) (u : ℕ) (w : Figure) (r : Size) → p ≡ Wants b q → b ≡ false → HeldIs q lone w → (r.nodes ≡ nodes_with q.surround w) × (r.depth ≡ depth_with q.surround w)
    → SizeIs p u r.nodes r.depth
size_wants p b q u w r h i k s =
    size_as p (Wants false q) u r.nodes r.depth (h ∙ ap (λ x. Wants x q) i)
    (record { nodes_are = λ ps e. s.0 ∙ ap (nodes_with q.surround) k.same; depth_is = λ ps e. s.1 ∙ ap (depth_with q.surround) k.same })

pub size_after : (p : Point) (f : Figure) (q : Paren) (u : ℕ) (w : Figure) (r : Size) → p ≡ After f q → HeldIs q f w → (r.nodes ≡ nodes_with q.surround w) × (r.depth ≡ depth_with q.surround w)
    → SizeIs p u r.nodes r.depth
size_after p f q u w r h k s =
    size_as p (After f q) u r.nodes r.depth h
    (record { nodes_are = λ ps e. s.0 ∙ ap (nodes_with q.surround) k.same; depth_is = λ ps e. s.1 ∙ ap (depth_with q.surround) k.same })

pub size_front : (p : Point) (m : Surround) (u : ℕ) (r : Size) → p ≡ InFront m → (r.nodes ≡ nodes_with m (figure 1 1 true false)) × (r.depth ≡ depth_with m (figure 1 1 true false)) → SizeIs p u r.nodes r.depth
size_front p m u r h s = size_as p (InFront m) u r.nodes r.depth h (record { nodes_are = λ ps e. s.0; depth_is = λ ps e. s.1 })

pub size_behind : (p : Point) (f : Figure) (m : Surround) (u : ℕ) (r : Size) → p ≡ Behind f m → (r.nodes ≡ nodes_with m f) × (r.depth ≡ depth_with m f) → SizeIs p u r.nodes r.depth
size_behind p f m u r h s = size_as p (Behind f m) u r.nodes r.depth h (record { nodes_are = λ ps e. s.0; depth_is = λ ps e. s.1 })

pub size_over : (p : Point) (f : Figure) (m : Surround) (u : ℕ) (r : Size) → p ≡ Over f m → (r.nodes ≡ nodes_with m f) × (r.depth ≡ depth_with m f) → SizeIs p u r.nodes r.depth
size_over p f m u r h s = size_as p (Over f m) u r.nodes r.depth h (record { nodes_are = λ ps e. s.0; depth_is = λ ps e. s.1 })

-- where the point has it
pub size_told : (p q : Point) (u n : ℕ) → p ≡ q → ((ps : List Paren) → n ≡ nodes_there q ps) → ((ps : List Paren) → 0 ≡ depth_there q ps) → SizeIs p u n 0
size_told p q u n h i j = size_as p q u n 0 h (size_here q u n 0 i j)

-- what the size of a point asks of its parts
pub asks_open : (p : Point) (b : Bool) (q : Paren) → SmallPoint loose p → p ≡ Wants b q → SmallSurround vast q.surround × SmallFigure vast lone
asks_open p b q h e =
    let k : SmallParen loose q = subst (SmallPoint loose) e h in
    let m = k.surround in
    (record { nodes = omega arith; depth = omega arith; least = omega arith }, record { nodes = omega arith; depth = omega arith })

pub asks_held : (p : Point) (b : Bool) (q : Paren) → SmallPoint loose p → p ≡ Wants b q → SmallParen loose q × SmallFigure loose lone
asks_held p b q h e = (subst (SmallPoint loose) e h, record { nodes = omega arith; depth = omega arith })

pub asks_wants : (p : Point) (b : Bool) (q : Paren) (w : Figure) → SmallPoint loose p → p ≡ Wants b q → HeldIs q lone w → SmallSurround vast q.surround × SmallFigure vast w
asks_wants p b q w h e g =
    let k : SmallParen loose q = subst (SmallPoint loose) e h in
    let u = k.union in
    let c = k.cat in
    ((asks_open p b q h e).0, record { nodes = omega arith; depth = omega arith })

pub asks_front : (p : Point) (m : Surround) → SmallPoint loose p → p ≡ InFront m → SmallSurround vast m × SmallFigure vast (figure 1 1 true false)
asks_front p m h e =
    let k : SmallSurround tight m = subst (SmallPoint loose) e h in
    (record { nodes = omega arith; depth = omega arith; least = omega arith }, record { nodes = omega arith; depth = omega arith })

pub asks_operand : (p : Point) (f : Figure) (q : Paren) → SmallPoint loose p → p ≡ After f q → SmallParen loose q × SmallFigure loose f
asks_operand p f q h e =
    let k : SmallFigure loose f × SmallParen tight q = subst (SmallPoint loose) e h in
    let u = k.1.union in
    let c = k.1.cat in
    let m = k.1.surround in
    (record { union = record { nodes = omega arith; depth = omega arith }; cat = record { nodes = omega arith; depth = omega arith }; surround = record { nodes = omega arith; depth = omega arith; least = omega arith } }, k.0)

pub asks_after : (p : Point) (f : Figure) (q : Paren) (w : Figure) → SmallPoint loose p → p ≡ After f q → HeldIs q f w → SmallSurround vast q.surround × SmallFigure vast w
asks_after p f q w h e g =
    let k : SmallFigure loose f × SmallParen tight q = subst (SmallPoint loose) e h in
    let u = k.1.union in
    let c = k.1.cat in
    let m = k.1.surround in
    let x = k.0 in
    (record { nodes = omega arith; depth = omega arith; least = omega arith }, record { nodes = omega arith; depth = omega arith })

vaster : (f : Figure) (m : Surround) → SmallFigure loose f × SmallSurround tight m → SmallSurround vast m × SmallFigure vast f
vaster f m k = (record { nodes = omega arith; depth = omega arith; least = omega arith }, record { nodes = omega arith; depth = omega arith })

pub asks_behind : (p : Point) (f : Figure) (m : Surround) → SmallPoint loose p → p ≡ Behind f m → SmallSurround vast m × SmallFigure vast f
asks_behind p f m h e = vaster f m (subst (SmallPoint loose) e h)

pub asks_over : (p : Point) (f : Figure) (m : Surround) → SmallPoint loose p → p ≡ Over f m → SmallSurround vast m × SmallFigure vast f
asks_over p f m h e = vaster f m (subst (SmallPoint loose) e h)

-- the four tests
four : (a b c e : Bool) → a ≡ true → c ≡ true → e ≡ true → b ≡ (a && (b && (c && e)))
four a b c e h i j = rw (h, i, j) (sym (and-true b))

first_fails : (a b c e : Bool) → a ≡ false → false ≡ (a && (b && (c && e)))
first_fails a b c e h = rw h

third_fails : (a b c e : Bool) → c ≡ false → false ≡ (a && (b && (c && e)))
third_fails a b c e h = rw (h, and-false, and-false)

last_fails : (a b c e : Bool) → e ≡ false → false ≡ (a && (b && (c && e)))
last_fails a b c e h = rw (h, and-false, and-false, and-false)

as_keeps : (d : Draft) (n m : ℕ) → SizeIs d.point d.«open» n m → keeps d.productions d.earlier n m ≡ sketch_fits (sketch_of d)
as_keeps d n m s =
    let l = stacked_length d.around d.«open» in
    ap (λ x. keeps d.productions d.earlier x m) (s.nodes_are (stacked d.around d.«open») l)
    ∙ ap (λ x. keeps d.productions d.earlier (nodes_there d.point (stacked d.around d.«open»)) x) (s.depth_is (stacked d.around d.«open») l)

pub fits_all : (d : Draft) (n m : ℕ) → SizeIs d.point d.«open» n m → n < 33 → m < 13 → d.productions < 64 → ltb (d.earlier + n) 257 ≡ sketch_fits (sketch_of d)
fits_all d n m s a b c =
    four (ltb d.productions 64) (ltb (d.earlier + n) 257) (ltb n 33) (ltb m 13) (lt-ltb d.productions 64 c) (lt-ltb n 33 a) (lt-ltb m 13 b) ∙ as_keeps d n m s

pub fits_many : (d : Draft) (n m : ℕ) → SizeIs d.point d.«open» n m → 33 ≤ n → false ≡ sketch_fits (sketch_of d)
fits_many d n m s a = third_fails (ltb d.productions 64) (ltb (d.earlier + n) 257) (ltb n 33) (ltb m 13) (le-ltb n 33 a) ∙ as_keeps d n m s

pub fits_deep : (d : Draft) (n m : ℕ) → SizeIs d.point d.«open» n m → 13 ≤ m → false ≡ sketch_fits (sketch_of d)
fits_deep d n m s a = last_fails (ltb d.productions 64) (ltb (d.earlier + n) 257) (ltb n 33) (ltb m 13) (le-ltb m 13 a) ∙ as_keeps d n m s

pub fits_long : (d : Draft) (n m : ℕ) → SizeIs d.point d.«open» n m → 64 ≤ d.productions → false ≡ sketch_fits (sketch_of d)
fits_long d n m s a = first_fails (ltb d.productions 64) (ltb (d.earlier + n) 257) (ltb n 33) (ltb m 13) (le-ltb d.productions 64 a) ∙ as_keeps d n m s
