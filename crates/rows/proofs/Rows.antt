-- A row is filled kind by kind, and what the place refuses by itself is refused. Assumes nothing.
use mathlib.Core.Path.{◌≡◌, refl, sym, ◌∙◌, ap, subst}
use mathlib.Core.Bool.{Bool, true, false, true≢false, ◌||◌, ◌&&◌}
use mathlib.Core.Option.{Option, none, some}
use mathlib.Core.List.{List}
use Prim.Native.Nat.{ℕ, ◌+◌, ◌≤◌, ◌<◌}
use native.Mathlib.Omega.{arith}
use lib.Dec.{eqb, ltb}
use lib.ListN.{length, get_or, set, length-set}
use lib.Seq.{get_or-set_same, get_or-set_other}
use borrow.Author.Tests.{ltb-true, ltb-false}
use Rattle.programs.specs.Limits.{Visit}
use Rattle.notation.specs.Tokens.{THEN}
use Rattle.reading.specs.Statements as reading
use Rattle.lexemes.specs.Kinds.{kinds}
use Rattle.sketches.specs.declared.Move.{Move}
use Rattle.sketches.specs.Figures.{present}
use Rattle.sketches.specs.Moves.{Sketch, move_of, after_move_lem, where_fit, step_sketch}
use Rattle.drafts.specs.declared.Draft.{Draft}
use Rattle.std.specs.Prelude.{Option as Taken, Some, None, is_some}
use Rattle.drafts.specs.Drafted.{sketch_of, DraftStepIs}
use Rattle.outlines.specs.Kinds.{is_word, is_operand, is_short_item, is_long_item}
use Rattle.outlines.specs.Extents.{Extent}
use Rattle.outlines.specs.Conditions.{Margin, behind, read_condition}
use Rattle.outlines.specs.Statements.{Layer, then_at, step_at, step_stage, ends_here}
use Rattle.extents.specs.Held.{extent_of, side_of}
use Rattle.scripts.specs.declared.Stage.{Stage}
use Rattle.scripts.specs.declared.Stage.TheVariants.{At, Assign, Operand, Item, Single, Equals, Other, Behind, Past}
use Rattle.scripts.specs.declared.Script.{Script}
use Rattle.scripts.specs.Scripts as scripts
use Rattle.scripts.specs.Scripts.{reading_place, stage_of, margins_in, layers_in, outline_of}
use Rattle.rows.specs.Rows.{is_move, TextRow, could_start, could_be_operand, could_be_item, could_be, Marked, OutlineRow}

-- the kinds below k are marked
pub record Filled (Is : ℕ → Bool → Type 0) (m : List Bool) (k : ℕ) : Type 0 where
  pub low : k ≤ kinds
  pub long : length m ≡ kinds
  pub marks : (j : ℕ) → j < k → Is j (get_or m j false)

pub nothing_filled : (Is : ℕ → Bool → Type 0) (m : List Bool) → length m ≡ kinds → Filled Is m 0
nothing_filled Is m h = record { low = omega arith; long = h; marks = λ j i. absurd (omega (arith, i)) }

pub one_filled : (Is : ℕ → Bool → Type 0) (m : List Bool) (k : ℕ) (b : Bool) → Filled Is m k → k < kinds → Is k b → Filled Is (set m k b) (k + 1)
one_filled Is m k b h i n = record { low = omega arith; long = length-set m k b ∙ h.long; marks = λ j l. at j l (ltb j k) refl }
  where
    at : (j : ℕ) → j < k + 1 → (c : Bool) → ltb j k ≡ c → Is j (get_or (set m k b) j false)
    at j l true e = let f = ltb-true j k e in subst (Is j) (sym (get_or-set_other m k j b false (omega (arith, f)))) (h.marks j f)
    at j l false e =
        let f = ltb-false j k e in
        let q : k ≡ j = omega (arith, f, l) in
        subst (λ x. Is x (get_or (set m k b) x false)) q (subst (Is k) (sym (get_or-set_same m k b false (omega (arith, i, h.long)))) n)

-- outside programs
abbrev pub MarkIn : Draft → ℕ → Bool → Type 0
MarkIn d k b = b ≡ present (step_sketch (sketch_of d) k)

no_move : (k : Sketch) (m : Move) → is_move m ≡ false → after_move_lem k m ≡ none
no_move k Move.Refused h = refl
no_move k (Move.To p) h = absurd (true≢false h)
no_move k (Move.Opened p) h = absurd (true≢false h)
no_move k (Move.Closed e) h = absurd (true≢false h)
no_move k Move.Emptied h = absurd (true≢false h)
no_move k (Move.Next n) h = absurd (true≢false h)

pub unmoved : (d : Draft) (k : ℕ) (b : Bool) → b ≡ is_move (move_of d.point k) → b ≡ false → MarkIn d k false
unmoved d k b e h = sym (ap (λ o. present (where_fit o)) (no_move (sketch_of d) (move_of d.point k) (sym e ∙ h)))

pub moved : (d : Draft) (k : ℕ) (t : Taken Draft) → DraftStepIs d k t → MarkIn d k (is_some t)
moved d k None h = sym (ap present h.same)
moved d k (Some e) h = sym (ap present h.same)

pub text_row : (d : Draft) (m : List Bool) (k : ℕ) → Filled (MarkIn d) m k → kinds ≤ k → TextRow d m
text_row d m k h i = record { marks = λ j l. h.marks j (omega (arith, i, l)) }

-- in a program
or_false : (a b : Bool) → (a || b) ≡ false → (a ≡ false) × (b ≡ false)
or_false false b h = (refl, h)
or_false true b h = absurd (true≢false h)

start_refused : (v : Visit) (w : reading.Place) (ls : List Layer) (k : ℕ) → could_start k ≡ false → step_at v w ls k ≡ none
start_refused v w ls k h =
    let a = or_false (eqb k 2) _ h in
    let b = or_false (eqb k 3) _ a.1 in
    let c = or_false (eqb k 4) _ b.1 in
    let d = or_false (eqb k 11) _ c.1 in
    let e = or_false (eqb k 12) _ d.1 in
    let f = or_false (eqb k 13) _ e.1 in
    let g = or_false (eqb k 14) _ f.1 in
    let i = or_false (eqb k 15) _ g.1 in
    let j = or_false (eqb k 18) _ i.1 in
    rw (a.0, b.0, c.0, d.0, e.0, f.0, g.0, i.0, j.0, j.1) refl

operand_refused : (v : Visit) (k : ℕ) → could_be_operand k ≡ false → is_operand v k ≡ false
operand_refused v k h =
    let a = or_false (eqb k 1) _ h in
    let b = or_false (eqb k 2) _ a.1 in
    let c = or_false (eqb k 3) (eqb k 4) b.1 in
    rw (a.0, b.0, c.0, c.1) refl

item_refused : (k : ℕ) → could_be_item k ≡ false → (is_short_item k ≡ false) × (is_long_item k ≡ false)
item_refused k h =
    let a = or_false (eqb k 6) _ h in
    let b = or_false (eqb k 7) _ a.1 in
    let c = or_false (eqb k 8) (eqb k 9) b.1 in
    (rw (a.0, b.0) refl, rw (c.0, c.1) refl)

and_false : (b c : Bool) → c ≡ false → (b && c) ≡ false
and_false true c h = h
and_false false c h = refl

then_refused : (o : Option Extent) (ls : List Layer) (k : ℕ) → is_word THEN k ≡ false → then_at o ls k ≡ none
then_refused none ls k h = refl
then_refused (some c) ls k h = rw h refl

-- what a stage refuses by itself is refused
stage_refused : (v : Visit) (w : Stage) (ms : List Margin) (ls : List Layer) (k : ℕ) → could_be w k ≡ false → step_stage v (stage_of w ms) ls k ≡ none
stage_refused v (At w) ms ls k h = start_refused v (reading_place w) ls k h
stage_refused v Assign ms ls k h = rw h refl
stage_refused v Operand ms ls k h = rw (operand_refused v k h) refl
stage_refused v Item ms ls k h = let i = item_refused k h in rw (i.0, i.1) refl
stage_refused v Single ms ls k h =
    let a = or_false (eqb k 22) _ h in
    let b = or_false (eqb k 25) _ a.1 in
    rw (operand_refused v k b.1, a.0, b.0) refl
stage_refused v Equals ms ls k h = rw h refl
stage_refused v Other ms ls k h = rw (operand_refused v k h) refl
stage_refused v (Behind d o) ms ls k h =
    let a = or_false (eqb k 16) _ h in
    let b = or_false (eqb k 20) _ a.1 in
    let c = or_false (eqb k 21) (eqb k 26) b.1 in
    rw (b.0, c.0, c.1) (then_refused (read_condition (behind (extent_of d) (side_of o) ms)) ls k a.0)
stage_refused v (Past b p) ms ls k h =
    let a = or_false (eqb k 17) _ h in
    let c = or_false (eqb k 19) _ a.1 in
    let d = or_false (eqb k 32) _ c.1 in
    let i = item_refused k d.1 in
    rw (and_false b (is_short_item k) i.0, and_false b (is_long_item k) i.1, d.0, a.0, c.0) refl

none_some : {A : Type 0} (o : Option A) (x : A) → o ≡ none → o ≡ some x → ⊥
none_some o x h i = let y : ◌≡◌ {A = ℕ} 0 1 = cc in omega arith

pub untried : (v : Visit) (s : Script) (k : ℕ) (b : Bool) → b ≡ could_be s.stage k → b ≡ false → Marked v s k false
untried v s k b e h = (
  λ y. absurd (true≢false (sym y)),
  λ o y. absurd (none_some (step_stage v (stage_of s.stage (margins_in s)) (layers_in s) k) o (stage_refused v s.stage (margins_in s) (layers_in s) k (sym e ∙ h)) y.taken),
)

pub tried : (v : Visit) (s : Script) (k : ℕ) (t : Taken Script) → scripts.Stepped v s k t → Marked v s k (is_some t)
tried v s k t (scripts.taken {s' = x} g i) = (λ y. (outline_of x, g), λ o y. refl)
tried v s k t (scripts.refused g) = (λ y. absurd (true≢false (sym y)), λ o y. absurd (g o y))

-- the brace is written last
pub program_row : (v : Visit) (s : Script) (m : List Bool) (k : ℕ) (b : Bool) → Filled (Marked v s) m k → kinds ≤ k → b ≡ ends_here (outline_of s) → OutlineRow v s (set m 28 b)
program_row v s m k b h i e = record {
  marks = λ j l n. subst (Marked v s j) (sym (get_or-set_other m 28 j b false n)) (h.marks j (omega (arith, i, l)));
  brace = get_or-set_same m 28 b false (omega (arith, h.long)) ∙ e;
}

pub could_as : (w x : Stage) (k : ℕ) (b : Bool) → w ≡ x → b ≡ could_be x k → b ≡ could_be w k
could_as w x k b h e = e ∙ sym (ap (λ y. could_be y k) h)

pub could_single : (w : Stage) (k : ℕ) (b : Bool) → w ≡ Single → b ≡ could_be_operand k → (eqb k 22 || (eqb k 25 || b)) ≡ could_be w k
could_single w k b h e = could_as w Single k _ h (ap (λ c. eqb k 22 || (eqb k 25 || c)) e)

pub could_follow : (w : Stage) (x : Bool) (p : _) (k : ℕ) (b : Bool) → w ≡ Past x p → b ≡ could_be_item k → (eqb k 17 || (eqb k 19 || (eqb k 32 || b))) ≡ could_be w k
could_follow w x p k b h e = could_as w (Past x p) k _ h (ap (λ c. eqb k 17 || (eqb k 19 || (eqb k 32 || c))) e)

pub move_as_lem : (m n x : Move) (b : Bool) → m ≡ n → m ≡ x → b ≡ is_move x → b ≡ is_move n
move_as_lem m n x b e h i = i ∙ ap is_move (sym h ∙ e)
