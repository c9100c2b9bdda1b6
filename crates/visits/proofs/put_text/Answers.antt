use borrow.Author.Rules.{rules}
use mathlib.Core.Path.{refl, ◌∙◌}
use native.Mathlib.Omega.{arith}
use lib.ListN.{drop, length-drop}
use Rattle.lent.proofs.Laws.{put_dry}
use Rattle.text.specs.Characters.{WholeCharacters}
use Rattle.programs.proofs.Characters.{step_on, stop_at}
use Rattle.visits.proofs.Printing.{escaped_short, no_text, next_character, all_written}
use Rattle.visits.proofs.put_text.Goals as goal

pub loop-i-init : goal.loop-i-init
loop-i-init c = (omega arith, omega arith, refl, λ z. refl, λ w. (w, refl, refl))

pub shape_of-out-in_default : goal.shape_of-out-in_default
shape_of-out-in_default c = c.loop-i.invariant.2

pub returns-in_default : goal.returns-in_default
returns-in_default c =
    let f = c.args.f.now in
    let no : WholeCharacters f → ⊥ = λ w. stop_at f c.loop-i.i c.loop-i-test.true c.decode.result c.decode.ensures c.in_default.not-Whole (c.loop-i.invariant.4 w).0 in
    record { reach = omega (arith, c.loop-i.invariant.1); dry = c.loop-i.invariant.3; right = λ w u. absurd (no u.0) }

pub put_char-n-requires : goal.put_char-n-requires
put_char-n-requires c =
    record { at_le_farthest = omega (arith, c.loop-i.invariant.0, c.loop-i.invariant.1); char = (rw c.in-Whole.is at c.decode.ensures).0 }

pub overflow_add-i : goal.overflow_add-i
overflow_add-i c =
    let f = c.args.f.now in
    omega (arith, c.loop-i.invariant.0, step_on f c.loop-i.i _ _ (rw c.in-Whole.is at c.decode.ensures))

pub loop-i-smaller : goal.loop-i-smaller
loop-i-smaller c =
    let f = c.args.f.now in
    omega (arith, c.loop-i.invariant.0, step_on f c.loop-i.i _ _ (rw c.in-Whole.is at c.decode.ensures))

pub loop-i-preserved : goal.loop-i-preserved
loop-i-preserved c =
    let a = c.args in
    let f = a.f.now in
    let d = rw c.in-Whole.is at c.decode.ensures in
    let s = step_on f c.loop-i.i _ _ d in
    let P = c.put_char-n.ensures in (
      omega (arith, c.loop-i.invariant.0, s.0, s.1),
      omega (arith, c.loop-i.invariant.0, c.loop-i.invariant.1, s.0, s.1, P.next, escaped_short c.in-Whole.c),
      search rules,
      (λ z. P.left ∙ put_dry _ _ _ _ z ∙ c.loop-i.invariant.3 z),
      λ w. let v = c.loop-i.invariant.4 w in next_character f c.loop-i.i c.in-Whole.c c.in-Whole.k d v.0 a.write c.loop-i.out _ c.loop-i.n _ _ _ P v.1 v.2,
    )

pub shape_of-out : goal.shape_of-out
shape_of-out c = c.loop-i.invariant.2

pub returns : goal.returns
returns c =
    let f = c.args.f.now in
    let none = no_text (drop c.loop-i.i f) (omega (arith, c.loop-i-test.false, c.loop-i.invariant.0, length-drop c.loop-i.i f)) in
    record { reach = omega (arith, c.loop-i.invariant.1); dry = c.loop-i.invariant.3; right = λ w u. let v = c.loop-i.invariant.4 u.0 in all_written _ _ _ _ _ f (drop c.loop-i.i f) w u.1 none v.1 v.2 }
