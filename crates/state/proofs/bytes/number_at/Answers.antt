use native.Mathlib.Nat.{add-zero}
use Rattle.state.specs.Bytes.{number, gathered}
use mathlib.Core.Path.{◌≡◌, refl, sym, ◌∙◌}
use native.Mathlib.Omega.{arith}
use Rattle.state.proofs.Gathered.{number_more, number_room, number_below}
use Rattle.state.proofs.bytes.number_at.Goals as goal

pub loop-i-init : goal.loop-i-init
unfolding number gathered
loop-i-init c = (refl, omega arith)

pub overflow_mul-n : goal.overflow_mul-n
overflow_mul-n c = omega (arith, number_room c.loop-i.i c.loop-i.n (omega arith) c.loop-i.invariant.1)

pub overflow_add-n : goal.overflow_add-n
overflow_add-n c = let l = c.loop-i in omega (arith, number_room l.i l.n (omega arith) l.invariant.1)

pub loop-i-preserved : goal.loop-i-preserved
loop-i-preserved c = let l = c.loop-i in
    let a = c.args in (
      rw (c.from.ensures, c.byte_at.ensures, l.invariant.0) (sym (number_more a.bytes.now a.at l.i (omega arith) (omega arith))),
      number_below l.i l.n c.from.result (omega arith) (omega arith) l.invariant.1 (omega arith),
    )

pub returns : goal.returns
returns c = let e : c.loop-i.i ≡ 0 = omega arith in c.loop-i.invariant.0 ∙ rw (e, add-zero)
