use mathlib.Core.Path.{◌≡◌, subst}
use Prim.Native.Nat.{ℕ}
use Rattle.stretches.specs.Stretched.{CarriedAs}
use mathlib.Core.Path.{sym, ◌∙◌}
use Prim.Native.Nat.{◌+◌, ◌-◌, ◌≤◌}
use native.Mathlib.Omega.{arith}
use lib.ListN.{length, get_or}
use Rattle.stretches.proofs.Nexts.{and_true, allowed_is}
use Rattle.stretches.proofs.Carrying.{carried_none, carried_one, put_room}
use Rattle.stretches.proofs.plains.Goals as goal

pub loop-at-init : goal.loop-at-init
loop-at-init c = (c.requires.put_in_bounds, c.requires.count_le_most_visits, carried_none _ _ _ _ _)

pub shape_of-out-then-not-one : goal.shape_of-out-then-not-one
shape_of-out-then-not-one c = c.loop-at.invariant.2.long

pub returns-then-not-one : goal.returns-then-not-one
returns-then-not-one c = c.loop-at.invariant.2

pub show_plain-to-requires : goal.show_plain-to-requires
show_plain-to-requires c =
    let part = c.args.part.now in
    let both = and_true _ _ c.if-not-one.false in
    let plain_one = sym c.is_plain.ensures ∙ both.0 in
    let may = allowed_is c.args.k c.loop-at.count (length c.loop-at.out - c.loop-at.to) c.loop-at.to c.requires.k_le_most_visits (sym c.allowed.ensures ∙ both.1) in
    record { at_le_farthest = may.reach; b_value = plain_one }

pub overflow_add-count : goal.overflow_add-count
overflow_add-count c =
    let part = c.args.part.now in
    let both = and_true _ _ c.if-not-one.false in
    let plain_one = sym c.is_plain.ensures ∙ both.0 in
    let may = allowed_is c.args.k c.loop-at.count (length c.loop-at.out - c.loop-at.to) c.loop-at.to c.requires.k_le_most_visits (sym c.allowed.ensures ∙ both.1) in
    omega (arith, may.visits)

pub loop-at-preserved : goal.loop-at-preserved
loop-at-preserved c =
    let part = c.args.part.now in
    let both = and_true _ _ c.if-not-one.false in
    let plain_one = sym c.is_plain.ensures ∙ both.0 in
    let may = allowed_is c.args.k c.loop-at.count (length c.loop-at.out - c.loop-at.to) c.loop-at.to c.requires.k_le_most_visits (sym c.allowed.ensures ∙ both.1) in
    let roomy : c.loop-at.to + 5 ≤ length c.loop-at.out = omega (arith, may.longest, c.loop-at.invariant.0) in
    let P = c.show_plain-to.ensures in (
      put_room c.args.on (get_or part c.loop-at.at 0) _ _ _ _ roomy P,
      may.visits,
      carried_one part c.args.on c.args.k _ _ c.loop-at.at c.loop-at.to c.loop-at.count c.loop-at.out c.loop-at.invariant.2 (omega arith) plain_one may.visits roomy _ _ P,
    )

pub shape_of-out : goal.shape_of-out
shape_of-out c = c.loop-at.invariant.2.long

pub returns : goal.returns
returns c =
    let l = c.loop-at in
    let a = c.args in
    let e : l.at ≡ length a.part.now = omega arith in
    subst (λ (n : ℕ). CarriedAs a.part.now a.on a.k a.from a.out.now (record { at = n; put = l.to; count = l.count }) l.out) e l.invariant.2
