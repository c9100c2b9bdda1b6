use mathlib.Core.Path.{◌≡◌, refl, subst}
use Prim.Native.Nat.{ℕ}
use native.Mathlib.Omega.{arith}
use lib.ListN.{length, take}
use borrow.Author.Rules.{rules}
use Rattle.state.specs.Bounds.{most_sets}
use Rattle.state.proofs.Laws.{length_mapped}
use Rattle.ahead.proofs.Going.{not_told, take_more}
use Rattle.ahead.proofs.same_sets.Goals as goal

pub loop-i-init : goal.loop-i-init
loop-i-init c = refl

pub returns-then-not-same_set : goal.returns-then-not-same_set
returns-then-not-same_set c = not_told

pub loop-i-preserved : goal.loop-i-preserved
loop-i-preserved c =
    let k : length c.args.a ≡ most_sets = search (length_mapped, rules) in
    let k2 : length c.args.b ≡ most_sets = search (length_mapped, rules) in
    take_more c.args.a c.args.b c.loop-i.i _ (omega arith) (omega arith) c.loop-i.invariant (c.same_set.ensures c.if-not-same_set.false)

pub returns : goal.returns
returns c =
    let e : c.loop-i.i ≡ c.args.n = omega arith in
    λ _. subst (λ (m : ℕ). take m c.args.a ≡ take m c.args.b) e c.loop-i.invariant
