use mathlib.Core.Path.{◌≡◌, refl}
use native.Mathlib.Omega.{arith}
use lib.ListN.{length}
use borrow.Author.Rules.{rules}
use Rattle.state.specs.Bounds.{stack_width}
use Rattle.state.proofs.Laws.{length_mapped}
use Rattle.stack.specs.Stacked.{put, refused}
use Rattle.stack.proofs.Stack.push.Goals as goal

-- The run's own push, where there is room for one more element.
pub returns-then-live-ge-DEPTH : goal.returns-then-live-ge-DEPTH
returns-then-live-ge-DEPTH c = refused c.if-live-ge-DEPTH.true refl

pub push-next-requires : goal.push-next-requires
push-next-requires c =
    let a = c.args.self in
    let n : length a.bytes ≡ stack_width = search (length_mapped, rules) in
    record { depth_lt_most = omega (arith, c.if-live-ge-DEPTH.false); stack_width_in_bounds = omega (arith, n) }

pub returns : goal.returns
returns c = put _ (omega (arith, c.if-live-ge-DEPTH.false)) refl c.push-next.ensures
