use borrow.Author.Rules.{rules}
use native.Mathlib.Omega.{arith}
use mathlib.Core.Path.{refl, sym, ◌∙◌}
use Prim.Native.Nat.{ℕ}
use lib.ListN.{drop, length-take, length-replicate}
use lib.Seq.{length-take-le}
use Rattle.state.specs.Bounds.{frame_width, rooted_at, head_width, state_width}
use Rattle.resting.proofs.Laws.{returns_put}
use Rattle.resting.proofs.put_returns.Goals as goal

-- Two rows of a state of its own, one behind the other.
-- Assumes nothing.
pub slice_bounds-put_bytes-end : goal.slice_bounds-put_bytes-end
slice_bounds-put_bytes-end c = let k = c.put_back.auto.bytes ∙ length-replicate {A = ℕ} state_width 0 in sym (length-take-le rooted_at c.put_back.new.bytes (omega (arith, k)))

pub put_bytes-next-requires : goal.put_bytes-next-requires
put_bytes-next-requires c = omega (arith, length-take rooted_at c.put_back.new.bytes)

pub put_bytes-requires : goal.put_bytes-requires
put_bytes-requires c = omega (arith, length-take frame_width (drop head_width c.put_back.new.bytes), c.put_bytes-next.ensures.next, length-take rooted_at c.put_back.new.bytes)

pub returns : goal.returns
returns c = returns_put c.args.state.now _ _ c.put_back.new.bytes _ _ _ c.args.before refl c.put_back.ensures.bytes_after (c.put_back.auto.bytes ∙ length-replicate {A = ℕ} state_width 0) c.put_bytes-next.ensures c.put_bytes.ensures
