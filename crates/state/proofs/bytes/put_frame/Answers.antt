use mathlib.Core.Path.{◌≡◌, refl, ap}
use Rattle.state.specs.Bytes.{frame_bytes}
use Rattle.state.proofs.Written.{wrote_put, wrote_then, wrote_wide}
use Prim.Native.Nat.{ℕ, ◌*◌}
use lib.ListN.{length}
use Rattle.state.specs.Bounds.{most_sets, set_width}
use Rattle.state.proofs.Laws.{length_mapped}
use borrow.Author.Rules.{rules}
use Rattle.state.proofs.bytes.put_frame.Goals as goal

-- The head of three bytes, then the sets.
pub returns : goal.returns
unfolding frame_bytes
returns c =
    let n : length c.args.f.saved ≡ most_sets = search (length_mapped, rules) in
    wrote_then (wrote_put 3 refl c.put_bytes-next.ensures) (wrote_wide (ap (λ (k : ℕ). set_width * k) n) c.put_sets.ensures)
