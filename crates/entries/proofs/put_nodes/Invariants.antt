use mathlib.Core.Path.{◌≡◌}
use Prim.Native.Nat.{◌+◌, ◌*◌}
use lib.ListN.{length}
use Rattle.std.specs.Slice.Iter.{chunks_exact_rest, chunks_exact_size}
use Rattle.entries.proofs.Laid.{PairsLeft}
use Rattle.entries.proofs.put_nodes.Given as goal

abbrev pub invariant-loop-pair : goal.invariant-loop-pair
invariant-loop-pair l =
    let it = l.pair-iterator in
    (chunks_exact_size it ≡ 2) × (l.n + 3 * length (chunks_exact_rest it) ≡ l.at + 3 * length l.pairs) × (length l.memory ≡ length l.initial.memory) × PairsLeft l.initial.memory l.at l.pairs (chunks_exact_rest it) l.n l.memory
