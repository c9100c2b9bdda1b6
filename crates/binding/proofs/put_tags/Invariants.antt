use mathlib.Core.Path.{◌≡◌}
use mathlib.Core.List.{List}
use Prim.Native.Nat.{ℕ, ◌+◌, ◌*◌}
use lib.ListN.{length}
use Rattle.stores.specs.Rows.{RowsIn}
use Rattle.binding.specs.Bound.{ShortNames}
use Rattle.binding.proofs.Tags.{TagsLeft}
use Rattle.binding.proofs.put_tags.Given as goal

-- `put_tags`: what is left of the names is known of all names that the store has. Assumes nothing.
abbrev pub invariant-loop-to : goal.invariant-loop-to
invariant-loop-to l =
    (l.n ≡ l.at + 16 * l.to-index)
    × ((length l.memory ≡ length l.initial.memory) × ((names : List (List ℕ)) → RowsIn l.bytes l.ends l.count names → ShortNames names → TagsLeft l.bytes l.ends l.count l.initial.memory l.at names l.to-index l.from l.n l.memory))
