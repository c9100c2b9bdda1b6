use mathlib.Core.Path.{◌≡◌}
use Prim.Native.Nat.{ℕ, ◌≤◌, ◌<◌}
use Rattle.layout.specs.Records.{first_node_of}
use Rattle.words.specs.Atoms.{atoms_before, AtomAt}
use Rattle.words.proofs.node_of_atom.Given as goal

-- The atoms of the nodes passed are counted, and none of those nodes is the p-th atom.
abbrev pub invariant-loop-k : goal.invariant-loop-k
invariant-loop-k l =
    (l.before ≤ l.k) × (l.before ≡ atoms_before l.s (first_node_of l.s l.q) l.k) × ((j : ℕ) → j < l.k → AtomAt l.s l.q l.p j → ⊥)
