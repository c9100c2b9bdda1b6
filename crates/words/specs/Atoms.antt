-- Which node of a production is its p-th atom, atoms from 1 left to right. Assumes nothing.
use Rattle.std.specs.Prelude.{◌≡◌, cond, List, ℕ, zero, suc, ◌+◌, ◌<◌, ltb, Option, Some, None}
use Rattle.layout.specs.Records.{first_node_of, node_count_of, kind_of}

-- what a node of this kind adds to a count of atoms: kinds 1 and 2 are atoms
abbrev pub one_if_atom : ℕ → ℕ
one_if_atom kind = cond (ltb kind 3) 1 0

-- of the first k nodes from node i on, those that are atoms
abbrev pub atoms_before : List ℕ → ℕ → ℕ → ℕ
atoms_before s i zero = 0
atoms_before s i (suc k) = atoms_before s i k + one_if_atom (kind_of s (i + k))

-- the k-th node of production q, from 0, is its p-th atom
pub record AtomAt (s : List ℕ) (q p k : ℕ) : Type 0 where
  pub within : k < node_count_of s q
  pub an_atom : kind_of s (first_node_of s q + k) < 3
  pub number : suc (atoms_before s (first_node_of s q) k) ≡ p

-- a node's number in the sheet is answered exactly where the production has a p-th atom
abbrev pub FoundIs : List ℕ → ℕ → ℕ → Option ℕ → Type 0
FoundIs s q p (Some i) = (k : ℕ) × (i ≡ first_node_of s q + k) × AtomAt s q p k
FoundIs s q p None = (k : ℕ) → AtomAt s q p k → ⊥
