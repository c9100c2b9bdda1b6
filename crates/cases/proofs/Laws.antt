-- A list of one byte over and over has no other; and whether all bytes are b is told by the test of each. Assumes nothing.
use mathlib.Core.Path.{refl}
use mathlib.Core.List.{List, [], ◌∷◌}
use Prim.Native.Nat.{ℕ, zero, suc}
use lib.Dec.{eqb}
use lib.ListN.{replicate}
use Rattle.std.specs.List.{list_all}
use Rattle.tells.specs.Tells.{Tells, holds}
use Rattle.tells.proofs.Laws.{both_told, eqb_tells}
use Rattle.cases.specs.Kept.{AllAre}

pub all_replicated : (b n : ℕ) → AllAre b (replicate n b)
all_replicated b zero = tt
all_replicated b (suc n) = (refl, all_replicated b n)

pub all_told : (b : ℕ) (l : List ℕ) → Tells (AllAre b l) (list_all (λ x. eqb x b) l)
all_told b [] = holds tt
all_told b (x ∷ l) = both_told (eqb_tells x b) (all_told b l)
