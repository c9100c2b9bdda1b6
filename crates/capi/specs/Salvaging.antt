-- What a host in C is answered by a call of the salvage run: the number, and in the counts the bytes taken, the bytes written, the entries of the report, the most bytes that waited at once
-- and the visits. Assumes nothing.
use Rattle.std.specs.Prelude.{◌≡◌, not, List, [], ◌∷◌, ℕ, eqb}
use Rattle.rescued.specs.Salvaged.{Lent, SalvagedAs}
use Rattle.rescued.specs.declared.SalvageCounts.{SalvageCounts}

-- l is lent and l' is left; any number but 0 says that the stream has ended
pub record SalvageRunAs (s part : List ℕ) (ended : ℕ) (l l' : Lent) (counts : List ℕ) (w : ℕ) : Type 0 where
  pub answer : SalvageCounts
  pub as_answered : SalvagedAs s part (not (eqb ended 0)) l l' answer
  pub number : w ≡ answer.number
  pub counted : counts ≡ answer.taken ∷ answer.written ∷ answer.reported ∷ answer.waited ∷ answer.visits ∷ []

-- any two answers are equal: the number, the counts, and every byte that is left
abbrev pub OneSalvageRun : Type 0
OneSalvageRun =
    (s part : List ℕ) (ended : ℕ) (l l' l'' : Lent) (c d : List ℕ) (v w : ℕ) → SalvageRunAs s part ended l l' c v → SalvageRunAs s part ended l l'' d w → (v ≡ w) × (c ≡ d) × (l' ≡ l'')
