-- Two sheets that are the same by name have the same faults, tags by name, and so the same number of 0, 8 and 9. Assumes nothing.
use Rattle.std.specs.Prelude.{◌≡◌, List, [], ◌∷◌, ◌↔◌, ℕ, ◌<◌, length}
use Rattle.expressions.specs.Grammar.{character, end, byte_of}
use Rattle.expressions.specs.FaultList.{TFault, SFault, FaultNumber}
use Rattle.sheet.specs.Sheet.{Sheet}
use Rattle.runs.specs.Execute.{name_of}
use Rattle.runs.specs.Visits.{grammar}
use Rattle.packing.specs.Packs.{Packs}
use Rattle.naming.specs.ByName.{SameByName}

-- entries of the two lists: with the same tag by name, or the same entry, before a character or the end
pub data EntryAlike (a b : Sheet) : List ℕ → List ℕ → Type 0 where
  shared_tag : (n t u : ℕ) → t < length a.names → u < length b.names → name_of a.names t ≡ name_of b.names u → EntryAlike a b (8 ∷ n ∷ t ∷ 0 ∷ []) (8 ∷ n ∷ u ∷ 0 ∷ [])
  before_tag : (q p t u : ℕ) → t < length a.names → u < length b.names → name_of a.names t ≡ name_of b.names u → EntryAlike a b (9 ∷ q ∷ p ∷ t ∷ []) (9 ∷ q ∷ p ∷ u ∷ [])
  before_character : (q p : ℕ) → EntryAlike a b (9 ∷ q ∷ p ∷ byte_of character ∷ []) (9 ∷ q ∷ p ∷ byte_of character ∷ [])
  before_end : (q p : ℕ) → EntryAlike a b (9 ∷ q ∷ p ∷ byte_of end ∷ []) (9 ∷ q ∷ p ∷ byte_of end ∷ [])

-- each fault of the one is one of the other; and so the other way round, since the two may change places
pub record FaultsToo (a b : Sheet) : Type 0 where
  pub of_T : (bytes : List ℕ) → TFault (grammar a) bytes → (c : List ℕ) × EntryAlike a b bytes c × TFault (grammar b) c
  pub of_S : (bytes : List ℕ) → SFault (grammar a) bytes → (c : List ℕ) × EntryAlike a b bytes c × SFault (grammar b) c

abbrev pub SameFaults : Type 0
SameFaults = (s s' : List ℕ) (a b : Sheet) → Packs s a → Packs s' b → SameByName a b → FaultsToo a b

abbrev pub SameFaultNumber : Type 0
SameFaultNumber = (s s' : List ℕ) (a b : Sheet) → Packs s a → Packs s' b → SameByName a b → (n : ℕ) → FaultNumber (grammar a) n ↔ FaultNumber (grammar b) n
