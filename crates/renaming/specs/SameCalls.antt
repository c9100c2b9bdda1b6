-- Two sheets that are the same by name: whatever is asked, the same is heard, call by call. Assumes nothing.
use Rattle.std.specs.Prelude.{List, ◌↔◌, ℕ}
use Rattle.sheet.specs.Sheet.{Sheet}
use Rattle.packing.specs.Packs.{Packs}
use Rattle.naming.specs.ByName.{SameByName}
use Rattle.calls.specs.Held.{fresh_held}
use Rattle.widening.specs.CallByCall.{Asked, Heard, CallByCall}

abbrev pub SameCalls : Type 0
SameCalls =
    (s s' : List ℕ) (a b : Sheet) → Packs s a → Packs s' b → SameByName a b → (qs : List Asked) (hs : List Heard) → CallByCall a fresh_held qs hs ↔ CallByCall b fresh_held qs hs
