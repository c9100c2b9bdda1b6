-- The form of a salvage run's state as bytes: 4,030 of them, numbers little-endian. The first 3,867 are a state of document 01's run (crate state, `Bytes`), then:
--
-- | Bytes | Content |
-- |---|---|
-- | 3,867 | the mode: 0 between records, 1 in a record, 2 passing over |
-- | 3,868 to 3,875 | the bytes of the stream taken so far |
-- | 3,876 to 3,883 | the record's first byte in the stream |
-- | 3,884 | the number that refused it, while passing over |
-- | 3,885 to 3,892 | how many bytes wait |
-- | 3,893 to 4,029 | what returns when the record is dropped: eight attributes, echo, the count of visits, and the root's frame |
--
-- What is not in use is 0 in a state that is handed back. The state is the run's: in a record the one that it has come to. An entry of the report: first byte, last byte and number, 24 bytes.
-- Assumes nothing.
use Rattle.std.specs.Prelude.{List, [], ◌∷◌, ◌++◌, ℕ, zero, suc, ◌+◌, ◌*◌, ◌-◌, length, take, drop, replicate}
use Rattle.std.proofs.Math.Option.{Option}
use Rattle.layout.specs.Layout.{byte_at}
use Rattle.runs.specs.Machine.{Configuration, most}
use Rattle.state.specs.Bounds.{frame_width, rooted_at, head_width, state_width}
use Rattle.state.specs.Bytes.{number_bytes, bytes_of, long_at, state_from}
use Rattle.state.specs.Changes.{not_closed}
use Rattle.state.specs.Canonical.{state_for}
use Rattle.state.specs.Meaning.{meaning_of}
use Rattle.state.specs.declared.State.{State}
use Rattle.converter.specs.Answered.{closing_in, closing_byte}
use Rattle.salvage.specs.Salvage.{LostStretch}
use Rattle.rescue.specs.Held.{Mode, between, inside, skipping, waiting_in, HeldSalvage}

abbrev pub mode_at : ℕ
mode_at = state_width

abbrev pub passed_at : ℕ
passed_at = mode_at + 1

abbrev pub first_at : ℕ
first_at = passed_at + 8

abbrev pub refused_at : ℕ
refused_at = first_at + 8

abbrev pub waiting_at : ℕ
waiting_at = refused_at + 1

abbrev pub returns_at : ℕ
returns_at = waiting_at + 8

-- of what returns: attributes, echo and count, as a state's bytes begin, and the root's frame
abbrev pub returns_width : ℕ
returns_width = rooted_at + frame_width

abbrev pub salvage_width : ℕ
salvage_width = returns_at + returns_width

-- what returns, as the bytes of a state in which the root is open, and that state
unfoldable pub returning_bytes : List ℕ → List ℕ
returning_bytes b =
    take rooted_at (drop returns_at b) ++
    0 ∷ not_closed ∷ (number_bytes 8 1 ++ (take frame_width (drop (returns_at + rooted_at) b) ++ replicate (frame_width * (most - 1)) 0))

abbrev pub returning_in : List ℕ → State
returning_in b = state_from (returning_bytes b)

-- what the bytes stand for, where m is their mode, and the area holds what waits; a mode over 1 passes over
abbrev pub mode_from : List ℕ → (area : List ℕ) → (m : ℕ) → Mode
mode_from b area zero = between (meaning_of (state_from b))
mode_from b area (suc zero) = inside (meaning_of (returning_in b)) (meaning_of (state_from b)) (long_at b first_at) (take (long_at b waiting_at) area)
mode_from b area (suc (suc m)) = skipping (meaning_of (state_from b)) (long_at b first_at) (byte_at b refused_at)

abbrev pub salvage_in : List ℕ → (area : List ℕ) → HeldSalvage
salvage_in b area = record { mode = mode_from b area (byte_at b mode_at); passed = long_at b passed_at; closing = closing_in (state_from b).closed }

-- the bytes of what returns: those of the state z, but for whether the root has been closed, the closing number and how many are open
unfoldable pub return_bytes : Configuration → List ℕ
return_bytes z = take rooted_at (bytes_of (state_for z not_closed)) ++ take frame_width (drop head_width (bytes_of (state_for z not_closed)))

unfoldable pub tail_bytes : (mode passed first refused waiting : ℕ) → (returns : List ℕ) → List ℕ
tail_bytes m p f n k returns = m ∷ (number_bytes 8 p ++ (number_bytes 8 f ++ n ∷ (number_bytes 8 k ++ returns)))

abbrev pub no_return : List ℕ
no_return = replicate returns_width 0

unfoldable pub mode_bytes : (closing : Option ℕ) (passed : ℕ) → Mode → List ℕ
mode_bytes c p (between z) = bytes_of (state_for z (closing_byte c)) ++ tail_bytes 0 p 0 0 0 no_return
mode_bytes c p (inside z y f v) = bytes_of (state_for y (closing_byte c)) ++ tail_bytes 1 p f 0 (length v) (return_bytes z)
mode_bytes c p (skipping z f n) = bytes_of (state_for z (closing_byte c)) ++ tail_bytes 2 p f n 0 no_return

-- the one row of bytes in which a call hands this back
abbrev pub salvage_bytes : HeldSalvage → List ℕ
salvage_bytes h = mode_bytes h.closing h.passed h.mode

-- the area where k bytes waited at most: what waits now, then 0 for every byte that waited and does not any more, then as lent
abbrev pub area_after : (lent : List ℕ) (k : ℕ) → Mode → List ℕ
area_after lent k m = waiting_in m ++ (replicate (k - length (waiting_in m)) 0 ++ drop k lent)

-- the entries of the report as bytes
abbrev pub entry_width : ℕ
entry_width = 24

unfoldable pub entry_bytes : LostStretch → List ℕ
entry_bytes d = number_bytes 8 d.first ++ (number_bytes 8 d.last ++ number_bytes 8 d.number)

unfoldable pub report_bytes : List LostStretch → List ℕ
report_bytes [] = []
report_bytes (d ∷ ds) = entry_bytes d ++ report_bytes ds
