-- When the bytes of a salvage run's state fit a sheet: number 29. Nothing is asked of what is not in use in its mode.
-- Assumes nothing.
use Rattle.std.specs.Prelude.{◌≡◌, true, List, ℕ, zero, suc, ◌+◌, ◌^◌, ◌≤◌, ◌<◌, length}
use Rattle.layout.specs.Layout.{byte_at}
use Rattle.sheet.specs.Sheet.{Sheet}
use Rattle.salvage.specs.Salvage.{damaged}
use Rattle.state.specs.Bytes.{long_at, state_from}
use Rattle.converter.specs.Answered.{FitsSheet}
use Rattle.rescued.specs.Bytes.{mode_at, passed_at, first_at, refused_at, waiting_at, salvage_width, returning_in}

-- the bytes of a stream, so that no place in it is over a u64
abbrev pub most_bytes : ℕ
most_bytes = 2 ^ 62

-- in a record: it and the root are open, it began before the bytes that are taken, what waits lies in the area, and what returns is a state that fits
pub record InsideFits (a : Sheet) (b : List ℕ) (area : ℕ) : Type 0 where
  pub two_open : 2 ≤ (state_from b).depth
  pub began : long_at b first_at < long_at b passed_at
  pub waits : long_at b waiting_at ≤ area
  pub returns : FitsSheet a (returning_in b)

-- passing over: the root is open alone, the record began before the bytes that are taken, and was refused with 20 to 25
pub record SkippingFits (b : List ℕ) : Type 0 where
  pub one_open : (state_from b).depth ≡ 1
  pub began : long_at b first_at < long_at b passed_at
  pub was_damaged : damaged (byte_at b refused_at) ≡ true

-- by the mode
abbrev pub ModeFits : Sheet → List ℕ → (area : ℕ) → ℕ → Type 0
ModeFits a b area zero = (state_from b).depth ≤ 1
ModeFits a b area (suc zero) = InsideFits a b area
ModeFits a b area (suc (suc zero)) = SkippingFits b
ModeFits a b area (suc (suc (suc m))) = ⊥

-- the bytes b, with an area of so many bytes and a part of so many
pub record SalvageFits (a : Sheet) (b : List ℕ) (area part : ℕ) : Type 0 where
  pub wide : length b ≡ salvage_width
  pub run : FitsSheet a (state_from b)
  pub mode : ModeFits a b area (byte_at b mode_at)
  pub few : long_at b passed_at + part ≤ most_bytes
