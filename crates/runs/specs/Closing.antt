-- The numbers that close a state: 0, 20 to 27, 30.
-- Assumes nothing.
use Rattle.std.specs.Prelude.{ℕ, ◌≤◌}

pub data Closing : ℕ → Type 0 where
  closed_by_end : Closing 0
  closed_by_refusal : {n : ℕ} → 20 ≤ n → n ≤ 27 → Closing n
  closed_by_count : Closing 30
