-- Where what waits when a call stops waited in it, the area is as long as it was.
-- Assumes nothing.
use mathlib.Core.Path.{◌≡◌}
use mathlib.Core.List.{List, ◌++◌}
use Prim.Native.Nat.{ℕ, ◌+◌, ◌-◌, ◌≤◌}
use native.Mathlib.Omega.{arith}
use lib.ListN.{length, drop, replicate, length-append, length-drop, length-replicate}
use Rattle.rescue.specs.Held.{Mode, waiting_in}
use Rattle.rescued.specs.Bytes.{area_after}

pub area_long : (lent : List ℕ) (k : ℕ) (m : Mode) → length (waiting_in m) ≤ k → k ≤ length lent → length (area_after lent k m) ≡ length lent
area_long lent k m h l =
    let v : List ℕ = waiting_in m in
    let o : List ℕ = replicate (k - length v) 0 in
    omega (arith, h, l, length-append v (o ++ drop k lent), length-append o (drop k lent), zeros_long (k - length v), length-drop k lent)
  where
    zeros_long : (n : ℕ) → length (replicate n (let z : ℕ = 0 in z)) ≡ n
    zeros_long n = let z : ℕ = 0 in length-replicate n z
