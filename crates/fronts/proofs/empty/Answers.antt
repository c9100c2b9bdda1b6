use native.Mathlib.Omega.{arith}
use mathlib.Core.List.{[], ◌∷◌}
use Prim.Native.Nat.{◌+◌, ◌-◌}
use lib.ListN.{take, drop, length-append, length-take, length-drop}
use borrow.Author.Rules.{rules}
use Rattle.fronts.proofs.empty.Goals as goal

-- The end tag goes where the start tag ended, which is not far.
pub put_end-m-requires : goal.put_end-m-requires
put_end-m-requires c = let a = c.args in let n = take (a.from + a.len - a.from) (drop a.from a.s.now) in (omega (arith, c.put_start-n.ensures.next, length-append n (62 ∷ []), length-take (a.from + a.len - a.from) (drop a.from a.s.now), length-drop a.from a.s.now), search rules)
