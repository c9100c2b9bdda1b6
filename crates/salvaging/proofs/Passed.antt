-- What is told of a part is so of the stream: bytes apart from a word stay apart from it with more behind them, and a word that stands in the part stands in the stream.
-- Assumes nothing.
use mathlib.Core.Path.{sym, ap, ◌∙◌}
use mathlib.Core.Logic.{inl, inr}
use mathlib.Core.List.{List, ◌++◌, append_assoc}
use Prim.Native.Nat.{ℕ, ◌≤◌}
use native.Mathlib.Omega.{arith}
use lib.ListN.{length, drop}
use lib.Seq.{drop-append-le}
use Rattle.text.specs.Chars.{Starts}
use Rattle.tokens.specs.declared.Word.TheVariants.{Whole, No}
use Rattle.salvaging.specs.declared.Resumed.TheVariants.{Here, Waits, Nowhere}
use Rattle.salvaging.specs.Resumed.{EitherIs, ApartUpTo}
use Rattle.salvaging.specs.Promises.{OneStands, NoneStands, PassedOver}

module _ (w w' part later : List ℕ) where
  abbrev s : List ℕ
  s = part ++ later

  not_there : (i : ℕ) → i ≤ length part → EitherIs w w' (drop i part) No → OneStands w w' s i → ⊥
  not_there i l (a, b) (inl (v, e)) = a later v (sym (drop-append-le i part later l) ∙ e)
  not_there i l (a, b) (inr (v, e)) = b later v (sym (drop-append-le i part later l) ∙ e)

  none_there : (from to : ℕ) → to ≤ length part → ApartUpTo w w' part from to → NoneStands w w' s from to
  none_there from to l h i f g = not_there i (omega (arith, g, l)) (h i f g)

  more : (i : ℕ) → i ≤ length part → (u : List ℕ) → Starts (drop i part) u → Starts (drop i s) u
  more i l u (v, e) = (v ++ later, drop-append-le i part later l ∙ ap (λ (k : List ℕ). k ++ later) e ∙ append_assoc u v later)

  there : (i : ℕ) → i ≤ length part → EitherIs w w' (drop i part) Whole → OneStands w w' s i
  there i l (inl k) = inl (more i l w k)
  there i l (inr k) = inr (more i l w' k)

pub passed_over : PassedOver
passed_over w w' part later from (Here at) (l, n, k, h) = (there w w' part later at (omega (arith, n)) k, none_there w w' part later from at (omega (arith, n)) h)
passed_over w w' part later from (Waits at) (l, n, k, h) = none_there w w' part later from at (omega (arith, n)) h
passed_over w w' part later from Nowhere h = none_there w w' part later from (length part) (omega arith) h
