-- At most one place of a row is refused, and none of a row that writes something.
-- Assumes nothing.
use mathlib.Core.Path.{◌≡◌, refl, sym, ◌∙◌, ap, subst}
use mathlib.Core.Logic.{◌⊎◌, inl, inr, ⊎_elim}
use mathlib.Core.List.{List, [], ◌∷◌, ◌++◌, append_assoc}
use Prim.Native.Nat.{ℕ, suc, ◌≤◌, ◌<◌}
use native.Mathlib.Omega.{arith}
use native.Mathlib.Decide.{dec_lt}
use lib.ListN.{length, take, drop, take-append-drop}
use lib.Seq.{take-take}
use Rattle.notation.specs.Refusal.{Continues, RefusedAt}
use Rattle.notation.specs.Promises.{OnePlace, NoneWhereWritten}

module _ {A R : Type 0} (Writes : List A → R → Type 0) where
  -- what begins less of a row goes on where what begins more of it does
  pub goes_on_less : (u v : List A) → Continues Writes (u ++ v) → Continues Writes u
  goes_on_less u v g = record { rest = v ++ g.rest; value = g.value; writes = rw append_assoc at g.writes }

  pub goes_on_taken : (j k : ℕ) (row : List A) → j ≤ k → Continues Writes (take k row) → Continues Writes (take j row)
  goes_on_taken j k row h g =
      let e : take k row ≡ take j row ++ drop j (take k row) = sym (ap (λ l. l ++ drop j (take k row)) (sym (take-take j k row h)) ∙ take-append-drop j (take k row)) in
      goes_on_less (take j row) (drop j (take k row)) (subst (Continues Writes) e g)

  less : (row : List A) (j k : ℕ) → RefusedAt Writes row j → RefusedAt Writes row k → j < k → ⊥
  less row j k r s h = r.no_further (omega (arith, s.reached)) (goes_on_taken (suc j) k row h s.before)

  none_written : (row : List A) (v : R) (k : ℕ) → Writes row v → RefusedAt Writes row k → ⊥
  none_written row v k w r = go (dec_lt k (length row))
    where
      go : Dec (k < length row) → ⊥
      go (yes h) = r.no_further h (record { rest = drop (suc k) row; value = v; writes = rw take-append-drop w })
      go (no h) = r.unfinished (omega (arith, r.reached)) v w

pub one_place : OnePlace
one_place A R Writes row j k r s = go (dec_lt j k) (dec_lt k j)
  where
    go : Dec (j < k) → Dec (k < j) → j ≡ k
    go (yes h) d = absurd (less Writes row j k r s h)
    go (no h) (yes h') = absurd (less Writes row k j s r h')
    go (no h) (no h') = omega arith

pub none_where_written : NoneWhereWritten
none_where_written A R Writes = none_written Writes
