-- A row of zeros with a name in it. Assumes nothing.
use mathlib.Core.Path.{◌≡◌, ◌∙◌, ap, subst}
use mathlib.Core.Bool.{true}
use mathlib.Core.List.{List, ◌∷◌, ◌++◌}
use Prim.Native.Nat.{ℕ, zero, suc, ◌+◌, ◌-◌, ◌≤◌}
use native.Mathlib.Omega.{arith}
use lib.ListN.{length, drop, set, replicate}
use Rattle.limits.specs.Limits.{longest_name}
use Rattle.lent.specs.Put.{put, PutAs}
use Rattle.lent.proofs.Laws.{put_all}
use Rattle.sheet.specs.Tags.{tag_record}

fewer_zeros : (m k : ℕ) → k ≤ m → drop k (replicate {A = ℕ} m 0) ≡ replicate (m - k) 0
fewer_zeros m zero h = ap (λ n. replicate {A = ℕ} n 0) (let e : m ≡ m - 0 = omega arith in e)
fewer_zeros zero (suc k) h = absurd (omega arith)
fewer_zeros (suc m) (suc k) h = fewer_zeros m k (omega arith) ∙ ap (λ n. replicate {A = ℕ} n 0) (let e : m - k ≡ suc m - suc k = omega arith in e)

-- the row of a tag: its length, its name, zeros
pub tag_row : (name row : List ℕ) (end : ℕ) → length name ≤ longest_name → PutAs true (set (replicate 16 0) 0 (length name)) 1 name row end → row ≡ tag_record name
tag_row name row end short p =
    let one : 1 + length name ≡ suc (length name) = omega arith in
    p.left ∙ put_all (length name ∷ replicate longest_name 0) 1 name (omega arith)
    ∙ ap (λ n. (length name ∷ name) ++ drop n (length name ∷ replicate {A = ℕ} longest_name 0)) one
    ∙ ap (λ l. (length name ∷ name) ++ l) (fewer_zeros longest_name (length name) short)

-- a row that is put, by what it is
pub put_as : (memory : List ℕ) (at : ℕ) (row new after : List ℕ) (r : ℕ) → row ≡ new → PutAs true memory at row after r → PutAs true memory at new after r
put_as memory at row new after r e h = subst (λ l. PutAs true memory at l after r) e h

pub tag_put : (memory name row after : List ℕ) (at end r : ℕ) → length name ≤ longest_name → PutAs true (set (replicate 16 0) 0 (length name)) 1 name row end → PutAs true memory at row after r
    → PutAs true memory at (tag_record name) after r
tag_put memory name row after at end r short p h = put_as memory at row (tag_record name) after r (tag_row name row end short p) h
