-- Lists that are gathered over a range of numbers: their members, that they rise, and their lengths.
-- Assumes nothing.
use mathlib.Core.Path.{◌≡◌, refl, sym, subst}
use mathlib.Core.Bool.{Bool, true, false, false≢true}
use mathlib.Core.List.Memᴰ
use mathlib.Core.List.{List, ◌++◌, Memᴰ}
use mathlib.Core.Logic.{⊎_elim}
use Prim.Native.Nat.{ℕ, zero, suc, ◌+◌, ◌≤◌, ◌<◌}
use native.Mathlib.Omega.{arith}
use lib.Dec.{eqb}
use borrow.Author.Tests.{eqb-true, eqb-false}
use Rattle.expressions.specs.Grammar.{only_if}
use Rattle.expressions.specs.Listed.{gather}
use Rattle.expressions.proofs.Order.{Bytes, Ascends, Starts, starts_before, ascends_append}

-- an entry that a test lets in
pub entry_in : (t : Bool) (b b' : Bytes) → t ≡ true → b ≡ b' → Memᴰ b (only_if t b')
entry_in true b b' e q = Memᴰ.head q
entry_in false b b' e q = absurd (false≢true e)

pub entry_out : (t : Bool) (b b' : Bytes) → Memᴰ b (only_if t b') → (t ≡ true) × (b ≡ b')
entry_out true b b' m = (refl, Memᴰ.eq_of_singleton m)
entry_out false b b' m = absurd (Memᴰ.not-nil m)

pub entry_ascends : (t : Bool) (b : Bytes) → Ascends (only_if t b)
entry_ascends true b = ((λ c m. absurd (Memᴰ.not-nil m)), tt)
entry_ascends false b = tt

-- the members of what is gathered
pub gather_in : (i n : ℕ) (f : ℕ → List Bytes) (k : ℕ) (b : Bytes) → i ≤ k → k < i + n → Memᴰ b (f k) → Memᴰ b (gather i n f)
gather_in i zero f k b h h' m = absurd (omega arith)
gather_in i (suc n) f k b h h' m = here (λ (l : suc i ≤ k). gather_in (suc i) n f k b l (omega arith) m) (eqb i k) refl
  where
    here : (suc i ≤ k → Memᴰ b (gather (suc i) n f)) → (t : Bool) → eqb i k ≡ t → Memᴰ b (f i ++ gather (suc i) n f)
    here later true e = Memᴰ.append_left (gather (suc i) n f) (subst (λ (z : ℕ). Memᴰ b (f z)) (sym (eqb-true i k e)) m)
    here later false e = let d : i ≡ k → ⊥ = eqb-false i k e in Memᴰ.append_right (f i) (later (omega arith))

pub gather_out : (i n : ℕ) (f : ℕ → List Bytes) (b : Bytes) → Memᴰ b (gather i n f) → (k : ℕ) × (i ≤ k) × (k < i + n) × Memᴰ b (f k)
gather_out i zero f b m = absurd (Memᴰ.not-nil m)
gather_out i (suc n) f b m =
    ⊎_elim (λ h. (i, omega arith, omega arith, h))
    (λ h. let t = gather_out (suc i) n f b h in
    let l : suc i ≤ t.0 = t.1 in
    let l' : t.0 < suc i + n = t.2 in
    (t.0, omega arith, omega arith, t.3))
    (Memᴰ.append_cases (f i) m)

-- it rises where each part does, and the entries of part k have k after a common beginning
pub gather_ascends : (u : Bytes) (f : ℕ → List Bytes) → ((k : ℕ) → Ascends (f k)) → ((k : ℕ) (b : Bytes) → Memᴰ b (f k) → Starts u k b) →
    (i n : ℕ) → Ascends (gather i n f)
gather_ascends u f h s i zero = tt
gather_ascends u f h s i (suc n) =
    ascends_append (f i) (gather (suc i) n f) (h i) (gather_ascends u f h s (suc i) n)
    (λ b b' m m'. let t = gather_out (suc i) n f b' m' in
    let l : suc i ≤ t.0 = t.1 in
    starts_before u i t.0 (omega arith) b b' (s i b m) (s t.0 b' t.3))
