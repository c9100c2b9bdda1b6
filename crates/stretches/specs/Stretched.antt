-- What taking a stretch of a part answers and leaves: whatever the call answers from behind it, it answers from in front of it, after what was written.
-- Assumes nothing.
use Rattle.std.specs.Prelude.{◌≡◌, Bool, true, List, [], ◌++◌, ℕ, ◌+◌, ◌-◌, ◌≤◌, length, take, drop}
use Rattle.sheet.specs.Sheet.{Sheet}
use Rattle.runs.specs.Visits.{grammar, most_visits}
use Rattle.runs.specs.Machine.{Configuration}
use Rattle.runs.specs.Spells.{passes_at}
use Rattle.calls.specs.Call.{Result, after_writing, Runs}
use Rattle.steady.specs.Steady.{counting, Steady}
use Rattle.stretches.specs.declared.Stretch.{Stretch}

-- characters from the place `from` on, in a steady run at the count n
pub record StretchedAs (part : List ℕ) (from : ℕ) (on : Bool) (k n : ℕ) (lent : List ℕ) (put : ℕ) (r : Stretch) (d : List ℕ) : Type 0 where
  pub forward : from ≤ r.at
  pub within : r.at ≤ length part
  pub room : r.put ≤ length lent
  pub long : length d ≡ length lent
  pub count : r.count ≤ most_visits
  pub written : List ℕ
  pub next : r.put ≡ put + length written
  pub left : d ≡ take put lent ++ (written ++ drop (put + length written) lent)
  pub rest : (a : Sheet) (m : Configuration) → Steady a on k m → (more : Bool) (x : Result) → Runs a part more r.at (length lent - r.put) (counting m r.count) x →
      Runs a part more from (length lent - put) (counting m n) (after_writing written x)

-- a stretch h carried on to r: whatever stretch ended at h, with b in the lent memory, ends at r, with d
pub record CarriedAs (part : List ℕ) (on : Bool) (k : ℕ) (h : Stretch) (b : List ℕ) (r : Stretch) (d : List ℕ) : Type 0 where
  pub forward : h.at ≤ r.at
  pub long : length d ≡ length b
  pub carries : (from n : ℕ) (lent : List ℕ) (put : ℕ) → StretchedAs part from on k n lent put h b → StretchedAs part from on k n lent put r d

-- white space from the place `from` on, where it is no event
pub record BlanksAs (part : List ℕ) (from : ℕ) (r : ℕ) : Type 0 where
  pub forward : from ≤ r
  pub within : r ≤ length part
  pub rest : (a : Sheet) (m : Configuration) → m.store.env.out ≡ [] → m.store.env.count ≤ most_visits → passes_at (grammar a) m.control ≡ true → (more : Bool) (room : ℕ) (x : Result) →
      Runs a part more r room m x → Runs a part more from room m x
