-- What the checker answers of a sheet's bytes and a lent list: the number, the count of the faults, and every byte of the list then. Assumes nothing.
use Rattle.std.specs.Prelude.{◌≡◌, List, ◌++◌, ℕ, ◌*◌, ◌≤◌, ◌<◌, length, drop}
use Rattle.expressions.specs.Grammar.{Production}
use Rattle.expressions.specs.FaultList.{IsFaultList, list_bytes, FaultNumber}
use Rattle.sheet.specs.Defect.{DefectIs}
use Rattle.sheet.specs.Sheet.{Sheet, grammar_of, IsSheet}
use Rattle.faults.specs.declared.Checked.{Checked}

-- a grammar whose faults are l, a lent list before and after, and the number: 10 where the list is too short, and it is as lent; else that of the faults,
-- which stand at the list's start
pub data ListedAs (g : List Production) (l : List (List ℕ)) (lent after : List ℕ) (n : ℕ) : Type 0 where
  too_short : length lent < 4 * length l → n ≡ 10 → after ≡ lent → ListedAs g l lent after n
  all_listed : 4 * length l ≤ length lent → FaultNumber g n → after ≡ list_bytes l ++ drop (4 * length l) lent → ListedAs g l lent after n

-- with 1 to 7 the count is 0 and nothing is written; else the sheet's faults, each once and rising, are counted and listed
pub data CheckedAs (s lent after : List ℕ) (r : Checked) : Type 0 where
  malformed : 1 ≤ r.number → DefectIs s r.number → r.count ≡ 0 → after ≡ lent → CheckedAs s lent after r
  well_formed_lem : (a : Sheet) → IsSheet s a → (l : List (List ℕ)) → IsFaultList (grammar_of a.rules) l → r.count ≡ length l → ListedAs (grammar_of a.rules) l lent after r.number → CheckedAs s lent after r
