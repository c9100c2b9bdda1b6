-- A part of the list of faults, put into the lent list from an offset on: what such a pass answers and leaves. Assumes nothing.
use Rattle.std.specs.Prelude.{List, Bool, ◌≡◌, ℕ, ◌+◌, ◌≤◌, ◌<◌, length, get_or}
use Rattle.expressions.specs.Expr.{Content}
use Rattle.expressions.specs.Grammar.{Production, content_of, tags_of, tag}
use Rattle.expressions.specs.Decide.{to_atom}
use Rattle.expressions.specs.FaultList.{list_bytes}
use Rattle.expressions.specs.Listed.{gather, s_fault_at, t_faults, fault_list}
use Rattle.layout.specs.Layout.{tag_count}
use Rattle.lent.specs.Put.{PutAs}
use Rattle.trees.specs.GrammarAt.{GrammarIs}
use Rattle.trees.specs.Sums.{sum_cells, raised, symbol_of}
use Rattle.faults.specs.declared.Ends.{Ends}

-- the S faults at a place where a tag is next
abbrev pub s_by_tag : ℕ → (ℕ → List ℕ) → Content → ℕ → ℕ → List (List ℕ)
s_by_tag n tags e q p = gather 0 n (λ t. s_fault_at tags e q p (tag t))

-- the sums by next symbol of the place p of production q: 0, 1 or 2 for none, one or many bracket strings to an atom that can be it
pub record SumsAre (s : List ℕ) (q p : ℕ) (sums : List ℕ) : Type 0 where
  pub long : length sums ≡ sum_cells
  pub is : (g : List Production) → GrammarIs s g → (i : ℕ) → i < sum_cells → get_or sums i 0 ≡ raised 0 (to_atom (tags_of g) (content_of g q) p (symbol_of i))

-- the part that the sheet's grammar has is put from `at` on, in at most `room` bytes; r is where the next byte goes
pub record PartPut (s : List ℕ) (part : List Production → List (List ℕ)) (room : ℕ) (write : Bool) (lent : List ℕ) (at : ℕ) (after : List ℕ) (r : ℕ) : Type 0 where
  pub low : at ≤ r
  pub high : r ≤ at + room
  pub is : (g : List Production) → GrammarIs s g → PutAs write lent at (list_bytes (part g)) after r

-- all faults are put from the list's start on, those of rule T first
pub record AllPut (s : List ℕ) (write : Bool) (lent after : List ℕ) (r : Ends) : Type 0 where
  pub t_is : (g : List Production) → GrammarIs s g → r.t ≡ length (list_bytes (t_faults (tag_count s) g))
  pub all_is : (g : List Production) → GrammarIs s g → PutAs write lent 0 (list_bytes (fault_list (tag_count s) g)) after r.all

-- the number that the two ends tell
pub data NumberBy (e : Ends) : ℕ → Type 0 where
  some_T : (e.t ≡ 0 → ⊥) → NumberBy e 8
  only_S : e.t ≡ 0 → (e.all ≡ 0 → ⊥) → NumberBy e 9
  neither : e.t ≡ 0 → e.all ≡ 0 → NumberBy e 0
