-- What a page and a stack hold. Assumes nothing.
use Rattle.std.specs.Prelude.{◌≡◌, List, ℕ, ◌≤◌, take}
use Rattle.limits.specs.Limits.{longest_program}
use Rattle.extents.specs.Held.{last_first}
use Rattle.strokes.specs.Strokes.{most_stacked, owed, unwound, else_owed, skipped}
use Rattle.pages.specs.declared.Page.{Page}
use Rattle.pages.specs.declared.Stack.{Stack}
use Rattle.pages.specs.declared.Ends.{Ends}

abbrev pub page_text : Page → List ℕ
page_text p = take p.len p.bytes

-- the last of them first
abbrev pub stack_at : List ℕ → ℕ → List ℕ
stack_at xs n = last_first (λ (x : ℕ). x) 0 xs n

abbrev pub stack_of : Stack → List ℕ
stack_of s = stack_at s.items s.count

pub record PageIs (xs : List ℕ) (r : Page) : Type 0 where
  pub short : r.len ≤ longest_program
  pub text : page_text r ≡ xs

pub record StackIs (ms : List ℕ) (r : Stack) : Type 0 where
  pub few : r.count ≤ most_stacked
  pub held : stack_of r ≡ ms

-- how many closing 0s are owed up to the list around a place, and how many marks are left then
pub record Unwound (s : Stack) (r : Ends) : Type 0 where
  pub fewer : r.left ≤ s.count
  pub zeros_are : r.zeros ≡ owed (stack_of s)
  pub left_are : stack_at s.items r.left ≡ unwound (stack_of s)

-- the same up to the if to which an else belongs
pub record Skipped (s : Stack) (r : Ends) : Type 0 where
  pub fewer : r.left ≤ s.count
  pub zeros_are : r.zeros ≡ else_owed (stack_of s)
  pub left_are : stack_at s.items r.left ≡ skipped (stack_of s)
