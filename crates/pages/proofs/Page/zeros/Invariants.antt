use mathlib.Core.Path.{◌≡◌}
use lib.ListN.{replicate}
use Rattle.strokes.specs.Strokes.{written_on}
use Rattle.pages.specs.Pages.{page_text}
use Prim.Native.Nat.{◌≤◌}
use Rattle.pages.proofs.Page.zeros.Given as goal

-- So many 0s stand behind the text. Assumes nothing.
abbrev pub invariant-loop : goal.invariant-loop
invariant-loop l = (l.page.len ≤ 256) × (page_text l.page ≡ written_on (page_text l.initial.page) (replicate l.counter 0))
