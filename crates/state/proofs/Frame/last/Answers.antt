use mathlib.Core.Path.{◌≡◌, sym, ◌∙◌}
use native.Mathlib.Omega.{arith}
use lib.ListN.{length}
use Rattle.state.specs.Bounds.{most_sets}
use Rattle.state.specs.Changes.{bare_saved}
use Rattle.state.proofs.Laws.{length_mapped, last_past, last_at}
use borrow.Author.Rules.{rules}
use Rattle.state.proofs.Frame.last.Goals as goal

-- By the tests: a set is in use, and at most 13 are.
pub returns-then-k-gt-SETS : goal.returns-then-k-gt-SETS
returns-then-k-gt-SETS c = let s = c.args.self in
    let n : length s.saved ≡ most_sets = search (length_mapped, rules) in
    c.bare-then-k-gt-SETS.ensures ∙ sym (last_past bare_saved s.saved s.«open» (omega arith))

pub returns : goal.returns
returns c = let s = c.args.self in
    let n : length s.saved ≡ most_sets = search (length_mapped, rules) in
    sym (last_at bare_saved _ s.saved s.«open» (omega arith) (omega arith))
