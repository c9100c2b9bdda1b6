use mathlib.Core.Path.{◌≡◌, sym, ◌∙◌}
use native.Mathlib.Omega.{arith}
use lib.ListN.{length}
use Rattle.runs.specs.Machine.{most}
use Rattle.state.specs.Changes.{bare_frame}
use Rattle.state.proofs.Laws.{length_mapped, last_past, last_at}
use borrow.Author.Rules.{rules}
use Rattle.state.proofs.State.top.Goals as goal

-- By the tests: an element is open, and at most 32 are.
pub returns-then-d-gt-DEPTH : goal.returns-then-d-gt-DEPTH
returns-then-d-gt-DEPTH c = let s = c.args.self in
    let n : length s.frames ≡ most = search (length_mapped, rules) in
    c.bare-then-d-gt-DEPTH.ensures ∙ sym (last_past bare_frame s.frames s.depth (omega arith))

pub returns : goal.returns
returns c = let s = c.args.self in
    let n : length s.frames ≡ most = search (length_mapped, rules) in
    sym (last_at bare_frame _ s.frames s.depth (omega arith) (omega arith))
