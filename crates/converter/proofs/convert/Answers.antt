use mathlib.Core.Path.{ap, ◌∙◌}
use mathlib.Core.List.{List}
use Prim.Native.Nat.{ℕ}
use lib.ListN.{length}
use borrow.Author.Rules.{rules}
use Rattle.state.specs.Bytes.{state_from}
use Rattle.converter.proofs.Replies.{and_within}
use Rattle.converter.proofs.BytesLaws.{by_value}
use Rattle.converter.proofs.Entering.{all_put_in}
use Rattle.converter.proofs.convert.Goals as goal

-- The state's bytes read back as the state, so the call over them is the call of the state.
pub returns : goal.returns
returns c =
    let t = c.to_bytes in
    let z = c.args.state in
    let e = all_put_in _ _ _ t.ensures.wrote in
    let w = and_within
    (by_value z c.from_bytes-left.result (ap (λ (l : List ℕ). length l) e ∙ t.ensures.wrote.wide) (ap state_from e ∙ t.ensures.state_value) c.from_bytes-left.ensures c.convert_bytes-counts.ensures.bytes_answered_as) in record { answered_as = w.0; taken_in_bounds = w.1.0; written_in_bounds = w.1.1 }
