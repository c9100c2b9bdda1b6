use borrow.Author.Tests.{not-false}
use Rattle.std.proofs.lemmas.Bool.Decides.{Decides-eqb}
use Rattle.std.proofs.lemmas.Slice.Eq.{slice_eq-Decides}
use Rattle.ahead.proofs.Going.{state_told, echo_told}
use Rattle.ahead.proofs.same_state.Goals as goal

pub returns-then-eq : goal.returns-then-eq
returns-then-eq c =
    λ e. state_told c.args.z c.args.y ((slice_eq-Decides Decides-eqb _ _ _ c.eq.ensures).0 c.if-eq.true) (echo_told _ _ (not-false _ c.if-z-y.false)) _ _ c.top.ensures c.top-then-eq.ensures (c.same_frame.ensures e)
