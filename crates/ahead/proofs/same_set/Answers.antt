use Rattle.std.proofs.lemmas.Bool.Decides.{Decides-eqb}
use Rattle.std.proofs.lemmas.Slice.Eq.{slice_eq-Decides}
use Rattle.ahead.proofs.Going.{set_told, echo_told}
use Rattle.ahead.proofs.same_set.Goals as goal

pub returns-then-a-b : goal.returns-then-a-b
returns-then-a-b c = λ e. set_told c.args.a c.args.b (echo_told _ _ c.if-a-b.true) ((slice_eq-Decides Decides-eqb _ _ _ c.eq.ensures).0 e)
