use mathlib.Core.Path.{sym, subst}
use Rattle.salvaging.specs.Resumed.{EitherIs}
use Rattle.salvaging.proofs.Words.{either_is}
use Rattle.salvaging.proofs.either.Goals as goal

-- The two words are compared by themselves, and the two answers joined.
pub returns : goal.returns
returns c =
    let a = c.args in
    subst (EitherIs a.first.now a.second.now a.f.now) (sym c.joined.ensures)
    (either_is a.first.now a.second.now a.f.now c.compare-one.result c.compare-other.result c.compare-one.ensures c.compare-other.ensures)
