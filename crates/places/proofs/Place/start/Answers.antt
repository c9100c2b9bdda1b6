use Rattle.std.proofs.Common.{refl}
use Rattle.places.proofs.Laws.{at_start}
use Rattle.places.proofs.Place.start.Goals as goal

pub returns : goal.returns
returns c = at_start _ refl refl refl
