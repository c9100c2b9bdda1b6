use Rattle.std.proofs.Common.{refl}
use Rattle.losses.proofs.WalkLaws.{walk_start}
use Rattle.losses.proofs.rereading.Walk.start.Goals as goal

pub returns : goal.returns
returns c = walk_start _ refl refl
