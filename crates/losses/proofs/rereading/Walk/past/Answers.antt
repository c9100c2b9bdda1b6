use Rattle.std.proofs.Common.{refl}
use Rattle.losses.proofs.WalkLaws.{walk_past}
use Rattle.losses.proofs.rereading.Walk.past.Goals as goal

pub returns : goal.returns
returns c =
    let args = c.args in
    walk_past args.self _ args.b c.plus-here.result c.plus-here.ensures c.plus.ensures refl
