use mathlib.Core.Path.{◌≡◌}
use native.Mathlib.Omega.{arith}
use lib.ListN.{length}
use Rattle.scripts.proofs.Answers.{no_got, got_some, margin_top}
use Rattle.scripts.proofs.Standings.{extent_under}
use Rattle.extents.proofs.Parts.{length_of_structs}
use Rattle.extents.specs.Held.{extent_of, most_margins}
use Rattle.scripts.specs.Scripts.{layers_in}
use Prim.Native.Nat.{◌<◌}
use borrow.Author.Rules.{rules}
use Rattle.scripts.proofs.Script.got.Goals as goal

-- Each answer by the law that it names. Assumes nothing.
pub returns-then-deep-eq0 : goal.returns-then-deep-eq0
returns-then-deep-eq0 c = no_got (layers_in c.args.self) c.args.self.margins c.args.self.deep (extent_of c.args.c) c.if-deep-eq0.true

pub up_to_and-e-requires : goal.up_to_and-e-requires
up_to_and-e-requires c = let k : length c.args.self.margins ≡ most_margins = search (length_of_structs, rules) in let p : 0 < c.args.self.deep = omega (arith, c.if-deep-eq0.false) in record { margin_under = margin_top c.args.self.margins c.args.self.deep p (omega (arith, k, c.requires.margin_room.room)) c.requires.margin_room.small; extent_under = extent_under {m = 10000} {n = 200000} (omega arith) c.requires.extent_under }

pub returns : goal.returns
returns c = let k : length c.args.self.margins ≡ most_margins = search (length_of_structs, rules) in let p : 0 < c.args.self.deep = omega (arith, c.if-deep-eq0.false) in got_some (layers_in c.args.self) c.args.self.margins c.args.self.deep c.args.c c.up_to_and-e.result p (omega (arith, k, c.requires.margin_room.room)) c.up_to_and-e.ensures
