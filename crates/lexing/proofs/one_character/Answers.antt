use native.Mathlib.Omega.{arith}
use mathlib.Core.Path.{subst, ◌≡◌}
use lib.ListN.{length, take}
use Rattle.text.specs.Chars.{DecodedIs}
use Prim.Native.Nat.{◌+◌}
use Rattle.text.specs.declared.Decoded.TheVariants.{Whole, Begun, Bad}
use Rattle.lexing.proofs.Pieces.{none_read, decoded_as, character_found, character_bad, character_begun}
use Rattle.lexing.proofs.one_character.Goals as goal

pub loop-j-init : goal.loop-j-init
loop-j-init c = none_read c.args.y.now

pub returns-in-Whole : goal.returns-in-Whole
returns-in-Whole c = let y = c.args.y.now in character_found y (c.loop-j.j + 1) _ _ (decoded_as y (c.loop-j.j + 1) _ (Whole _ _) c.in-Whole.is c.decode.ensures)

pub loop-j-preserved : goal.loop-j-preserved
loop-j-preserved c = let y = c.args.y.now in decoded_as y (c.loop-j.j + 1) _ Begun c.in-Begun.is c.decode.ensures

pub returns-in-Bad : goal.returns-in-Bad
returns-in-Bad c = let y = c.args.y.now in character_bad y c.loop-j.j (omega arith) c.loop-j.invariant (decoded_as y (c.loop-j.j + 1) _ Bad c.in-Bad.is c.decode.ensures)

pub returns : goal.returns
returns c = let y = c.args.y.now in let e : c.loop-j.j ≡ length y = omega arith in character_begun y (length y) (omega arith) (omega arith) (subst (λ n. DecodedIs (take n y) Begun) e c.loop-j.invariant)
