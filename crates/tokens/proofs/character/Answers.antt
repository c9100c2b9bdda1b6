use native.Mathlib.Omega.{arith}
use Rattle.tokens.proofs.Reading
use Rattle.text.specs.declared.Decoded.TheVariants.{Whole, Begun, Bad}
use Rattle.tokens.proofs.character.Goals as goal

-- What `decode` answers of the bytes is what the reader answers, because the first byte is none of < & >.
pub overflow_add-result : goal.overflow_add-result
overflow_add-result c = omega (arith, c.requires.front.fits, Reading.whole_fits c.args.f.now _ _ (Reading.decoded_is c.args.f.now _ (Whole _ _) c.in-Whole.is c.decode.ensures))

pub returns-in-Whole : goal.returns-in-Whole
returns-in-Whole c = Reading.char_token c.args.f.now c.args.at c.requires.in_bounds.0 c.requires.in_bounds.1 c.requires.in_bounds.2 c.requires.in_bounds.3 c.requires.in_bounds.4 _ _ (Reading.decoded_is c.args.f.now _ (Whole _ _) c.in-Whole.is c.decode.ensures)

pub returns-in-Begun : goal.returns-in-Begun
returns-in-Begun c = Reading.char_begun c.args.f.now c.args.at c.requires.in_bounds.0 c.requires.in_bounds.1 c.requires.in_bounds.2 c.requires.in_bounds.3 c.requires.in_bounds.4 (Reading.decoded_is c.args.f.now _ Begun c.in-Begun.is c.decode.ensures)

pub returns-in-Bad : goal.returns-in-Bad
returns-in-Bad c = Reading.char_bad c.args.f.now c.args.at c.requires.in_bounds.0 c.requires.in_bounds.1 c.requires.in_bounds.2 c.requires.in_bounds.3 c.requires.in_bounds.4 (Reading.decoded_is c.args.f.now _ Bad c.in-Bad.is c.decode.ensures)
