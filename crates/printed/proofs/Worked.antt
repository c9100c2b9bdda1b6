-- The worked lines are printed so. Assumes nothing.
use mathlib.Core.Path.{refl}
use Rattle.notation.specs.Tokens.{decimal}
use Rattle.printed.specs.Text.{text_of}
use Rattle.printed.specs.Worked.{Printed27And28}

pub printed_27_and_28 : Printed27And28
unfolding text_of decimal
printed_27_and_28 = refl
