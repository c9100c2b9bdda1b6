use Rattle.dtds.proofs.Strides.{next_byte, between_byte}
use Rattle.dtds.proofs.stride.Goals as goal

pub returns-then-s : goal.returns-then-s
returns-then-s c =
    between_byte c.args.text.now c.args.at c.args.s _ _ _ _ _ _ c.between.result c.requires.at_in_bounds c.requires.read_up_to c.if-s.true c.between.ensures

pub amid-requires : goal.amid-requires
amid-requires c =
    record { in_text = next_byte c.args.text.now c.args.at c.args.s _ _ _ _ _ _ c.requires.at_in_bounds c.requires.read_up_to; out_value = c.if-s.false }
