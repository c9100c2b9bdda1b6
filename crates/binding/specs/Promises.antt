-- What is promised of sections that are bound: those of rules are the sheet of these rules. Assumes nothing.
use Rattle.std.specs.Prelude.{◌≡◌}
use Rattle.notation.specs.Rules.{Rules}
use Rattle.encoding.specs.Distinct.{run_together}
use Rattle.encoding.specs.Encoded.{tags_stored, strings_stored, programs_stored}
use Rattle.packing.specs.Packed.{productions_section, nodes_section, sheet_bytes}
use Rattle.binding.specs.Bound.{bound_bytes}

abbrev pub BindsSheets : Type 0
BindsSheets = (r : Rules)
    → bound_bytes (tags_stored r) (productions_section r 0 r.productions) (nodes_section r r.productions) (run_together (programs_stored r)) (run_together (strings_stored r)) r.start ≡ sheet_bytes r
