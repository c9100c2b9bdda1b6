-- The worked declaration, read by the machine. Assumes nothing.
use mathlib.Core.Path.{refl}
use mathlib.Core.List.{[], ◌∷◌}
use native.Mathlib.Omega.{arith}
use Rattle.models.specs.Reader.{outside}
use Rattle.models.specs.Worked.{partner_text, partner_declaration, Partner}
use Rattle.models.proofs.Shortest.{held, sound}

pub partner : Partner
partner = record {
  of_the_family = record {
    spelled = sound 31 partner_text (outside (partner_declaration ∷ [])) (partner_declaration ∷ []) (held 31 (outside (partner_declaration ∷ [])) partner_text refl) refl;
    few_nodes = (omega arith, tt);
    shallow = (omega arith, tt);
  };
  becomes = refl;
}
