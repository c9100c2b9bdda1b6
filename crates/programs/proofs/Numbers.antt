-- Number 6 is answered exactly where no program of a sheet lies.
-- Assumes nothing.
use mathlib.Core.Path.{refl}
use Rattle.std.specs.Prelude.{Some, None}
use mathlib.Core.Option.{none-ne-some as none_some}
use Rattle.programs.specs.Parsed.{whole, none}
use Rattle.programs.specs.Numbers.{SixExactly}

pub six_exactly : SixExactly
six_exactly tags strings s i (Some r) (whole p g st e f h) = ((λ q. absurd (none_some 6 q)), (λ k. absurd (k p g st)))
six_exactly tags strings s i None (none k) = ((λ q. k), (λ q. refl))
