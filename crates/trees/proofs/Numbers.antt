-- Number 5 is answered exactly where no tree of a sheet lies.
-- Assumes nothing.
use mathlib.Core.Path.{refl}
use Rattle.std.specs.Prelude.{Some, None}
use mathlib.Core.Option.{none-ne-some as none_some}
use Rattle.trees.specs.Parsed.{a_tree, no_tree}
use Rattle.trees.specs.Numbers.{FiveExactly}

pub five_exactly : FiveExactly
five_exactly s i left deep (Some j) (a_tree e t n d f) = ((λ q. absurd (none_some 5 q)), (λ k. absurd (k e t n d)))
five_exactly s i left deep None (no_tree k) = ((λ q. k), (λ q. refl))
