use mathlib.Core.Path.{◌∙◌, ap}
use native.Mathlib.Omega.{arith}
use Rattle.extents.proofs.Parts.{extent_same}
use Rattle.outlines.specs.Extents as outlines
use Rattle.outlines.specs.Extents.{vacant}
use Rattle.scripts.proofs.Script.tested.Goals as goal

-- Each answer by the law that it names. Assumes nothing.
pub returns : goal.returns
returns c = (extent_same c.branch-e.ensures ∙ ap (λ x. outlines.branching x vacant vacant) c.margin_all-e.ensures.0, record { few_bytes = omega (arith, c.branch-e.ensures.bytes_are, c.margin_all-e.ensures.1.few_bytes); few_deep = omega (arith, c.branch-e.ensures.nested_is, c.margin_all-e.ensures.1.few_deep) })
