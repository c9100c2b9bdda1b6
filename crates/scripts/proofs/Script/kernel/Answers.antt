use mathlib.Core.Path.{◌∙◌}
use native.Mathlib.Omega.{arith}
use Rattle.scripts.specs.declared.Stage.TheVariants.{At, Assign, Operand, Item, Single, Equals, Other, Behind, Past}
use Rattle.scripts.proofs.Standings.{kernel_as, extent_under, small_extent, level_single, level_equals, level_other, level_behind, behind_extent, behind_side, past_extent, test_kernel}
use Rattle.extents.proofs.Parts.{extent_same, side_grows, extent_sized}
use Rattle.extents.specs.Held.{extent_of, side_of}
use Rattle.scripts.specs.Scripts.{margins_in}
use Rattle.scripts.proofs.Script.kernel.Goals as goal

-- Each answer by the law that it names. Assumes nothing.
pub tested-requires : goal.tested-requires
tested-requires c = record { margin_room = level_single c.args.self c.requires c.in-Single.is; extent_under = small_extent 10000 5 _ c.plainly-c.ensures.0 (omega arith) }

pub tested-requires-in-Equals : goal.tested-requires-in-Equals
tested-requires-in-Equals c = record { margin_room = level_equals c.args.self c.requires c.in-Equals.is; extent_under = small_extent 10000 5 _ c.plainly-c-in-Equals.ensures.0 (omega arith) }

pub tested-requires-in-Other : goal.tested-requires-in-Other
tested-requires-in-Other c = record { margin_room = level_other c.args.self c.requires c.in-Other.is; extent_under = small_extent 10000 5 _ c.plainly-c-in-Other.ensures.0 (omega arith) }

pub pair_with-c-requires : goal.pair_with-c-requires
pair_with-c-requires c = record { side_under = behind_side c.args.self c.requires _ _ c.in-Behind.is; small_extent = extent_sized (behind_extent c.args.self c.requires _ _ c.in-Behind.is) }

pub tested-requires-in-Behind : goal.tested-requires-in-Behind
tested-requires-in-Behind c = let g = side_grows (side_of c.in-Behind.o) (extent_of c.in-Behind.d) (behind_side c.args.self c.requires _ _ c.in-Behind.is) in let d = behind_extent c.args.self c.requires _ _ c.in-Behind.is in record { margin_room = level_behind c.args.self c.requires _ _ c.in-Behind.is; extent_under = record { few_bytes = omega (arith, g.0, d.few_bytes, c.pair_with-c.ensures.bytes_are); few_deep = omega (arith, g.1, d.few_deep, c.pair_with-c.ensures.nested_is) } }

pub returns-in-At : goal.returns-in-At
returns-in-At c = (c.place_kernel.ensures.0 ∙ kernel_as c.args.self (At _) c.in-At.is, extent_under {m = 1000} {n = 300000} (omega arith) c.place_kernel.ensures.1)

pub returns-in-Assign : goal.returns-in-Assign
returns-in-Assign c = (c.plainly.ensures.0 ∙ kernel_as c.args.self Assign c.in-Assign.is, extent_under {m = 1000} {n = 300000} (omega arith) c.plainly.ensures.1)

pub returns-in-Operand : goal.returns-in-Operand
returns-in-Operand c = (c.plainly-in-Operand.ensures.0 ∙ kernel_as c.args.self Operand c.in-Operand.is, extent_under {m = 1000} {n = 300000} (omega arith) c.plainly-in-Operand.ensures.1)

pub returns-in-Item : goal.returns-in-Item
returns-in-Item c = (c.plainly-in-Item.ensures.0 ∙ kernel_as c.args.self Item c.in-Item.is, extent_under {m = 1000} {n = 300000} (omega arith) c.plainly-in-Item.ensures.1)

pub returns-in-Single : goal.returns-in-Single
returns-in-Single c = (test_kernel (margins_in c.args.self) _ _ _ c.tested.ensures.0 c.plainly-c.ensures.0 ∙ kernel_as c.args.self Single c.in-Single.is, c.tested.ensures.1)

pub returns-in-Equals : goal.returns-in-Equals
returns-in-Equals c = (test_kernel (margins_in c.args.self) _ _ _ c.tested-in-Equals.ensures.0 c.plainly-c-in-Equals.ensures.0 ∙ kernel_as c.args.self Equals c.in-Equals.is, c.tested-in-Equals.ensures.1)

pub returns-in-Other : goal.returns-in-Other
returns-in-Other c = (test_kernel (margins_in c.args.self) _ _ _ c.tested-in-Other.ensures.0 c.plainly-c-in-Other.ensures.0 ∙ kernel_as c.args.self Other c.in-Other.is, c.tested-in-Other.ensures.1)

pub returns-in-Behind : goal.returns-in-Behind
returns-in-Behind c = (test_kernel (margins_in c.args.self) _ _ _ c.tested-in-Behind.ensures.0 (extent_same c.pair_with-c.ensures) ∙ kernel_as c.args.self (Behind _ _) c.in-Behind.is, c.tested-in-Behind.ensures.1)

pub returns-in-Past : goal.returns-in-Past
returns-in-Past c = (kernel_as c.args.self (Past _ _) c.in-Past.is, extent_under {m = 1000} {n = 300000} (omega arith) (past_extent c.args.self c.requires _ _ c.in-Past.is))
