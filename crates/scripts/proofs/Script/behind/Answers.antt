use mathlib.Core.Path.{◌∙◌, ap}
use native.Mathlib.Omega.{arith}
use Rattle.scripts.proofs.Answers.{behind_and, behind_or, behind_close, behind_none, behind_then, then_open, then_closed, with_stage, with_layers}
use Rattle.extents.proofs.Parts.{extent_same, side_grows}
use Rattle.extents.specs.Held.{extent_of, side_of}
use Rattle.scripts.specs.Scripts.{layers_in, margins_in, tested_of}
use mathlib.Core.Option.{some, none}
use mathlib.Core.List.{◌∷◌}
use Rattle.outlines.specs.Conditions.{margin, wanting, a_single, got_at}
use Rattle.outlines.specs.Statements.{in_condition, then_of}
use Rattle.scripts.proofs.Script.behind.Goals as goal

-- Each answer by the law that it names. Assumes nothing.
pub returns-then-kind-eq20 : goal.returns-then-kind-eq20
returns-then-kind-eq20 c = c.margined.ensures ∙ behind_and (extent_of c.args.d) (side_of c.args.o) (margins_in c.args.self) (layers_in c.args.self) c.args.kind c.if-kind-eq20.true

pub returns-then-kind-eq21 : goal.returns-then-kind-eq21
returns-then-kind-eq21 c = c.margined-then-kind-eq21.ensures ∙ (with_stage (layers_in c.args.self) (ap (λ x. in_condition (wanting a_single (margin (some x) none 0 ∷ margins_in c.args.self))) (extent_same c.pair_with-c.ensures)) ∙ behind_or (extent_of c.args.d) (side_of c.args.o) (margins_in c.args.self) (layers_in c.args.self) c.args.kind c.if-kind-eq20.false c.if-kind-eq21.true)

pub got-requires : goal.got-requires
got-requires c = let g = side_grows (side_of c.args.o) (extent_of c.args.d) c.requires.extent_under.1 in record { margin_room = c.requires.layer_room.1; extent_under = record { few_bytes = omega (arith, g.0, c.requires.extent_under.0.few_bytes, c.pair_with-c.ensures.bytes_are); few_deep = omega (arith, g.1, c.requires.extent_under.0.few_deep, c.pair_with-c.ensures.nested_is) } }

pub returns-then-kind-eq26 : goal.returns-then-kind-eq26
returns-then-kind-eq26 c = c.got.ensures ∙ (ap (λ x. tested_of (layers_in c.args.self) (got_at (margins_in c.args.self) x)) (extent_same c.pair_with-c.ensures) ∙ behind_close (extent_of c.args.d) (side_of c.args.o) (margins_in c.args.self) (layers_in c.args.self) c.args.kind c.if-kind-eq20.false c.if-kind-eq21.false c.if-kind-eq26.true)

pub returns-then-deep-eq0 : goal.returns-then-deep-eq0
returns-then-deep-eq0 c = c.branch-self.ensures ∙ (with_layers _ (ap (λ x. then_of x ∷ layers_in c.args.self) (extent_same c.pair_with-c.ensures)) ∙ (then_closed (extent_of c.args.d) (side_of c.args.o) c.args.self.margins c.args.self.deep (layers_in c.args.self) c.args.kind c.if-deep-eq0.true c.if-kind-eq16.true ∙ behind_then (extent_of c.args.d) (side_of c.args.o) (margins_in c.args.self) (layers_in c.args.self) c.args.kind c.if-kind-eq20.false c.if-kind-eq21.false c.if-kind-eq26.false))

pub returns-then-kind-eq16 : goal.returns-then-kind-eq16
returns-then-kind-eq16 c = (then_open (extent_of c.args.d) (side_of c.args.o) c.args.self.margins c.args.self.deep (layers_in c.args.self) c.args.kind c.if-deep-eq0.false ∙ behind_then (extent_of c.args.d) (side_of c.args.o) (margins_in c.args.self) (layers_in c.args.self) c.args.kind c.if-kind-eq20.false c.if-kind-eq21.false c.if-kind-eq26.false)

pub returns : goal.returns
returns c = behind_none (extent_of c.args.d) (side_of c.args.o) (margins_in c.args.self) (layers_in c.args.self) c.args.kind c.if-kind-eq20.false c.if-kind-eq21.false c.if-kind-eq26.false c.if-kind-eq16.false
