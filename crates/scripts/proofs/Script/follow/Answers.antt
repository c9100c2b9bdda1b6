use mathlib.Core.Path.{sym, ◌∙◌, ap}
use mathlib.Core.Bool.{◌&&◌}
use Rattle.scripts.proofs.Answers.{past_short, past_long, past_semicolon, past_else, past_end, past_none}
use Rattle.extents.specs.Held.{extent_of}
use Rattle.scripts.specs.Scripts.{layers_in}
use Rattle.outlines.specs.Statements.{closed_list}
use Rattle.scripts.proofs.Script.follow.Goals as goal

-- Each answer by the law that it names. Assumes nothing.
pub returns-then-print-is_short_item : goal.returns-then-print-is_short_item
returns-then-print-is_short_item c = c.more.ensures ∙ past_short c.args.print (extent_of c.args.p) (closed_list (layers_in c.args.self) (extent_of c.args.p)) (layers_in c.args.self) c.args.kind (sym (ap (λ x. c.args.print && x) c.is_short_item.ensures) ∙ c.if-print-is_short_item.true)

pub returns-then-print-is_long_item : goal.returns-then-print-is_long_item
returns-then-print-is_long_item c = c.more-then-print-is_long_item.ensures ∙ past_long c.args.print (extent_of c.args.p) (closed_list (layers_in c.args.self) (extent_of c.args.p)) (layers_in c.args.self) c.args.kind (sym (ap (λ x. c.args.print && x) c.is_short_item.ensures) ∙ c.if-print-is_short_item.false) (sym (ap (λ x. c.args.print && x) c.is_long_item.ensures) ∙ c.if-print-is_long_item.true)

pub returns-then-kind-eq32 : goal.returns-then-kind-eq32
returns-then-kind-eq32 c = c.separate.ensures ∙ past_semicolon c.args.print (extent_of c.args.p) (closed_list (layers_in c.args.self) (extent_of c.args.p)) (layers_in c.args.self) c.args.kind (sym (ap (λ x. c.args.print && x) c.is_short_item.ensures) ∙ c.if-print-is_short_item.false) (sym (ap (λ x. c.args.print && x) c.is_long_item.ensures) ∙ c.if-print-is_long_item.false) c.if-kind-eq32.true

pub returns-then-kind-eq17 : goal.returns-then-kind-eq17
returns-then-kind-eq17 c = c.otherwise.ensures ∙ past_else c.args.print (extent_of c.args.p) (closed_list (layers_in c.args.self) (extent_of c.args.p)) (layers_in c.args.self) c.args.kind (sym (ap (λ x. c.args.print && x) c.is_short_item.ensures) ∙ c.if-print-is_short_item.false) (sym (ap (λ x. c.args.print && x) c.is_long_item.ensures) ∙ c.if-print-is_long_item.false) c.if-kind-eq32.false c.if-kind-eq17.true

pub returns-then-kind-eq19 : goal.returns-then-kind-eq19
returns-then-kind-eq19 c = c.unblock.ensures ∙ past_end c.args.print (extent_of c.args.p) (closed_list (layers_in c.args.self) (extent_of c.args.p)) (layers_in c.args.self) c.args.kind (sym (ap (λ x. c.args.print && x) c.is_short_item.ensures) ∙ c.if-print-is_short_item.false) (sym (ap (λ x. c.args.print && x) c.is_long_item.ensures) ∙ c.if-print-is_long_item.false) c.if-kind-eq32.false c.if-kind-eq17.false c.if-kind-eq19.true

pub returns : goal.returns
returns c = past_none c.args.print (extent_of c.args.p) (closed_list (layers_in c.args.self) (extent_of c.args.p)) (layers_in c.args.self) c.args.kind (sym (ap (λ x. c.args.print && x) c.is_short_item.ensures) ∙ c.if-print-is_short_item.false) (sym (ap (λ x. c.args.print && x) c.is_long_item.ensures) ∙ c.if-print-is_long_item.false) c.if-kind-eq32.false c.if-kind-eq17.false c.if-kind-eq19.false
