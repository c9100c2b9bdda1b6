use mathlib.Core.Path.{sym, ◌∙◌}
use Rattle.programs.specs.Parsed.{which_visit}
use Rattle.scripts.proofs.Answers.{start_plain, start_target, start_print, start_if_lem, start_begin, start_end, start_none}
use Rattle.scripts.specs.Scripts.{reading_place, layers_in}
use Rattle.scripts.proofs.Script.start.Goals as goal

-- Each answer by the law that it names. Assumes nothing.
pub returns-then-is_plain : goal.returns-then-is_plain
returns-then-is_plain c = c.plain.ensures ∙ start_plain (which_visit c.args.second) (reading_place c.args.place) (layers_in c.args.self) c.args.kind (sym c.is_plain.ensures ∙ c.if-is_plain.true)

pub returns-then-is_target : goal.returns-then-is_target
returns-then-is_target c = c.staged.ensures ∙ start_target (which_visit c.args.second) (reading_place c.args.place) (layers_in c.args.self) c.args.kind (sym c.is_plain.ensures ∙ c.if-is_plain.false) (sym c.is_target.ensures ∙ c.if-is_target.true)

pub returns-then-kind-eq14 : goal.returns-then-kind-eq14
returns-then-kind-eq14 c = c.staged-then-kind-eq14.ensures ∙ start_print (which_visit c.args.second) (reading_place c.args.place) (layers_in c.args.self) c.args.kind (sym c.is_plain.ensures ∙ c.if-is_plain.false) (sym c.is_target.ensures ∙ c.if-is_target.false) c.if-kind-eq14.true

pub returns-then-kind-eq15 : goal.returns-then-kind-eq15
returns-then-kind-eq15 c = c.test.ensures ∙ start_if_lem (which_visit c.args.second) (reading_place c.args.place) (layers_in c.args.self) c.args.kind (sym c.is_plain.ensures ∙ c.if-is_plain.false) (sym c.is_target.ensures ∙ c.if-is_target.false) c.if-kind-eq14.false c.if-kind-eq15.true

pub returns-then-kind-eq18 : goal.returns-then-kind-eq18
returns-then-kind-eq18 c = c.begin.ensures ∙ start_begin (which_visit c.args.second) (reading_place c.args.place) (layers_in c.args.self) c.args.kind (sym c.is_plain.ensures ∙ c.if-is_plain.false) (sym c.is_target.ensures ∙ c.if-is_target.false) c.if-kind-eq14.false c.if-kind-eq15.false c.if-kind-eq18.true

pub returns-then-kind-eq19 : goal.returns-then-kind-eq19
returns-then-kind-eq19 c = c.end.ensures ∙ start_end (which_visit c.args.second) (reading_place c.args.place) (layers_in c.args.self) c.args.kind (sym c.is_plain.ensures ∙ c.if-is_plain.false) (sym c.is_target.ensures ∙ c.if-is_target.false) c.if-kind-eq14.false c.if-kind-eq15.false c.if-kind-eq18.false c.if-kind-eq19.true

pub returns : goal.returns
returns c = start_none (which_visit c.args.second) (reading_place c.args.place) (layers_in c.args.self) c.args.kind (sym c.is_plain.ensures ∙ c.if-is_plain.false) (sym c.is_target.ensures ∙ c.if-is_target.false) c.if-kind-eq14.false c.if-kind-eq15.false c.if-kind-eq18.false c.if-kind-eq19.false
