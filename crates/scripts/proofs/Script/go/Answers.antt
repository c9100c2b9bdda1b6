use mathlib.Core.Path.{◌∙◌}
use Rattle.programs.specs.Parsed.{which_visit}
use Rattle.scripts.specs.declared.Stage.TheVariants.{At, Assign, Operand, Item, Single, Equals, Other, Behind, Past}
use Rattle.scripts.proofs.Standings.{steady, firmly, level_single, level_other, level_behind, room_behind, behind_extent, behind_side, past_extent, step_as, none_tested}
use Rattle.scripts.specs.Scripts.{layers_in, margins_in}
use Rattle.outlines.specs.Conditions.{step_wanting, a_single, an_equals, an_operand}
use Rattle.scripts.proofs.Script.go.Goals as goal

-- Each answer by the law that it names. Assumes nothing.
pub start-requires : goal.start-requires
start-requires c = steady c.args.self c.requires

pub single-requires : goal.single-requires
single-requires c = level_single c.args.self (firmly c.args.self c.requires) c.in-Single.is

pub other-requires : goal.other-requires
other-requires c = level_other c.args.self (firmly c.args.self c.requires) c.in-Other.is

pub behind-requires : goal.behind-requires
behind-requires c = let s = c.args.self in let f = firmly s c.requires in let e = c.in-Behind.is in record { layer_room = (steady s c.requires, level_behind s f _ _ e); deep_lt_most_margins = room_behind s f _ _ e; extent_under = (behind_extent s f _ _ e, behind_side s f _ _ e) }

pub follow-requires : goal.follow-requires
follow-requires c = record { layer_room = steady c.args.self c.requires; extent_under = past_extent c.args.self (firmly c.args.self c.requires) _ _ c.in-Past.is }

pub returns-in-At : goal.returns-in-At
returns-in-At c = c.start.ensures ∙ step_as (which_visit c.args.second) c.args.kind c.args.self (At _) c.in-At.is

pub returns-in-Assign : goal.returns-in-Assign
returns-in-Assign c = c.assign.ensures ∙ step_as (which_visit c.args.second) c.args.kind c.args.self Assign c.in-Assign.is

pub returns-in-Operand : goal.returns-in-Operand
returns-in-Operand c = c.assigned.ensures ∙ step_as (which_visit c.args.second) c.args.kind c.args.self Operand c.in-Operand.is

pub returns-in-Item : goal.returns-in-Item
returns-in-Item c = c.item.ensures ∙ step_as (which_visit c.args.second) c.args.kind c.args.self Item c.in-Item.is

pub returns-in-Single : goal.returns-in-Single
returns-in-Single c = c.single.ensures ∙ (none_tested (step_wanting (which_visit c.args.second) a_single (margins_in c.args.self) c.args.kind) (layers_in c.args.self) c.args.kind ∙ step_as (which_visit c.args.second) c.args.kind c.args.self Single c.in-Single.is)

pub returns-in-Equals : goal.returns-in-Equals
returns-in-Equals c = c.equals.ensures ∙ (none_tested (step_wanting (which_visit c.args.second) an_equals (margins_in c.args.self) c.args.kind) (layers_in c.args.self) c.args.kind ∙ step_as (which_visit c.args.second) c.args.kind c.args.self Equals c.in-Equals.is)

pub returns-in-Other : goal.returns-in-Other
returns-in-Other c = c.other.ensures ∙ (none_tested (step_wanting (which_visit c.args.second) an_operand (margins_in c.args.self) c.args.kind) (layers_in c.args.self) c.args.kind ∙ step_as (which_visit c.args.second) c.args.kind c.args.self Other c.in-Other.is)

pub returns-in-Behind : goal.returns-in-Behind
returns-in-Behind c = c.behind.ensures ∙ step_as (which_visit c.args.second) c.args.kind c.args.self (Behind _ _) c.in-Behind.is

pub returns-in-Past : goal.returns-in-Past
returns-in-Past c = c.follow.ensures ∙ step_as (which_visit c.args.second) c.args.kind c.args.self (Past _ _) c.in-Past.is
