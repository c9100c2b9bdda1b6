use Rattle.programs.specs.Parsed.{which_visit}
use Rattle.scripts.proofs.Standings.{went, step_refused, next_firmly, too_long, too_deep, stepped}
use Rattle.scripts.proofs.Script.step.Goals as goal

-- Each answer by the law that it names. Assumes nothing.
pub measure-e-requires : goal.measure-e-requires
measure-e-requires c = next_firmly (which_visit c.args.second) c.args.self _ c.args.kind c.requires (went (which_visit c.args.second) c.args.self c.args.kind _ _ c.in-Some.is c.go-t.ensures)

pub returns-then-e-gt255 : goal.returns-then-e-gt255
returns-then-e-gt255 c = too_long (which_visit c.args.second) c.args.self _ c.args.kind c.requires (went (which_visit c.args.second) c.args.self c.args.kind _ _ c.in-Some.is c.go-t.ensures) c.measure-e.result c.measure-e.ensures c.if-e-gt255.true

pub returns-then-e-gt8 : goal.returns-then-e-gt8
returns-then-e-gt8 c = too_deep (which_visit c.args.second) c.args.self _ c.args.kind c.requires (went (which_visit c.args.second) c.args.self c.args.kind _ _ c.in-Some.is c.go-t.ensures) c.measure-e.result c.measure-e.ensures c.if-e-gt8.true

pub returns : goal.returns
returns c = stepped (which_visit c.args.second) c.args.self _ c.args.kind c.requires (went (which_visit c.args.second) c.args.self c.args.kind _ _ c.in-Some.is c.go-t.ensures) c.measure-e.result c.measure-e.ensures c.if-e-gt255.false c.if-e-gt8.false

pub returns-in_default : goal.returns-in_default
returns-in_default c = step_refused (which_visit c.args.second) c.args.self c.args.kind (went (which_visit c.args.second) c.args.self c.args.kind _ _ c.in_default.is c.go-t.ensures)
