use Rattle.sheet.specs.Defect.{a_tag, a_production, a_tree, a_program, not_grounded, well_formed_lem}
use Rattle.tells.proofs.Laws.{told, not_told}
use Rattle.sheet.proofs.DefectLaws.{runs_inside}
use Rattle.sheet.proofs.defect_of_parts.Goals as goal

-- Each test that was passed is kept; the one that was not is the number.
pub returns-then-not-tags_fit : goal.returns-then-not-tags_fit
returns-then-not-tags_fit c =
    let p = c.requires in
    a_tag p.size p.sections (not_told c.tags_fit.ensures c.if-not-tags_fit.true)

pub returns-then-not-productions_fit : goal.returns-then-not-productions_fit
returns-then-not-productions_fit c =
    let p = c.requires in
    a_production p.size p.sections (told c.tags_fit.ensures c.if-not-tags_fit.false) (not_told c.productions_fit.ensures c.if-not-productions_fit.true)

pub trees_fit-requires : goal.trees_fit-requires
trees_fit-requires c = record { laid_out = c.requires; runs_inside = runs_inside _ (told c.productions_fit.ensures c.if-not-productions_fit.false) }

pub returns-then-not-trees_fit : goal.returns-then-not-trees_fit
returns-then-not-trees_fit c =
    let p = c.requires in
    a_tree p.size p.sections (told c.tags_fit.ensures c.if-not-tags_fit.false) (told c.productions_fit.ensures c.if-not-productions_fit.false) (not_told c.trees_fit.ensures c.if-not-trees_fit.true)

pub returns-then-not-programs_fit : goal.returns-then-not-programs_fit
returns-then-not-programs_fit c =
    let p = c.requires in
    a_program p.size p.sections (told c.tags_fit.ensures c.if-not-tags_fit.false) (told c.productions_fit.ensures c.if-not-productions_fit.false) (told c.trees_fit.ensures c.if-not-trees_fit.false) (not_told c.programs_fit.ensures c.if-not-programs_fit.true)

pub returns-then-not-grounded : goal.returns-then-not-grounded
returns-then-not-grounded c =
    let p = c.requires in
    not_grounded p.size p.sections (told c.tags_fit.ensures c.if-not-tags_fit.false) (told c.productions_fit.ensures c.if-not-productions_fit.false) (told c.trees_fit.ensures c.if-not-trees_fit.false) (told c.programs_fit.ensures c.if-not-programs_fit.false) (not_told c.grounded.ensures c.if-not-grounded.true)

pub returns : goal.returns
returns c =
    let p = c.requires in
    well_formed_lem
    (record {
      size = p.size;
      sections = p.sections;
      tags = told c.tags_fit.ensures c.if-not-tags_fit.false;
      productions = told c.productions_fit.ensures c.if-not-productions_fit.false;
      trees = told c.trees_fit.ensures c.if-not-trees_fit.false;
      programs = told c.programs_fit.ensures c.if-not-programs_fit.false;
      grounded = told c.grounded.ensures c.if-not-grounded.false;
    })
