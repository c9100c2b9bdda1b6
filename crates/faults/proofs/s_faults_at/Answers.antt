use borrow.Author.Rules.{rules}
use mathlib.Core.Path.{ap, ◌∙◌}
use native.Mathlib.Omega.{arith}
use Rattle.expressions.specs.Grammar.{content_of, tags_of, character, end}
use Rattle.expressions.specs.Decide.{count}
use Rattle.expressions.specs.Listed.{is_many}
use Rattle.trees.proofs.Alikes.{zeros}
use Rattle.sheet.proofs.DefectLaws.{runs_inside}
use Rattle.faults.proofs.Laws.{join, entry_put, counted_sums, character_told}
use Rattle.faults.proofs.s_faults_at.Goals as goal

-- One walk makes the sums; the three parts of a place follow each other, each by what its sum tells.
pub count_from-ends-requires : goal.count_from-ends-requires
count_from-ends-requires c =
    record { laid_out = c.requires.laid_out; runs_inside = runs_inside _ c.requires.well_formed.productions; trees = c.requires.well_formed.trees; all_alike = c.requires.all_alike; sums_len = search rules; q_lt_productions = c.requires.q_lt_productions }

pub s_faults_by_tag-tags-requires : goal.s_faults_by_tag-tags-requires
s_faults_by_tag-tags-requires c =
    record { laid_out = c.requires.laid_out; sums_are = counted_sums c.count_from-ends.ensures (zeros 65) (search rules); at_bound = omega (arith, c.requires.at_bound); q_bound = omega (arith, c.requires.q_lt_productions, c.requires.laid_out.few_productions); p_bound = c.requires.p_bound }

pub put_entry-requires : goal.put_entry-requires
put_entry-requires c =
    record { at_bound = omega (arith, c.put_entry-character.ensures.upper_bound, c.s_faults_by_tag-tags.ensures.high, c.requires.at_bound); first_bound = omega (arith, c.requires.q_lt_productions, c.requires.laid_out.few_productions); second_bound = c.requires.p_bound; third_bound = omega arith }

pub returns : goal.returns
returns c =
    let a = c.args in
    let counted = c.count_from-ends.ensures in
    let sums = counted_sums counted (zeros 65) (search rules) in
    join _ _ c.s_faults_by_tag-tags.ensures
    (join _ _
    (entry_put 9 a.q a.p 254 _ (λ g. is_many (count (tags_of g) (content_of g a.q) a.p character)) (λ g i. character_told sums g i) (c.put_entry-character.ensures.put_as, c.put_entry-character.ensures.upper_bound))
    (entry_put 9 a.q a.p 255 _ (λ g. is_many (count (tags_of g) (content_of g a.q) a.p end)) (λ g i. c.is_many-many.ensures ∙ ap is_many (counted.end_is g i)) (c.put_entry.ensures.put_as, c.put_entry.ensures.upper_bound)))
