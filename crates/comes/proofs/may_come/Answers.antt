use mathlib.Core.Path.{ap, ◌∙◌}
use Rattle.trees.proofs.Alikes.{zeros}
use Rattle.sheet.proofs.DefectLaws.{runs_inside}
use Rattle.faults.proofs.Laws.{counted_sums}
use Rattle.comes.specs.Comes.{leads}
use borrow.Author.Rules.{rules}
use Rattle.comes.proofs.may_come.Goals as goal

-- src/lib.rt:43:21
-- src/lib.rt:43:5
pub all_alike-requires : goal.all_alike-requires
all_alike-requires c = record { laid_out = c.requires.laid_out; known_len = search rules; zeros = zeros 4096 }

-- src/lib.rt:44:32
-- src/lib.rt:44:9
pub count_from-end-requires : goal.count_from-end-requires
count_from-end-requires c =
    record { laid_out = c.requires.laid_out; runs_inside = runs_inside _ c.requires.well_formed.productions; trees = c.requires.well_formed.trees; all_alike = c.all_alike.ensures; sums_len = c.requires.sums_len; q_lt_productions = c.requires.q_lt_productions }

-- src/lib.rt:45:5
-- src/lib.rt:34:1
-- src/lib.rt:34:1
pub returns : goal.returns
returns c =
    let n = c.count_from-end.ensures in
    record {
      sums_are = counted_sums n c.requires.zeros (c.count_from-end.auto.sums ∙ c.requires.sums_len);
      end_is = λ g i. c.is_some.ensures ∙ ap leads (n.end_is g i);
    }
