use borrow.Author.Rules.{rules}
use native.Mathlib.Omega.{arith}
use Rattle.trees.proofs.Alikes.{zeros}
use Rattle.faults.proofs.Laws.{join}
use Rattle.faults.proofs.list_faults.Goals as goal

-- The cells are counted first; the T faults and the S faults follow each other.
pub all_alike-requires : goal.all_alike-requires
all_alike-requires c = record { laid_out = c.requires.laid_out; known_len = search rules; zeros = zeros 4096 }

pub t_faults-t-requires : goal.t_faults-t-requires
t_faults-t-requires c = record { laid_out = c.requires.laid_out; all_alike = c.all_alike.ensures; at_bound = omega arith }

pub s_faults-all-requires : goal.s_faults-all-requires
s_faults-all-requires c =
    record { laid_out = c.requires.laid_out; well_formed = c.requires.well_formed; all_alike = c.all_alike.ensures; at_bound = omega (arith, c.t_faults-t.ensures.high) }

pub returns : goal.returns
returns c =
    let t = c.t_faults-t.ensures in
    record {
      t_is = λ g i. omega (arith, (t.is g i).next);
      all_is = (join _ _ t c.s_faults-all.ensures).is;
    }
