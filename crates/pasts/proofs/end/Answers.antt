use native.Mathlib.Omega.{arith}
use Rattle.pasts.proofs.Ends.{fit_of, record_fits, ended_as, end_unfit, end_far}
use borrow.Author.Rules.{rules}
use Rattle.pasts.proofs.end.Goals as goal

-- src/lib.rt:28:22
pub overflow_mul-at : goal.overflow_mul-at
overflow_mul-at c =
    let a = c.args in
    let z = (fit_of a.old a.slip c.fits.result c.fits.ensures c.if-fits.true).few in
    search (z, rules)

-- src/lib.rt:30:26
pub overflow_sub-count : goal.overflow_sub-count
overflow_sub-count c =
    let a = c.args in
    let z = (fit_of a.old a.slip c.fits.result c.fits.ensures c.if-fits.true).nodes_behind in
    search (z, rules)

-- src/lib.rt:31:17
pub put_production-past-requires : goal.put_production-past-requires
put_production-past-requires c =
    let a = c.args in
    let e = c.fits in
    let i = c.if-fits.true in
    let z = (fit_of a.old a.slip e.result e.ensures i).few in
    record { at_bound = omega (arith, z); fits_record = record_fits a.old a.slip e.result e.ensures i }

-- src/lib.rt:42:30
pub overflow_add-result : goal.overflow_add-result
overflow_add-result c =
    let a = c.args in
    let e = c.fits in
    let z = (fit_of a.old a.slip e.result e.ensures c.if-fits.true).few in
    search (z, rules)

-- src/lib.rt:41:13
pub returns-then-fits : goal.returns-then-fits
returns-then-fits c = search (ended_as, rules)

-- src/lib.rt:47:9
pub returns-then-old-lt2000 : goal.returns-then-old-lt2000
returns-then-old-lt2000 c = search (end_unfit, rules)

-- src/lib.rt:23:1
pub returns : goal.returns
returns c = search (end_far, rules)
