use borrow.Author.Rules.{rules}
use Rattle.drafts.proofs.Laws.{fits_all, fits_many, fits_deep, fits_long}
use Rattle.drafts.proofs.fits.Goals as goal

pub returns-then-d-lt64 : goal.returns-then-d-lt64
returns-then-d-lt64 c = search (fits_all, rules)

pub returns-else-d-lt64 : goal.returns-else-d-lt64
returns-else-d-lt64 c = search (fits_many, fits_deep, fits_long, rules)

pub returns-else-s-lt13 : goal.returns-else-s-lt13
returns-else-s-lt13 c = search (fits_many, fits_deep, fits_long, rules)

pub returns-else-s-lt33 : goal.returns-else-s-lt33
returns-else-s-lt33 c = search (fits_many, fits_deep, fits_long, rules)
