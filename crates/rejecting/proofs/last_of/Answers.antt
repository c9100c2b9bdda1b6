use mathlib.Core.Path.{refl, sym, ap}
use Rattle.rejecting.specs.Told.{starting}
use borrow.Author.Rules.{rules}
use Rattle.rejecting.proofs.last_of.Goals as goal

-- src/lib.rt:85:21
pub enum_known-x : goal.enum_known-x
enum_known-x c = search rules

-- src/lib.rt:86:17
pub production_for-requires : goal.production_for-requires
production_for-requires c = search rules

-- src/lib.rt:92:30
pub enum_told-1 : goal.enum_told-1
enum_told-1 c = search rules

-- src/lib.rt:93:24
pub enum_told-in-End : goal.enum_told-in-End
enum_told-in-End c = search rules

pub returns-in-Some : goal.returns-in-Some
returns-in-Some c =
    rw c.in-Tag.is (c.production_for.result, c.production_for.ensures, ap starting (sym c.in-Some.is))

pub returns-in-None : goal.returns-in-None
returns-in-None c =
    rw c.in-Tag.is (c.production_for.result, c.production_for.ensures, ap starting (sym c.in-None.is))

-- src/lib.rt:80:1
pub returns-in-Character : goal.returns-in-Character
returns-in-Character c =
    rw c.in-Character.is refl

-- src/lib.rt:80:1
pub returns-in-End : goal.returns-in-End
returns-in-End c =
    rw c.in-End.is refl
